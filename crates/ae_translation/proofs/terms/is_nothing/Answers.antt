use Rattle.std.proofs.Common.{◌∙◌, ap}
use Rattle.ae_elab.specs.Elaboration.{leaf}
use Rattle.ae_lifting.specs.Lifting.{cases_of}
use Rattle.ae_translation.proofs.CaseLaws.{held_leaf}
use Rattle.ae_translation.proofs.terms.is_nothing.Goals as goal

pub returns-in-Leaf : goal.returns-in-Leaf
returns-in-Leaf c = λ h. ap cases_of c.in-Leaf.is ∙ held_leaf c.in-Leaf.terms ∙ ap leaf (c.is_empty.ensures.0 h)

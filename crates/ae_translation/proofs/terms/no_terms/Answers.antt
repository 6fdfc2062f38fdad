use Rattle.std.proofs.Common.{◌∙◌, ap}
use Rattle.ae_elab.specs.Elaboration.{leaf}
use Rattle.ae_translation.proofs.CaseLaws.{held_leaf}
use Rattle.ae_translation.proofs.NodeRules.{boxed_cases}
use Rattle.ae_translation.proofs.terms.no_terms.Goals as goal

pub returns : goal.returns
returns c = boxed_cases c.new-2.result _ _ (held_leaf _ ∙ ap leaf c.new.ensures) c.new-2.ensures

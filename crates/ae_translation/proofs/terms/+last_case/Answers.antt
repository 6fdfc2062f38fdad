use Rattle.std.proofs.Common.{◌∙◌, sym, ap}
use Rattle.ae_elab.specs.Elaboration.{value_of}
use Rattle.ae_lifting.specs.declared.cases.Cases as held
use Rattle.ae_lifting.specs.Lifting.{cases_of}
use Rattle.ae_translation.proofs.CaseLaws.{held_leaf, held_branch}
use Rattle.ae_translation.proofs.terms.+last_case.Goals as goal

pub returns-in-Leaf : goal.returns-in-Leaf
returns-in-Leaf t c = sym (ap (λ (z : held.Cases). value_of (cases_of z)) c.in-Leaf.is ∙ ap value_of (held_leaf c.in-Leaf.terms))

pub returns : goal.returns
returns t c =
    c.last_case.ensures ∙ ap (λ (z : held.Cases). value_of (cases_of z)) c.into_inner-inner.ensures
    ∙ sym (ap (λ (z : held.Cases). value_of (cases_of z)) c.in-Branch.is ∙ ap value_of (held_branch _ _ c.in-Branch.negative))

use Rattle.std.proofs.Common.{◌∙◌, ◌++◌, ◌∷◌, [], List, ap}
use Rattle.ae_core.specs.declared.terms.Term.{Term}
use Rattle.ae_elab.specs.Elaboration.{leaf}
use Rattle.ae_lifting.proofs.LiftingLaws.{cases_leaf}
use Rattle.ae_lifting.proofs.cases.changed_leaf.Goals as goal

pub returns : goal.returns
returns c =
    cases_leaf c.push.new.self
    ∙ ap leaf
    (c.in_ok-push.ensures.ok
    ∙ ap (λ (z : List Term). z ++ c.in_ok-record.record ∷ []) c.new-all.ensures
    ∙ ap (λ (u : Term). u ∷ []) c.in_ok-record.ensures)

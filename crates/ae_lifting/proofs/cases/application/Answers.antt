use Rattle.std.proofs.Common.{◌∙◌, ◌++◌, ◌∷◌, [], List, ap}
use Rattle.ae_core.specs.declared.terms.Term.{Term, Apply}
use Rattle.ae_core.specs.declared.terms.Sort.{Sort}
use Rattle.ae_elab.specs.Elaboration.{leaf}
use Rattle.ae_lifting.proofs.LiftingLaws.{cases_leaf}
use Rattle.ae_lifting.proofs.cases.application.Goals as goal

pub returns : goal.returns
returns c =
    cases_leaf c.push.new.self
    ∙ ap leaf
    (c.in_ok-push.ensures.ok
    ∙ ap (λ (z : List Term). z ++ Apply c.args.head c.in_ok-sorts.sorts c.args.args ∷ []) c.new-all.ensures
    ∙ ap (λ (z : List Sort). Apply c.args.head z c.args.args ∷ []) c.in_ok-sorts.ensures)

use Rattle.std.proofs.Common.{◌≡◌, ◌∙◌, ◌++◌, ◌∷◌, [], List, ap}
use Rattle.std.proofs.lemmas.Result.{IfOk-at_ok}
use Rattle.ae_core.specs.declared.terms.Term.{Term}
use Rattle.ae_elab.specs.Elaboration.{value_of}
use Rattle.ae_lifting.specs.declared.cases.Cases as held
use Rattle.ae_lifting.specs.Lifting.{cases_of}
use Rattle.ae_translation.proofs.NodeRules.{same_answer}
use Rattle.ae_translation.proofs.terms.with_trigger.Goals as goal

pub returns-in-Ok : goal.returns-in-Ok
returns-in-Ok c x p =
    same_answer c.pushed.result _ _
    (ap (λ (t : List Term). c.args.triggers ++ t ∷ [])
    (c.last_case-trigger.ensures ∙ ap (λ (z : held.Cases). value_of (cases_of z)) c.into_inner-inner.ensures ∙ ap value_of (IfOk-at_ok (λ (cs : held.Cases). cases_of cs ≡ x) c.in-Ok.is p)))
    c.pushed.ensures

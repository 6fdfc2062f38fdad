use Rattle.std.proofs.Common.{◌≡◌, ◌∙◌, ◌∷◌, [], List, ap}
use Rattle.std.proofs.lemmas.Result.{IfOk-at_ok}
use Rattle.ae_core.specs.declared.terms.Term.{Term, Apply}
use Rattle.ae_elab.specs.Elaboration.{Cases, leaf, ◌|>◌}
use Rattle.ae_lifting.specs.declared.cases.Cases as held
use Rattle.ae_lifting.specs.Lifting.{cases_of}
use Rattle.ae_lifting.specs.Inner.Answered.{AreOk}
use Rattle.ae_translation.proofs.NodeRules.{boxed_cases}
use Rattle.ae_core.specs.declared.terms.Head.{Head}
use Rattle.ae_core.specs.declared.terms.Sort.{Sort}
use Rattle.ae_translation.proofs.terms.application.Goals as goal

pub returns : goal.returns
returns c x h ss p q r =
    let made = c.in_ok-args in
    let parts = IfOk-at_ok (λ v. AreOk c.args.head c.args.sorts v.0 v.1) made.ensures.1 c.both-parts.ensures in
    let a : cases_of c.into_inner-terms.result ≡ x = ap cases_of c.into_inner-terms.ensures ∙ IfOk-at_ok (λ (cs : held.Cases). cases_of cs ≡ x) made.ensures.0 p in
    let b : made.head ≡ h = IfOk-at_ok (λ (z : Head). z ≡ h) parts.0 q in
    let d : made.sorts ≡ ss = IfOk-at_ok (λ (z : List Sort). z ≡ ss) parts.1 r in
    let lent = c.as_slice.result.now in
    boxed_cases c.new.result _ _
    (c.in_ok-all.ensures ∙ ap (λ (z : Cases (List Term)). z |> λ (us : List Term). leaf (Apply made.head lent us ∷ [])) a
    ∙ ap (λ (z : Head). x |> λ (us : List Term). leaf (Apply z lent us ∷ [])) b
    ∙ ap (λ (z : List Sort). x |> λ (us : List Term). leaf (Apply h z us ∷ [])) (c.as_slice.ensures ∙ d))
    c.new.ensures

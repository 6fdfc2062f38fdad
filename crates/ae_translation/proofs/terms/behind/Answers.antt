use Rattle.std.proofs.Common.{◌≡◌, ◌∙◌, ◌++◌, List, ap}
use Rattle.std.proofs.lemmas.Result.{IfOk-at_ok}
use Rattle.ae_core.specs.declared.terms.Term.{Term}
use Rattle.ae_elab.specs.Elaboration.{Cases, leaf, ◌|>◌}
use Rattle.ae_lifting.specs.declared.cases.Cases as held
use Rattle.ae_lifting.specs.Lifting.{cases_of}
use Rattle.ae_translation.proofs.NodeRules.{boxed_cases}
use Rattle.ae_translation.proofs.terms.behind.Goals as goal

pub returns : goal.returns
returns c x y p q =
    let made = c.in_ok-first in
    let a : cases_of c.into_inner-start.result ≡ x = ap cases_of c.into_inner-start.ensures ∙ IfOk-at_ok (λ (cs : held.Cases). cases_of cs ≡ x) made.ensures.0 p in
    let b : cases_of c.into_inner-end.result ≡ y = ap cases_of c.into_inner-end.ensures ∙ IfOk-at_ok (λ (cs : held.Cases). cases_of cs ≡ y) made.ensures.1 q in
    boxed_cases c.new.result _ _
    (c.in_ok-all.ensures ∙ ap (λ (z : Cases (List Term)). z |> λ (us : List Term). cases_of c.into_inner-end.result |> λ (vs : List Term). leaf (us ++ vs)) a
    ∙ ap (λ (z : Cases (List Term)). x |> λ (us : List Term). z |> λ (vs : List Term). leaf (us ++ vs)) b)
    c.new.ensures

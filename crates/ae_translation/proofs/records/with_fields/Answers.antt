use Rattle.std.proofs.Common.{◌≡◌, ◌∙◌, ◌++◌, ◌∷◌, [], List, ap}
use Rattle.std.proofs.lemmas.Result.{IfOk-at_ok}
use Rattle.ae_core.specs.declared.terms.Term.{Term}
use Rattle.ae_elab.specs.Elaboration.{Cases, leaf, ◌|>◌}
use Rattle.ae_lifting.specs.declared.cases.Cases as held
use Rattle.ae_lifting.specs.Lifting.{cases_of, changed_in}
use Rattle.ae_translation.proofs.NodeRules.{boxed_cases}
use Rattle.ae_core.specs.declared.terms.Sort.{Sort}
use Rattle.ae_translation.proofs.records.with_fields.Goals as goal

pub returns : goal.returns
returns c x y ss p q r =
    let made = c.in_ok-terms in
    let all = x |> λ (us : List Term). y |> λ (vs : List Term). leaf (us ++ vs) in
    let a : cases_of c.into_inner-terms.result ≡ all = ap cases_of c.into_inner-terms.ensures ∙ IfOk-at_ok (λ (cs : held.Cases). cases_of cs ≡ all) made.ensures.0 (c.behind-all.ensures x y p q) in
    let b : made.sorts ≡ ss = IfOk-at_ok (λ (z : List Sort). z ≡ ss) made.ensures.1 r in
    let changed = λ (zs : List Sort) (us : List Term). leaf (changed_in c.args.of zs c.args.count c.args.places.now us ∷ []) in
    boxed_cases c.new.result _ _
    (c.in_ok-record.ensures ∙ ap (λ (z : Cases (List Term)). z |> changed c.as_slice.result.now) a ∙ ap (λ (z : List Sort). all |> changed z) (c.as_slice.ensures ∙ b)) c.new.ensures

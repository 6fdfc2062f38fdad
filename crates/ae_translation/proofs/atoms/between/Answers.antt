use Rattle.std.proofs.Common.{◌≡◌, ◌∙◌, ◌++◌, List, ap}
use Rattle.std.proofs.lemmas.Result.{IfOk-at_ok}
use Rattle.ae_core.specs.declared.terms.Term.{Term}
use Rattle.ae_elab.specs.Elaboration.{Cases, leaf, ◌|>◌, formula_of}
use Rattle.ae_lifting.specs.declared.cases.Cases as held
use Rattle.ae_lifting.specs.Lifting.{cases_of, said_of}
use Rattle.ae_translation.proofs.NodeRules.{same_answer}
use Rattle.ae_lifting.specs.declared.cases.Atom.TheVariants.{Relation}
use Rattle.ae_translation.specs.Listed.{listed}
use Rattle.ae_translation.proofs.CaseLaws.{related_listed}
use Rattle.ae_translation.proofs.atoms.between.Goals as goal

pub returns : goal.returns
returns c x y p q =
    let made = c.in_ok-left in
    let a : cases_of c.into_inner-first.result ≡ listed x = ap cases_of c.into_inner-first.ensures ∙ IfOk-at_ok (λ (cs : held.Cases). cases_of cs ≡ listed x) made.ensures.0 p in
    let b : cases_of c.into_inner-second.result ≡ listed y = ap cases_of c.into_inner-second.ensures ∙ IfOk-at_ok (λ (cs : held.Cases). cases_of cs ≡ listed y) made.ensures.1 q in
    let on = λ (u v : Cases (List Term)). formula_of (u |> λ (us : List Term). v |> λ (vs : List Term). leaf (said_of (Relation c.args.relation) (us ++ vs))) in
    same_answer c.new.result _ _ (c.in_ok-formula.ensures ∙ ap (λ (z : Cases (List Term)). on z (cases_of c.into_inner-second.result)) a ∙ ap (on (listed x)) b ∙ ap formula_of (related_listed c.args.relation x y)) c.new.ensures

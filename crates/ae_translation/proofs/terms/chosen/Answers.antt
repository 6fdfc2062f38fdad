use Rattle.std.proofs.Common.{◌≡◌, ◌∙◌, List, ap}
use Rattle.std.proofs.lemmas.Result.{IfOk-at_ok}
use Rattle.ae_core.specs.declared.terms.Term.{Term}
use Rattle.ae_elab.specs.Elaboration.{Cases, branch}
use Rattle.ae_lifting.specs.declared.cases.Cases as held
use Rattle.ae_lifting.specs.Lifting.{cases_of}
use Rattle.ae_lifting.specs.Inner.Answered.{AreOk}
use Rattle.ae_translation.proofs.NodeRules.{boxed_cases}
use Rattle.ae_translation.proofs.CaseLaws.{held_branch}
use Rattle.ae_core.specs.declared.formulas.Formula.{Formula}
use Rattle.ae_translation.proofs.terms.chosen.Goals as goal

pub returns : goal.returns
returns c f x y p q r =
    let made = c.in_ok-condition in
    let parts = IfOk-at_ok (λ v. AreOk c.args.positive c.args.negative v.0 v.1) made.ensures.1 c.both-cases.ensures in
    let a : c.into_inner-condition.result ≡ f = c.into_inner-condition.ensures ∙ IfOk-at_ok (λ (z : Formula). z ≡ f) made.ensures.0 p in
    let b : cases_of made.positive ≡ x = IfOk-at_ok (λ (cs : held.Cases). cases_of cs ≡ x) parts.0 q in
    let d : cases_of made.negative ≡ y = IfOk-at_ok (λ (cs : held.Cases). cases_of cs ≡ y) parts.1 r in
    boxed_cases c.new.result _ _
    (held_branch _ _ _ ∙ ap (λ (z : Formula). branch z (cases_of made.positive) (cases_of made.negative)) a
    ∙ ap (λ (z : Cases (List Term)). branch f z (cases_of made.negative)) b ∙ ap (branch f x) d)
    c.new.ensures

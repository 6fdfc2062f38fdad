use Rattle.std.proofs.Common.{◌≡◌, ◌∙◌, ap}
use Rattle.std.proofs.lemmas.Result.{IfOk-at_ok}
use Rattle.ae_core.specs.declared.formulas.Formula.{Formula}
use Rattle.ae_translation.proofs.NodeRules.{same_answer}
use Rattle.ae_elab.specs.Elaboration.{either_way}
use Rattle.ae_lifting.specs.Inner.Answered.{AreOk}
use Rattle.ae_translation.proofs.connectives.conditional.Goals as goal

pub returns : goal.returns
returns c k f g p q r =
    let made = c.in_ok-condition in
    let parts = IfOk-at_ok (λ v. AreOk c.args.positive c.args.negative v.0 v.1) made.ensures.1 c.both-cases.ensures in
    let a : c.into_inner-test.result ≡ k = c.into_inner-test.ensures ∙ IfOk-at_ok (λ (z : Formula). z ≡ k) made.ensures.0 p in
    let b : c.into_inner-yes.result ≡ f = c.into_inner-yes.ensures ∙ IfOk-at_ok (λ (z : Formula). z ≡ f) parts.0 q in
    let d : c.into_inner-no.result ≡ g = c.into_inner-no.ensures ∙ IfOk-at_ok (λ (z : Formula). z ≡ g) parts.1 r in
    same_answer c.new.result _ _
    (c.in_ok-formula.ensures ∙ ap (λ (z : Formula). either_way z c.into_inner-yes.result c.into_inner-no.result) a ∙ ap (λ (z : Formula). either_way k z c.into_inner-no.result) b ∙ ap (either_way k f) d) c.new.ensures

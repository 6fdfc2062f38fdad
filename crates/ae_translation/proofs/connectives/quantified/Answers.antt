use Rattle.std.proofs.Common.{◌≡◌, ◌∙◌, List, ap}
use Rattle.std.proofs.lemmas.Result.{IfOk-at_ok}
use Rattle.ae_core.specs.declared.formulas.Formula.{Formula}
use Rattle.ae_translation.proofs.NodeRules.{same_answer}
use Rattle.ae_core.specs.declared.terms.Sort.{Sort}
use Rattle.ae_core.specs.declared.terms.Term.{Term}
use Rattle.ae_elab.specs.Elaboration.{over}
use Rattle.ae_lifting.specs.Inner.Answered.{AreOk}
use Rattle.ae_translation.proofs.connectives.quantified.Goals as goal

pub returns : goal.returns
returns c ss ts f p q r =
    let made = c.in_ok-sorts in
    let parts = IfOk-at_ok (λ v. AreOk c.args.triggers c.args.body v.0 v.1) made.ensures.1 c.both-inner.ensures in
    let a : made.sorts ≡ ss = IfOk-at_ok (λ (z : List Sort). z ≡ ss) made.ensures.0 p in
    let b : made.triggers ≡ ts = IfOk-at_ok (λ (z : List (List Term)). z ≡ ts) parts.0 q in
    let d : c.into_inner-under.result ≡ f = c.into_inner-under.ensures ∙ IfOk-at_ok (λ (z : Formula). z ≡ f) parts.1 r in
    let k = c.args.quantifier in
    same_answer c.new.result _ _
    (c.in_ok-formula.ensures ∙ ap (λ (z : List Sort). over k z made.triggers c.into_inner-under.result) a ∙ ap (λ (z : List (List Term)). over k ss z c.into_inner-under.result) b ∙ ap (over k ss ts) d) c.new.ensures

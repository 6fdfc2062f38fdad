use Rattle.std.proofs.Common.{◌≡◌, ◌∙◌, ap}
use Rattle.std.proofs.lemmas.Result.{IfOk-at_ok}
use Rattle.ae_core.specs.declared.formulas.Formula.{Formula}
use Rattle.ae_translation.proofs.NodeRules.{same_answer}
use Rattle.ae_translation.specs.Inner.Connected.{connected}
use Rattle.ae_translation.proofs.connectives.joined_by.Goals as goal

pub returns : goal.returns
returns c f g p q =
    let made = c.in_ok-left in
    let a : made.left ≡ f = IfOk-at_ok (λ (z : Formula). z ≡ f) made.ensures.0 p in
    let b : made.right ≡ g = IfOk-at_ok (λ (z : Formula). z ≡ g) made.ensures.1 q in
    same_answer c.new.result _ _ (c.in_ok-formula.ensures ∙ ap (λ (z : Formula). connected c.args.connective z made.right) a ∙ ap (connected c.args.connective f) b) c.new.ensures

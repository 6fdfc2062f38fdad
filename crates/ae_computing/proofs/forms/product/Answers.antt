use Rattle.std.proofs.Common.{◌≡◌, ◌∙◌, sym}
use Rattle.std.proofs.lemmas.Result.{IfOk-weaker}
use Rattle.ae_math.specs.Forms.{single, scale}
use Rattle.ae_rules.specs.Linear.{times}
use Rattle.ae_computing.specs.Inner.Exact.{meaning}
use Rattle.ae_computing.proofs.ExactLaws.{times_left, times_right, times_opaque}
use Rattle.ae_computing.proofs.forms.product.Goals as goal

pub returns-then-branch : goal.returns-then-branch
returns-then-branch c =
    let w = c.args.whole.now in
    let f = meaning c.args.left.now in
    let g = meaning c.args.right.now in
    IfOk-weaker c.multiple_of.result (λ p. meaning p ≡ scale f.constant g) (λ p. meaning p ≡ times w f g)
    (λ p e. e ∙ sym (times_left w f g (sym c.in_ok-is_number.ensures ∙ c.if-branch.true))) c.multiple_of.ensures

pub returns-then-branch-2 : goal.returns-then-branch-2
returns-then-branch-2 c =
    let w = c.args.whole.now in
    let f = meaning c.args.left.now in
    let g = meaning c.args.right.now in
    IfOk-weaker c.multiple_of-then-branch-2.result (λ p. meaning p ≡ scale g.constant f) (λ p. meaning p ≡ times w f g)
    (λ p e. e ∙ sym (times_right w f g (sym c.in_ok-is_number.ensures ∙ c.if-branch.false) (sym c.in_ok-is_number-2.ensures ∙ c.if-branch-2.true)))
    c.multiple_of-then-branch-2.ensures

pub returns : goal.returns
returns c =
    let w = c.args.whole.now in
    let f = meaning c.args.left.now in
    let g = meaning c.args.right.now in
    IfOk-weaker c.single.result (λ p. meaning p ≡ single w) (λ p. meaning p ≡ times w f g)
    (λ p e. e ∙ sym (times_opaque w f g (sym c.in_ok-is_number.ensures ∙ c.if-branch.false) (sym c.in_ok-is_number-2.ensures ∙ c.if-branch-2.false)))
    c.single.ensures

use Rattle.std.specs.Prelude.{◌≡◌, IfOk, neg_ℤ, pos}
use Rattle.std.proofs.Common.{subst, sym}
use Rattle.ae_math.specs.Forms.{plus, minus}
use Rattle.ae_num.specs.declared.forms.Lin.{Lin}
use Rattle.ae_num.specs.Forms.{meaning, SameMeaning, IsNormal, sum_of, multiple_of}
use Rattle.ae_numeric.specs.Computing.{IsFormOf}
use Rattle.ae_numeric.specs.Inner.Rules.{joined_forms}
use Rattle.ae_numeric.specs.declared.forms.Operation.{Operation}
use Rattle.ae_numeric.proofs.NamedLaws.{sum_is_form, difference_is_form}
use Rattle.ae_numeric.proofs.ComputedLaws.{if_three}
use Rattle.ae_numeric.proofs.forms.joined_form.Goals as goal

pub returns-in-Sum-clause-meaning : goal.returns-in-Sum-clause-meaning
returns-in-Sum-clause-meaning c f g p q =
    let ks = c.args.keys.now in
    let x = c.args.left.now in
    let y = c.args.right.now in
    subst (λ (o : Operation). IfOk c.plus.result (λ z. IsFormOf ks z (joined_forms o c.args.whole.now f g))) (sym c.in-Sum.is)
    (if_three c.plus.result (λ z. z ≡ sum_of x y) IsNormal (λ z. SameMeaning (meaning z) (plus (meaning x) (meaning y))) (λ z. IsFormOf ks z (plus f g))
    (λ (z : Lin) e n s. sum_is_form ks z x y f g p q e n s) c.plus.ensures.form c.plus.ensures.normal c.plus.ensures.exact)

pub returns-in-Difference-clause-meaning : goal.returns-in-Difference-clause-meaning
returns-in-Difference-clause-meaning c f g p q =
    let ks = c.args.keys.now in
    let x = c.args.left.now in
    let y = c.args.right.now in
    subst (λ (o : Operation). IfOk c.form_difference.result (λ z. IsFormOf ks z (joined_forms o c.args.whole.now f g))) (sym c.in-Difference.is)
    (if_three c.form_difference.result (λ z. z ≡ sum_of x (multiple_of (neg_ℤ (pos 1)) (pos 1) y)) IsNormal (λ z. SameMeaning (meaning z) (minus (meaning x) (meaning y))) (λ z. IsFormOf ks z (minus f g))
    (λ (z : Lin) e n s. difference_is_form ks z x y f g p q e n s) c.form_difference.ensures.form c.form_difference.ensures.normal c.form_difference.ensures.exact)

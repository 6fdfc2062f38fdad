use Rattle.std.proofs.Common.{◌≡◌, ◌∙◌, [], ◌∷◌, sym, ap}
use Rattle.std.proofs.lemmas.Result.{IfOk-weaker}
use Rattle.ae_math.specs.Forms.{single, plus, scale}
use Rattle.ae_core.specs.declared.terms.Term.{Term}
use Rattle.ae_rules.specs.Linear.{times, ruled}
use Rattle.ae_naturals.specs.Fractions.{value_of}
use Rattle.ae_computing.specs.Inner.Operations.{ruled_by, value_if}
use Rattle.ae_computing.specs.Inner.Exact.{meaning}
use Rattle.ae_computing.specs.declared.operations.Operation.TheVariants.{Sum, Difference, Product, Quotient}
use Rattle.ae_computing.proofs.OperationLaws.{over_if}
use Rattle.ae_computing.proofs.ExactLaws.{plus_once, by_operation, over_inverse}
use Rattle.ae_computing.proofs.forms.joined.Goals as goal

pub returns-in_ok-one-in-Sum : goal.returns-in_ok-one-in-Sum
returns-in_ok-one-in-Sum c =
    let w = c.args.whole.now in
    let f = meaning c.args.left.now in
    let g = meaning c.args.right.now in
    let s = c.args.second.now in
    IfOk-weaker c.combination.result (λ p. meaning p ≡ plus f (scale (value_of c.in_ok-one-in-Sum.field-0) g))
    (λ p. (first : Term) → meaning p ≡ ruled w (ruled_by c.args.operation ((first, f) ∷ (s, g) ∷ [])))
    (λ p e first. by_operation w c.args.operation Sum ((first, f) ∷ (s, g) ∷ []) (meaning p) c.in-Sum.is (e ∙ ap (λ z. plus f (scale z g)) c.in_ok-one-in-Sum.ensures ∙ plus_once f g)) c.combination.ensures

pub returns-in_ok-minus_one-in-Difference : goal.returns-in_ok-minus_one-in-Difference
returns-in_ok-minus_one-in-Difference c =
    let w = c.args.whole.now in
    let f = meaning c.args.left.now in
    let g = meaning c.args.right.now in
    let s = c.args.second.now in
    IfOk-weaker c.combination-in-Difference.result (λ p. meaning p ≡ plus f (scale (value_of c.in_ok-minus_one-in-Difference.field-0) g))
    (λ p. (first : Term) → meaning p ≡ ruled w (ruled_by c.args.operation ((first, f) ∷ (s, g) ∷ [])))
    (λ p e first. by_operation w c.args.operation Difference ((first, f) ∷ (s, g) ∷ []) (meaning p) c.in-Difference.is (e ∙ ap (λ z. plus f (scale z g)) c.in_ok-minus_one-in-Difference.ensures)) c.combination-in-Difference.ensures

pub returns-in-Product : goal.returns-in-Product
returns-in-Product c =
    let w = c.args.whole.now in
    let f = meaning c.args.left.now in
    let g = meaning c.args.right.now in
    let s = c.args.second.now in
    IfOk-weaker c.product.result (λ p. meaning p ≡ times w f g)
    (λ p. (first : Term) → meaning p ≡ ruled w (ruled_by c.args.operation ((first, f) ∷ (s, g) ∷ [])))
    (λ p e first. by_operation w c.args.operation Product ((first, f) ∷ (s, g) ∷ []) (meaning p) c.in-Product.is e) c.product.ensures

pub returns-in-Some : goal.returns-in-Some
returns-in-Some c =
    let w = c.args.whole.now in
    let f = meaning c.args.left.now in
    let g = meaning c.args.right.now in
    let s = c.args.second.now in
    IfOk-weaker c.multiple_of.result (λ p. meaning p ≡ scale (value_of c.in-Some.inverse) f)
    (λ p. (first : Term) → meaning p ≡ ruled w (ruled_by c.args.operation ((first, f) ∷ (s, g) ∷ [])))
    (λ p e first. by_operation w c.args.operation Quotient ((first, f) ∷ (s, g) ∷ []) (meaning p) c.in-Quotient.is
    (e ∙ ap (λ o. over_if w f (value_if o)) (sym c.in-Some.is) ∙ sym (over_inverse w f s c.in_ok-inverse-in-Quotient.field-0 c.in_ok-inverse-in-Quotient.ensures))) c.multiple_of.ensures

pub returns-in-None : goal.returns-in-None
returns-in-None c =
    let w = c.args.whole.now in
    let f = meaning c.args.left.now in
    let g = meaning c.args.right.now in
    let s = c.args.second.now in
    IfOk-weaker c.single.result (λ p. meaning p ≡ single w)
    (λ p. (first : Term) → meaning p ≡ ruled w (ruled_by c.args.operation ((first, f) ∷ (s, g) ∷ [])))
    (λ p e first. by_operation w c.args.operation Quotient ((first, f) ∷ (s, g) ∷ []) (meaning p) c.in-Quotient.is
    (e ∙ ap (λ o. over_if w f (value_if o)) (sym c.in-None.is) ∙ sym (over_inverse w f s c.in_ok-inverse-in-Quotient.field-0 c.in_ok-inverse-in-Quotient.ensures))) c.single.ensures

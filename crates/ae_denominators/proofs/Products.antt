-- Sums, multiples and forms with a value put for a name have whole factors over the product of the denominators.
use Rattle.std.specs.Prelude.{ℕ, ℤ, neg_ℤ, pos, ◌≡◌, ◌*ℤ◌, ◌+ℤ◌, ◌<ℤ◌}
use Rattle.std.proofs.Common.{refl, sym, ap, ◌∙◌}
use native.Mathlib.Decide.{ℕ_discrete}
use Rattle.ae_math.specs.Fractions.{one_ℚ, neg_ℚ, ratio, ◌+ℚ◌, ◌*ℚ◌}
use Rattle.ae_math.specs.Forms.{Form, plus, minus, scale, factor, substitute}
use Rattle.ae_math.proofs.FormLaws.{factor_in-append, factor_in-scale, substitute_there, substitute_elsewhere, minus_one}
use Rattle.ae_math.proofs.Wholes.{ratio_neg}
use Rattle.ae_math.specs.Inner.Integers.{ring}
use Rattle.ae_num.specs.declared.forms.Lin.{Lin}
use Rattle.ae_num.specs.Forms.{meaning, factor_of, IsNormal}
use Rattle.ae_num.proofs.MeaningLaws.{factor_meaning, ratio_sum, ratio_times, ratio_put, product_positive}
use Rattle.ae_denominators.specs.Denominators.{IsWholeOver, SumDenominator, DifferenceDenominator, MultipleDenominator, PutDenominator}
use Rattle.ae_denominators.proofs.Least.{least}

pub own : (p : Lin) → IsNormal p → IsWholeOver p.den (meaning p)
own p n = record { factors = λ k. (factor_of p.parts k, factor_meaning p k n.rising); constant = (p.constant, refl) }

plus_over : (f g : Form ℕ) (d e : ℤ) → pos 0 <ℤ d → pos 0 <ℤ e → IsWholeOver d f → IsWholeOver e g → IsWholeOver (d *ℤ e) (plus f g)
plus_over f g d e p q a b = record {
  factors = λ k. ((a.factors k).0 *ℤ e +ℤ (b.factors k).0 *ℤ d, factor_in-append ℕ_discrete f.parts g.parts k ∙ (λ i. (a.factors k).1 i +ℚ (b.factors k).1 i) ∙ sym (ratio_sum (a.factors k).0 d (b.factors k).0 e p q));
  constant = (a.constant.0 *ℤ e +ℤ b.constant.0 *ℤ d, (λ i. a.constant.1 i +ℚ b.constant.1 i) ∙ sym (ratio_sum a.constant.0 d b.constant.0 e p q));
}

scale_over : (f : Form ℕ) (c d e : ℤ) → pos 0 <ℤ d → pos 0 <ℤ e → IsWholeOver d f → IsWholeOver (d *ℤ e) (scale (ratio c e) f)
scale_over f c d e p q a = record {
  factors = λ k. ((a.factors k).0 *ℤ c, factor_in-scale ℕ_discrete (ratio c e) f.parts k ∙ ap (λ x. ratio c e *ℚ x) (a.factors k).1 ∙ sym (ratio_times c e (a.factors k).0 d q p));
  constant = (a.constant.0 *ℤ c, ap (λ x. ratio c e *ℚ x) a.constant.1 ∙ sym (ratio_times c e a.constant.0 d q p));
}

pub sum_denominator : SumDenominator
sum_denominator n p q a b c same =
    least n (plus (meaning p) (meaning q)) (p.den *ℤ q.den) a (product_positive p.den q.den b.positive c.positive) same (plus_over (meaning p) (meaning q) p.den q.den b.positive c.positive (own p b) (own q c))

-- the opposite, over the same number
opposite_over : (f : Form ℕ) (d : ℤ) → IsWholeOver d f → IsWholeOver d (scale (neg_ℚ one_ℚ) f)
opposite_over f d a = record {
  factors = λ k. (neg_ℤ (a.factors k).0, factor_in-scale ℕ_discrete (neg_ℚ one_ℚ) f.parts k ∙ ap (λ x. neg_ℚ one_ℚ *ℚ x) (a.factors k).1 ∙ minus_one (ratio (a.factors k).0 d) ∙ ratio_neg (a.factors k).0 d);
  constant = (neg_ℤ a.constant.0, ap (λ x. neg_ℚ one_ℚ *ℚ x) a.constant.1 ∙ minus_one (ratio a.constant.0 d) ∙ ratio_neg a.constant.0 d);
}

pub difference_denominator : DifferenceDenominator
difference_denominator n p q a b c same =
    least n (minus (meaning p) (meaning q)) (p.den *ℤ q.den) a (product_positive p.den q.den b.positive c.positive) same
    (plus_over (meaning p) (scale (neg_ℚ one_ℚ) (meaning q)) p.den q.den b.positive c.positive (own p b) (opposite_over (meaning q) q.den (own q c)))

pub multiple_denominator : MultipleDenominator
multiple_denominator n p c d a b e same = least n (scale (ratio c d) (meaning p)) (p.den *ℤ d) a (product_positive p.den d b.positive e) same (scale_over (meaning p) c p.den d b.positive e (own p b))

-- ---- a value put for a name
put_there : (p q : Lin) (key : ℕ) → IsNormal p → IsNormal q → (k : ℕ) → Dec (key ≡ k) → (z : ℤ) × (factor ℕ_discrete (substitute ℕ_discrete (meaning p) key (meaning q)) k ≡ ratio z (p.den *ℤ q.den))
put_there p q key a b k (yes e) =
    let at : factor ℕ_discrete (substitute ℕ_discrete (meaning p) key (meaning q)) k ≡ factor ℕ_discrete (meaning p) key *ℚ factor ℕ_discrete (meaning q) key =
    ap (λ (j : ℕ). factor ℕ_discrete (substitute ℕ_discrete (meaning p) key (meaning q)) j) (sym e) ∙ substitute_there ℕ_discrete (meaning p) key (meaning q) in (
      factor_of q.parts key *ℤ factor_of p.parts key,
      at ∙ (λ i. factor_meaning p key a.rising i *ℚ factor_meaning q key b.rising i) ∙ sym (ratio_times (factor_of p.parts key) p.den (factor_of q.parts key) q.den a.positive b.positive)
          ∙ ap (ratio (factor_of q.parts key *ℤ factor_of p.parts key)) (let z : q.den *ℤ p.den ≡ p.den *ℤ q.den = simp ring in z),
    )
put_there p q key a b k (no n) = (
  factor_of p.parts k *ℤ q.den +ℤ factor_of p.parts key *ℤ factor_of q.parts k,
  substitute_elsewhere ℕ_discrete (meaning p) key (meaning q) k n ∙ (λ i. factor_meaning p k a.rising i +ℚ factor_meaning p key a.rising i *ℚ factor_meaning q k b.rising i)
      ∙ sym (ratio_put (factor_of p.parts k) p.den (factor_of p.parts key) (factor_of q.parts k) q.den a.positive b.positive),
)

put_over : (p q : Lin) (key : ℕ) → IsNormal p → IsNormal q → IsWholeOver (p.den *ℤ q.den) (substitute ℕ_discrete (meaning p) key (meaning q))
put_over p q key a b = record {
  factors = λ k. put_there p q key a b k (ℕ_discrete key k);
  constant = (
    p.constant *ℤ q.den +ℤ factor_of p.parts key *ℤ q.constant,
    ap (λ x. ratio p.constant p.den +ℚ x *ℚ ratio q.constant q.den) (factor_meaning p key a.rising) ∙ sym (ratio_put p.constant p.den (factor_of p.parts key) q.constant q.den a.positive b.positive),
  );
}

pub put_denominator : PutDenominator
put_denominator n p q key a b c same = least n (substitute ℕ_discrete (meaning p) key (meaning q)) (p.den *ℤ q.den) a (product_positive p.den q.den b.positive c.positive) same (put_over p q key b c)

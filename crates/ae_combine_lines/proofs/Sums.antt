-- Combinations and multiples of the sums that forms have in a journal.
use Rattle.std.specs.Prelude.{ℕ, true, ◌++◌, ◌≡◌}
use Rattle.std.proofs.Common.{sym, ap, ◌∙◌}
use native.Mathlib.Decide.{ℕ_discrete}
use Rattle.ae_math.specs.Fractions.{ℚ, zero_ℚ, neg_ℚ, ◌+ℚ◌, ◌*ℚ◌, is_positive}
use Rattle.ae_math.specs.Forms.{Form, SameForm, scale, plus}
use Rattle.ae_math.proofs.FractionLaws.{zero_mul_q, add_zero_q}
use Rattle.ae_math.proofs.FormLaws.{factor_in-append, factor_in-scale}
use Rattle.ae_num.specs.declared.forms.Lin.{Lin}
use Rattle.ae_num.specs.Forms.{meaning, SameMeaning}
use Rattle.ae_rows.specs.Rows.{combination, factor_at}
use Rattle.ae_journal.specs.Values.{Sum, leaf_factor, scaled, sum_of_lin}
use Rattle.ae_journal.specs.Rows.{add_sums, IsMultiple}
use Rattle.ae_evaluation.proofs.Sums.{factor-settled, factor-append, factor-scaled, settles, one_sum}

pub factor_in_sum : (l : Lin) (k : ℕ) → leaf_factor (sum_of_lin l).parts k ≡ factor_at k (meaning l)
factor_in_sum l k = factor-settled (meaning l).parts k

-- the factors of a sum of multiples
added_factor : (x y : ℚ) (f g : Sum) (k : ℕ) → leaf_factor (add_sums x f y g).parts k ≡ x *ℚ leaf_factor f.parts k +ℚ y *ℚ leaf_factor g.parts k
added_factor x y f g k =
    factor-settled (scaled x f.parts ++ scaled y g.parts) k ∙ factor-append (scaled x f.parts) (scaled y g.parts) k ∙ (λ i. factor-scaled x f.parts k i +ℚ factor-scaled y g.parts k i)

-- those of a combination
mixed_factor : (x y : ℚ) (f g : Form ℕ) (k : ℕ) → factor_at k (plus (scale x f) (scale y g)) ≡ x *ℚ factor_at k f +ℚ y *ℚ factor_at k g
mixed_factor x y f g k = factor_in-append ℕ_discrete (scale x f).parts (scale y g).parts k ∙ (λ i. factor_in-scale ℕ_discrete x f.parts k i +ℚ factor_in-scale ℕ_discrete y g.parts k i)

module _ (n : ℕ) (p q r : Lin) (same : SameMeaning (meaning r) (combination n (meaning p) (meaning q))) where
  a : ℚ
  a = neg_ℚ (factor_at n (meaning q))

  b : ℚ
  b = factor_at n (meaning p)

  own_factor : (k : ℕ) → leaf_factor (sum_of_lin r).parts k ≡ leaf_factor (add_sums (neg_ℚ (factor_at n (meaning q))) (sum_of_lin p) (factor_at n (meaning p)) (sum_of_lin q)).parts k
  own_factor k =
      factor_in_sum r k ∙ same.factors k ∙ mixed_factor (neg_ℚ (factor_at n (meaning q))) (factor_at n (meaning p)) (meaning p) (meaning q) k
      ∙ (λ i. neg_ℚ (factor_at n (meaning q)) *ℚ sym (factor_in_sum p k) i +ℚ factor_at n (meaning p) *ℚ sym (factor_in_sum q k) i)
      ∙ sym (added_factor (neg_ℚ (factor_at n (meaning q))) (factor_at n (meaning p)) (sum_of_lin p) (sum_of_lin q) k)

  own_sum : sum_of_lin r ≡ add_sums (neg_ℚ (factor_at n (meaning q))) (sum_of_lin p) (factor_at n (meaning p)) (sum_of_lin q)
  own_sum =
      let parts : (sum_of_lin r).parts ≡ (add_sums (neg_ℚ (factor_at n (meaning q))) (sum_of_lin p) (factor_at n (meaning p)) (sum_of_lin q)).parts =
      one_sum (sum_of_lin r).parts (add_sums (neg_ℚ (factor_at n (meaning q))) (sum_of_lin p) (factor_at n (meaning p)) (sum_of_lin q)).parts (settles (meaning r).parts)
      (settles (scaled (neg_ℚ (factor_at n (meaning q))) (sum_of_lin p).parts ++ scaled (factor_at n (meaning p)) (sum_of_lin q).parts)) own_factor in
      λ i. record { parts = parts i; constant = same.constants i }

  pub combined_sum : sum_of_lin r ≡ add_sums (neg_ℚ (leaf_factor (sum_of_lin q).parts n)) (sum_of_lin p) (leaf_factor (sum_of_lin p).parts n) (sum_of_lin q)
  combined_sum = own_sum ∙ (λ i. add_sums (neg_ℚ (sym (factor_in_sum q n) i)) (sum_of_lin p) (sym (factor_in_sum p n) i) (sum_of_lin q))

-- ---- multiples
pub multiple_factor : (f h : Sum) (m : IsMultiple f h) (k : ℕ) → leaf_factor f.parts k ≡ m.0 *ℚ leaf_factor h.parts k
multiple_factor f h m k =
    ap (λ (s : Sum). leaf_factor s.parts k) m.2 ∙ added_factor m.0 zero_ℚ h h k ∙ ap (λ t. m.0 *ℚ leaf_factor h.parts k +ℚ t) (zero_mul_q (leaf_factor h.parts k)) ∙ add_zero_q (m.0 *ℚ leaf_factor h.parts k)

pub multiple_constant : (f h : Sum) (m : IsMultiple f h) → f.constant ≡ m.0 *ℚ h.constant
multiple_constant f h m = ap (λ (s : Sum). s.constant) m.2 ∙ ap (λ t. m.0 *ℚ h.constant +ℚ t) (zero_mul_q h.constant) ∙ add_zero_q (m.0 *ℚ h.constant)

pub multiple_form : (f h : Lin) → IsMultiple (sum_of_lin f) (sum_of_lin h) → (x : ℚ) × (is_positive x ≡ true) × SameForm ℕ_discrete (scale x (meaning h)) (meaning f)
multiple_form f h m = (
  m.0,
  m.1,
  record {
    factors = λ k. factor_in-scale ℕ_discrete m.0 (meaning h).parts k ∙ ap (λ t. m.0 *ℚ t) (sym (factor_in_sum h k)) ∙ sym (multiple_factor (sum_of_lin f) (sum_of_lin h) m k) ∙ factor_in_sum f k;
    constants = sym (multiple_constant (sum_of_lin f) (sum_of_lin h) m);
  },
)

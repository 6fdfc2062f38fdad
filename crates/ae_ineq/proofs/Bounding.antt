-- The bound that a row gives for a name.
use Rattle.std.specs.Prelude.{ℕ, zero, suc, ℤ, pos, negsuc, neg_ℤ, ◌≡◌, ◌≢◌, ◌<ℤ◌, ◌≤ℤ◌, ◌<◌, ◌^◌, [], ◌∷◌, map, Option, Some, None, unsigned_abs}
use Rattle.std.proofs.Common.{arith, refl, sym, ap, ◌∙◌, subst}
use Rattle.std.specs.List.{AllByRecursion}
use native.Mathlib.Decide.{ℕ_discrete}
use borrow.Author.Differences.{ints}
use std.Quotient.{/_rec}
use Rattle.ae_math.specs.Fractions.{ℚ, zero_ℚ, one_ℚ, neg_ℚ, inverse_ℚ, ◌+ℚ◌, ◌*ℚ◌, frac, ratio, is_positive}
use Rattle.ae_base.specs.Decided.{pick}
use Rattle.ae_math.specs.Forms.{scale, value}
use Rattle.ae_math.proofs.FractionLaws.{add_zero_q, one_mul_q, mul_comm_q, neg_mul_q, neg_zero_q, add_neg_cancel_q}
use Rattle.ae_math.proofs.FractionOrder.{positive_zero}
use Rattle.ae_math.proofs.FormLaws.{value-same}
use Rattle.ae_num.specs.declared.forms.Part.{Part}
use Rattle.ae_num.specs.declared.forms.Lin.{Lin}
use Rattle.ae_num.specs.Forms.{meaning, SameMeaning, IsNormal, IsCommonDivisor}
use Rattle.ae_rows.specs.Rows.{factor_at, rest_at, bound_at, IsOver}
use Rattle.ae_rows.proofs.Elimination.{split}
use Rattle.ae_base.proofs.Integers.{size_neg}
use Rattle.ae_base.proofs.Tests.{true_false}
use Rattle.ae_ineq.specs.Inner.Sets.{last_part}
use Rattle.ae_ineq.specs.Inner.Points.{IsNumber}
use Rattle.ae_ineq.proofs.CombiningLaws.{ratio_neg}
use Rattle.ae_ineq.proofs.LastLaws.{ratio_positive, last_factor, last_nonzero, last_below, no_last_parts}

-- ---- the other sign
negative_normal : (l : Lin) → IsNumber l → IsNumber (record l { constant = neg_ℤ l.constant })
negative_normal l n =
    let back = sym (size_neg l.constant) in
    record {
      bare = n.bare;
      normal = record {
        positive = n.normal.positive;
        rising = n.normal.rising;
        nonzero = n.normal.nonzero;
        lowest = subst (λ k. IsCommonDivisor (unsigned_abs l.den ∷ k ∷ map (λ p. unsigned_abs p.factor) l.parts) 1) back n.normal.lowest;
        within = subst (λ k. AllByRecursion (λ n. n < 2 ^ 127) (unsigned_abs l.den ∷ k ∷ map (λ p. unsigned_abs p.factor) l.parts)) back n.normal.within;
      };
    }

pub opposite_number : (l : Lin) (d k : ℤ) → d ≡ l.den → k ≡ neg_ℤ l.constant → IsNumber l → IsNumber (record { den = d; parts = l.parts; constant = k })
opposite_number l d k e f n = subst (λ (m : Lin). IsNumber m) (λ i. record { den = sym e i; parts = l.parts; constant = sym f i }) (negative_normal l n)

pub opposite_value : (l : Lin) (d k : ℤ) → d ≡ l.den → k ≡ neg_ℤ l.constant → ratio k d ≡ neg_ℚ (ratio l.constant l.den)
opposite_value l d k e f = (λ i. ratio (f i) (e i)) ∙ ratio_neg l.constant l.den

-- ---- inverses
pub inverse_positive : (a d : ℤ) → pos 0 <ℤ a → pos 0 <ℤ d → ratio d a ≡ inverse_ℚ (ratio a d)
unfolding inverse_ℚ frac /_rec
inverse_positive (pos zero) d p q = absurd (omega (arith, ints))
inverse_positive (negsuc n) d p q = absurd (omega (arith, ints))
inverse_positive (pos (suc m)) (pos zero) p q = absurd (omega (arith, ints))
inverse_positive (pos (suc m)) (negsuc n) p q = absurd (omega (arith, ints))
inverse_positive (pos (suc m)) (pos (suc n)) p q = refl

pub inverse_negative : (a d : ℤ) → a ≤ℤ pos 0 → a ≢ pos 0 → pos 0 <ℤ d → ratio (neg_ℤ d) (neg_ℤ a) ≡ inverse_ℚ (ratio a d)
unfolding inverse_ℚ frac /_rec
inverse_negative (pos zero) d p n q = absurd (n refl)
inverse_negative (pos (suc m)) d p n q = absurd (omega (arith, ints))
inverse_negative (negsuc m) (pos zero) p n q = absurd (omega (arith, ints))
inverse_negative (negsuc m) (negsuc k) p n q = absurd (omega (arith, ints))
inverse_negative (negsuc m) (pos (suc k)) p n q = refl

-- ---- products
pub product_number : (a : ℚ) (r p : Lin) → IsNormal p → r.parts ≡ [] → SameMeaning (meaning p) (scale a (meaning r)) → p.parts ≡ []
product_number a r p n e s = no_last_parts p.parts (none (last_part p.parts) refl)
  where
    zeros : IsOver 0 (meaning p)
    zeros = record { absent = λ k h. s.factors k ∙ subst (λ ps. factor_at k (scale a (meaning (record r { parts = ps }))) ≡ zero_ℚ) (sym e) refl }

    none : (o : Option Part) → last_part p.parts ≡ o → last_part p.parts ≡ None
    none (Some x) h = let b = last_below p 0 x n zeros h in absurd (omega (arith, b))
    none None h = h

pub quotient_value : (o p r i : Lin) (k c : ℚ) → ratio o.constant o.den ≡ neg_ℚ (ratio p.constant p.den) → ratio p.constant p.den ≡ ratio i.constant i.den *ℚ ratio r.constant r.den → ratio r.constant r.den ≡ k
    → ratio i.constant i.den ≡ c → ratio o.constant o.den ≡ neg_ℚ k *ℚ c
quotient_value o p r i k c e s f g = e ∙ ap neg_ℚ (s ∙ (λ j. g j *ℚ f j) ∙ mul_comm_q c k) ∙ sym (neg_mul_q k c)

-- ---- the rest of a form in which one name is left
cancel_left : (x y z : ℚ) → x +ℚ y ≡ x +ℚ z → y ≡ z
cancel_left x y z e = sym (add_neg_cancel_q x y) ∙ ap (λ t. neg_ℚ x +ℚ t) e ∙ add_neg_cancel_q x z

only_name : (f : Lin) (name : ℕ) (e : ℕ → ℚ) → ((t : ℕ) → t ≢ name → factor_at t (meaning f) ≡ zero_ℚ) → value e one_ℚ (meaning f) ≡ factor_at name (meaning f) *ℚ e name +ℚ ratio f.constant f.den
only_name f name e others =
    value-same ℕ_discrete e one_ℚ (meaning f) (record { parts = (name, factor_at name (meaning f)) ∷ []; constant = ratio f.constant f.den })
    (record { factors = λ t. by_case t (ℕ_discrete name t); constants = refl })
    ∙ (λ i. add_zero_q (factor_at name (meaning f) *ℚ e name) i +ℚ one_mul_q (ratio f.constant f.den) i)
  where
    by_case : (t : ℕ) (d : Dec (name ≡ t)) → factor_at t (meaning f) ≡ pick d (factor_at name (meaning f) +ℚ zero_ℚ) zero_ℚ
    by_case t (yes h) = ap (λ k. factor_at k (meaning f)) (sym h) ∙ sym (add_zero_q (factor_at name (meaning f)))
    by_case t (no m) = others t (λ h. m (sym h))

pub rest_is : (row f : Lin) (name : ℕ) (e : ℕ → ℚ) → value e one_ℚ (meaning f) ≡ value e one_ℚ (meaning row) → ((t : ℕ) → t ≢ name → factor_at t (meaning f) ≡ zero_ℚ) → factor_at name (meaning f) ≡ factor_at name (meaning row)
    → rest_at e name (meaning row) ≡ ratio f.constant f.den
rest_is row f name e v others same =
    cancel_left (factor_at name (meaning row) *ℚ e name) (rest_at e name (meaning row)) (ratio f.constant f.den)
    (sym (split e name (meaning row)) ∙ sym v ∙ only_name f name e others ∙ ap (λ c. c *ℚ e name +ℚ ratio f.constant f.den) same)

ratio_nonzero : (z d : ℤ) → z ≢ pos 0 → pos 0 <ℤ d → ratio z d ≡ zero_ℚ → ⊥
ratio_nonzero (pos zero) d m q h = m refl
ratio_nonzero (pos (suc k)) d m q h = true_false (sym (ratio_positive (pos (suc k)) d (omega (arith, ints)) q) ∙ ap is_positive h ∙ positive_zero)
ratio_nonzero (negsuc k) d m q h = true_false (sym (ratio_positive (pos (suc k)) d (omega (arith, ints)) q) ∙ ap is_positive (ratio_neg (negsuc k) d ∙ ap neg_ℚ h ∙ neg_zero_q) ∙ positive_zero)

-- the last part has the name that is left
pub last_is_name : (f : Lin) (p : Part) (name : ℕ) → IsNormal f → last_part f.parts ≡ Some p → ((t : ℕ) → t ≢ name → factor_at t (meaning f) ≡ zero_ℚ) → ratio p.factor f.den ≡ factor_at name (meaning f)
last_is_name f p name n e others = by_case (ℕ_discrete p.key name)
  where
    by_case : Dec (p.key ≡ name) → ratio p.factor f.den ≡ factor_at name (meaning f)
    by_case (yes h) = sym (last_factor f p n e) ∙ ap (λ k. factor_at k (meaning f)) h
    by_case (no m) = absurd (ratio_nonzero p.factor f.den (last_nonzero f p n e) n.positive (sym (last_factor f p n e) ∙ others p.key m))

pub never_none : (f : Lin) (name : ℕ) → last_part f.parts ≡ None → factor_at name (meaning f) ≢ zero_ℚ → ⊥
never_none f name e n = n (subst (λ ps. factor_at name (meaning (record f { parts = ps })) ≡ zero_ℚ) (sym (no_last_parts f.parts e)) refl)

pub bound_is : (row f : Lin) (p : Part) (b : Lin) (name : ℕ) (e : ℕ → ℚ) → IsNormal f → last_part f.parts ≡ Some p → value e one_ℚ (meaning f) ≡ value e one_ℚ (meaning row) → ((t : ℕ) → t ≢ name → factor_at t (meaning f) ≡ zero_ℚ)
    → factor_at name (meaning f) ≡ factor_at name (meaning row) → ratio b.constant b.den ≡ neg_ℚ (ratio f.constant f.den) *ℚ inverse_ℚ (ratio p.factor f.den) → ratio b.constant b.den ≡ bound_at e name (meaning row)
bound_is row f p b name e n last v others same h =
    h ∙ (λ i. neg_ℚ (sym (rest_is row f name e v others same) i) *ℚ inverse_ℚ ((last_is_name f p name n last others ∙ same) i))

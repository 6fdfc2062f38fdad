-- The value at which a form is 0 has whole factors over the factor of its name.
use Rattle.std.specs.Prelude.{ℕ, ℤ, neg_ℤ, suc, pos, negsuc, [], ◌∷◌, ◌≡◌, ◌≢◌, ◌*ℤ◌, ◌<ℤ◌, unsigned_abs}
use Rattle.std.proofs.Common.{arith, refl, sym, ap, ◌∙◌}
use native.Mathlib.Decide.{ℕ_discrete}
use borrow.Author.Differences.{ints}
use Rattle.ae_base.proofs.Decided.{pick_yes, pick_no}
use Rattle.ae_base.proofs.Integers.{size_nonzero}
use Rattle.ae_math.specs.Inner.Integers.{ring}
use Rattle.ae_math.specs.Fractions.{ℚ, zero_ℚ, one_ℚ, neg_ℚ, ratio, ◌+ℚ◌, ◌*ℚ◌}
use Rattle.ae_math.specs.Forms.{single, minus, scale, factor}
use Rattle.ae_math.proofs.FormLaws.{factor_in-append, factor_in-scale, minus_one}
use Rattle.ae_math.proofs.FractionLaws.{zero_add_q, add_zero_q, one_mul_q', mul_neg_q, neg_neg_q, neg_zero_q, cancel_q}
use Rattle.ae_math.proofs.Wholes.{ratio_neg}
use Rattle.ae_num.specs.declared.forms.Lin.{Lin}
use Rattle.ae_num.specs.Forms.{meaning, SameMeaning, factor_of, IsNormal}
use Rattle.ae_num.proofs.MeaningLaws.{factor_meaning, ratio_zero, ratio_scaled, ratio_times, product_positive}
use Rattle.ae_denominators.specs.Denominators.{IsWholeOver, SolvedDenominator}
use Rattle.ae_denominators.proofs.Least.{least}

-- the number that times c is -a times the size of c
abbrev turn : ℤ → ℤ → ℤ
turn a (negsuc m) = a
turn a _ = neg_ℤ a

turn_times : (a c : ℤ) → turn a c *ℤ c ≡ neg_ℤ a *ℤ pos (unsigned_abs c)
turn_times a (pos m) = refl
turn_times a (negsuc m) = let e : negsuc m ≡ neg_ℤ (pos (suc m)) = refl in ap (λ z. a *ℤ z) e ∙ moved (pos (suc m))
  where
    moved : (z : ℤ) → a *ℤ neg_ℤ z ≡ neg_ℤ a *ℤ z
    moved z = simp ring

-- a / e = c / e * -y gives y over the size of c
solved_part : (c e a : ℤ) (y : ℚ) → pos 0 <ℤ e → c ≢ pos 0 → ratio c e ≢ zero_ℚ → ratio a e ≡ ratio c e *ℚ neg_ℚ y → y ≡ ratio (turn a c) (pos (unsigned_abs c))
solved_part c e a y p n nonzero h =
    let size = size_nonzero c n in
    let s : pos 0 <ℤ pos (unsigned_abs c) = omega (arith, ints, size) in
    let swapped : e *ℤ pos (unsigned_abs c) ≡ pos (unsigned_abs c) *ℤ e = simp ring in
    let left : ratio c e *ℚ y ≡ ratio (neg_ℤ a) e = sym (neg_neg_q (ratio c e *ℚ y)) ∙ ap neg_ℚ (sym (mul_neg_q (ratio c e) y) ∙ sym h) ∙ ratio_neg a e in
    let right : ratio c e *ℚ ratio (turn a c) (pos (unsigned_abs c)) ≡ ratio (neg_ℤ a) e =
    sym (ratio_times c e (turn a c) (pos (unsigned_abs c)) p s)
    ∙ sym (ratio_scaled (neg_ℤ a) e (turn a c *ℤ c) (pos (unsigned_abs c) *ℤ e) (pos (unsigned_abs c)) p (product_positive (pos (unsigned_abs c)) e s p) (sym (turn_times a c)) swapped) in
    cancel_q (ratio c e) y (ratio (turn a c) (pos (unsigned_abs c))) nonzero (left ∙ sym right)

module _ (d v : Lin) (name : ℕ) (times : ℚ) (nd : IsNormal d) (nonzero : times ≢ zero_ℚ) (none : factor ℕ_discrete (meaning v) name ≡ zero_ℚ)
    (same : SameMeaning (meaning d) (scale times (minus (single name) (meaning v)))) where
  at : (k : ℕ) → factor ℕ_discrete (meaning d) k ≡ times *ℚ (factor ℕ_discrete (single name) k +ℚ neg_ℚ (factor ℕ_discrete (meaning v) k))
  at k =
      same.factors k ∙ factor_in-scale ℕ_discrete times (minus (single name) (meaning v)).parts k
      ∙ ap (λ y. times *ℚ y) (factor_in-append ℕ_discrete ((name, one_ℚ) ∷ []) (scale (neg_ℚ one_ℚ) (meaning v)).parts k
      ∙ ap (λ y. factor ℕ_discrete (single name) k +ℚ y) (factor_in-scale ℕ_discrete (neg_ℚ one_ℚ) (meaning v).parts k ∙ minus_one (factor ℕ_discrete (meaning v) k)))

  -- the multiple is the factor of the name
  times_is : ratio (factor_of d.parts name) d.den ≡ times
  times_is =
      sym (factor_meaning d name nd.rising) ∙ at name
      ∙ (λ i. times *ℚ (pick_yes (ℕ_discrete name name) (one_ℚ +ℚ zero_ℚ) zero_ℚ refl i +ℚ neg_ℚ (none i)))
      ∙ ap (λ y. times *ℚ y) (ap (λ y. one_ℚ +ℚ zero_ℚ +ℚ y) neg_zero_q ∙ add_zero_q (one_ℚ +ℚ zero_ℚ) ∙ add_zero_q one_ℚ) ∙ one_mul_q' times

  factor_nonzero : factor_of d.parts name ≢ pos 0
  factor_nonzero e = nonzero (sym times_is ∙ ap (λ z. ratio z d.den) e ∙ ratio_zero d.den)

  ratio_nonzero : ratio (factor_of d.parts name) d.den ≢ zero_ℚ
  ratio_nonzero e = nonzero (sym times_is ∙ e)

  part_over : (k : ℕ) → Dec (name ≡ k) → (z : ℤ) × (factor ℕ_discrete (meaning v) k ≡ ratio z (pos (unsigned_abs (factor_of d.parts name))))
  part_over k (yes e) = (pos 0, ap (λ (j : ℕ). factor ℕ_discrete (meaning v) j) (sym e) ∙ none ∙ sym (ratio_zero (pos (unsigned_abs (factor_of d.parts name)))))
  part_over k (no n) =
      let h : ratio (factor_of d.parts k) d.den ≡ ratio (factor_of d.parts name) d.den *ℚ neg_ℚ (factor ℕ_discrete (meaning v) k) =
      sym (factor_meaning d k nd.rising) ∙ at k ∙ (λ i. sym times_is i *ℚ (pick_no (ℕ_discrete name k) (one_ℚ +ℚ zero_ℚ) zero_ℚ n i +ℚ neg_ℚ (factor ℕ_discrete (meaning v) k)))
      ∙ ap (λ y. ratio (factor_of d.parts name) d.den *ℚ y) (zero_add_q (neg_ℚ (factor ℕ_discrete (meaning v) k))) in
      (turn (factor_of d.parts k) (factor_of d.parts name), solved_part (factor_of d.parts name) d.den (factor_of d.parts k) (factor ℕ_discrete (meaning v) k) nd.positive factor_nonzero ratio_nonzero h)

  constant_over : (z : ℤ) × ((meaning v).constant ≡ ratio z (pos (unsigned_abs (factor_of d.parts name))))
  constant_over =
      let h : ratio d.constant d.den ≡ ratio (factor_of d.parts name) d.den *ℚ neg_ℚ (meaning v).constant =
      same.constants ∙ (λ i. sym times_is i *ℚ (zero_ℚ +ℚ minus_one (meaning v).constant i)) ∙ ap (λ y. ratio (factor_of d.parts name) d.den *ℚ y) (zero_add_q (neg_ℚ (meaning v).constant)) in
      (turn d.constant (factor_of d.parts name), solved_part (factor_of d.parts name) d.den d.constant (meaning v).constant nd.positive factor_nonzero ratio_nonzero h)

  pub over : IsWholeOver (pos (unsigned_abs (factor_of d.parts name))) (meaning v)
  over = record { factors = λ k. part_over k (ℕ_discrete name k); constant = constant_over }

  pub positive_size : pos 0 <ℤ pos (unsigned_abs (factor_of d.parts name))
  positive_size = let size = size_nonzero (factor_of d.parts name) factor_nonzero in omega (arith, ints, size)

pub solved_denominator : SolvedDenominator
solved_denominator d v name times nd nv nonzero none same =
    least v (meaning v) (pos (unsigned_abs (factor_of d.parts name))) nv (positive_size d v name times nd nonzero none same)
    (record { factors = λ k. refl; constants = refl }) (over d v name times nd nonzero none same)

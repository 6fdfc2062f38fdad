-- The denominator of a combination divides the product of the two denominators.
use Rattle.std.specs.Prelude.{ℕ, zero, suc, ℤ, pos, negsuc, neg_ℤ, ◌≡◌, ◌*ℤ◌, ◌+ℤ◌, ◌<ℤ◌, ◌<◌, ◌*◌, ◌/◌, unsigned_abs}
use Rattle.std.proofs.Common.{arith, refl, sym, ap, ◌∙◌, subst}
use native.Mathlib.Nat.{mul_comm, mul_assoc, one-mul, dvd-one, dvd-mul_left, dvd-mul_right}
use Rattle.std.proofs.Math.Nat.{dvd_of_mul-dvd-mul_right}
use lib.IntN.{*ℤ_comm}
use borrow.Author.Differences.{ints}
use Rattle.std.specs.Int.{◌∣◌, IsGcd}
use Rattle.ae_math.specs.Inner.Integers.{one_mul_z, add_mul_z}
use Rattle.ae_math.specs.Fractions.{neg_ℚ, ◌+ℚ◌, ◌*ℚ◌, ratio}
use Rattle.ae_math.proofs.FractionLaws.{same_frac}
use Rattle.ae_math.proofs.Divisors.{gcd_exists, coprime_parts, euclid, divisor_positive, whole_part as whole_times}
use Rattle.std.proofs.lemmas.Int.{unsigned_abs-mul}
use Rattle.ae_base.proofs.Integers.{size_positive}
use Rattle.ae_num.specs.declared.forms.Lin.{Lin}
use Rattle.ae_num.specs.Forms.{meaning, SameMeaning, IsNormal, factor_of as lin_factor}
use Rattle.ae_num.proofs.MeaningLaws.{factor_meaning, ratio_sum, ratio_scaled, ratio_times, product_positive}
use Rattle.ae_num.proofs.UniqueLaws.{all_divide}
use Rattle.ae_rows.specs.Rows.{factor_at, combination}
use Rattle.ae_row_lines.proofs.TwoRows.{ratio_neg, product_sign}
use Rattle.ae_rows.proofs.Elimination.{factor_combination}

-- a number that divides each of N times the numbers divides N, where the numbers and it have no divisor in common
pub divides_by_parts : (den big : ℕ) → 0 < den → (P : ℕ → Type 0) → ((x : ℕ) → P x → den ∣ x * big) → ((a : ℕ) → a ∣ den → ((x : ℕ) → P x → a ∣ x) → a ∣ 1) → den ∣ big
divides_by_parts zero big z P h low = absurd (omega arith)
divides_by_parts (suc n) big z P h low =
    let r = gcd_exists (suc n) big in
    let g = r.0 in
    let some : 0 < g = divisor_positive g n (r.1).0 in
    let a = suc n / g in
    let b = big / g in
    let ag : a * g ≡ suc n = whole_times (suc n) g some (r.1).0 in
    let bg : b * g ≡ big = whole_times big g some (r.1).1 in
    let coprime : IsGcd a b 1 = coprime_parts (suc n) big g a b some r.1 (sym ag) (sym bg) in
    let each : (x : ℕ) → P x → a ∣ x = λ x p. part x a b g some coprime (subst (λ m. a * g ∣ x * m) (sym bg) (subst (λ m. m ∣ x * big) (sym ag) (h x p))) in
    let one : a ≡ 1 = dvd-one.0 (low a (subst (λ m. a ∣ m) ag (dvd-mul_right a g)) each) in
    let whole : g ≡ suc n = sym (one-mul g) ∙ ap (λ m. m * g) (sym one) ∙ ag in
    subst (λ m. m ∣ big) whole (r.1).1
  where
    part : (x a b g : ℕ) → 0 < g → IsGcd a b 1 → a * g ∣ x * (b * g) → a ∣ x
    part x a b g z i h = euclid a b x i (subst (λ m. a ∣ m) (mul_comm x b) (dvd_of_mul-dvd-mul_right a z (subst (λ m. a * g ∣ m) (sym (mul_assoc x b g)) h)))

ratio_cross : (a dp b dq : ℤ) → pos 0 <ℤ dp → pos 0 <ℤ dq → ratio a dp ≡ ratio b dq → a *ℤ dq ≡ b *ℤ dp
ratio_cross a (pos zero) b dq p q e = absurd (omega (arith, ints))
ratio_cross a (negsuc m) b dq p q e = absurd (omega (arith, ints))
ratio_cross a (pos (suc m)) b (pos zero) p q e = absurd (omega (arith, ints))
ratio_cross a (pos (suc m)) b (negsuc n) p q e = absurd (omega (arith, ints))
ratio_cross a (pos (suc m)) b (pos (suc n)) p q e = same_frac a b m n e

ratio_joint : (a b d : ℤ) → pos 0 <ℤ d → ratio a d +ℚ ratio b d ≡ ratio (a +ℤ b) d
ratio_joint a b d h =
    sym (ratio_sum a d b d h h) ∙ sym (ratio_scaled (a +ℤ b) d (a *ℤ d +ℤ b *ℤ d) (d *ℤ d) d h (product_positive d d h h) (add_mul_z a b d) refl)

-- e/dq times x/dp and c/dp times y/dq
over_both : (e x c y dp dq : ℤ) → pos 0 <ℤ dp → pos 0 <ℤ dq → ratio e dq *ℚ ratio x dp +ℚ ratio c dp *ℚ ratio y dq ≡ ratio (x *ℤ e +ℤ y *ℤ c) (dp *ℤ dq)
over_both e x c y dp dq p q =
    (λ i. sym (ratio_times e dq x dp q p) i +ℚ (sym (ratio_times c dp y dq p q) ∙ ap (ratio (y *ℤ c)) (*ℤ_comm dq dp)) i)
    ∙ ratio_joint (x *ℤ e) (y *ℤ c) (dp *ℤ dq) (product_positive dp dq p q)

module _ (n : ℕ) (p q r : Lin) (np : IsNormal p) (nq : IsNormal q) (nr : IsNormal r) (same : SameMeaning (meaning r) (combination n (meaning p) (meaning q))) where
  e : ℤ
  e = neg_ℤ (lin_factor q.parts n)

  c : ℤ
  c = lin_factor p.parts n

  big : ℤ
  big = p.den *ℤ q.den

  big_positive : pos 0 <ℤ big
  unfolding big
  big_positive = product_positive p.den q.den np.positive nq.positive

  e_is : neg_ℚ (factor_at n (meaning q)) ≡ ratio e q.den
  unfolding e
  e_is = ap neg_ℚ (factor_meaning q n nq.rising) ∙ sym (ratio_neg (lin_factor q.parts n) q.den)

  c_is : factor_at n (meaning p) ≡ ratio c p.den
  unfolding c
  c_is = factor_meaning p n np.rising

  factors : (k : ℕ) → lin_factor r.parts k *ℤ big ≡ (lin_factor p.parts k *ℤ e +ℤ lin_factor q.parts k *ℤ c) *ℤ r.den
  unfolding big
  factors k =
      ratio_cross (lin_factor r.parts k) r.den (lin_factor p.parts k *ℤ e +ℤ lin_factor q.parts k *ℤ c) (p.den *ℤ q.den) nr.positive big_positive
      (sym (factor_meaning r k nr.rising) ∙ same.factors k ∙ factor_combination n (meaning p) (meaning q) k
      ∙ (λ i. e_is i *ℚ factor_meaning p k np.rising i +ℚ c_is i *ℚ factor_meaning q k nq.rising i)
      ∙ over_both e (lin_factor p.parts k) c (lin_factor q.parts k) p.den q.den np.positive nq.positive)

  constants : r.constant *ℤ big ≡ (p.constant *ℤ e +ℤ q.constant *ℤ c) *ℤ r.den
  unfolding big
  constants =
      ratio_cross r.constant r.den (p.constant *ℤ e +ℤ q.constant *ℤ c) (p.den *ℤ q.den) nr.positive big_positive
      (same.constants ∙ (λ i. e_is i *ℚ ratio p.constant p.den +ℚ c_is i *ℚ ratio q.constant q.den)
      ∙ over_both e p.constant c q.constant p.den q.den np.positive nq.positive)

  divides_size : (x z : ℤ) → x *ℤ big ≡ z *ℤ r.den → unsigned_abs r.den ∣ unsigned_abs x * unsigned_abs big
  divides_size x z h = subst (λ m. unsigned_abs r.den ∣ m) (sym (unsigned_abs-mul z r.den) ∙ sym (ap unsigned_abs h) ∙ unsigned_abs-mul x big) (dvd-mul_left (unsigned_abs r.den) (unsigned_abs z))

  -- the numbers of the form
  data Number : ℕ → Type 0 where
    of_key : (k : ℕ) → Number (unsigned_abs (lin_factor r.parts k))
    of_constant : Number (unsigned_abs r.constant)

  each_divides : (x : ℕ) → Number x → unsigned_abs r.den ∣ x * unsigned_abs big
  each_divides x (of_key k) = divides_size (lin_factor r.parts k) (lin_factor p.parts k *ℤ e +ℤ lin_factor q.parts k *ℤ c) (factors k)
  each_divides x of_constant = divides_size r.constant (p.constant *ℤ e +ℤ q.constant *ℤ c) constants

  low : (a : ℕ) → a ∣ unsigned_abs r.den → ((x : ℕ) → Number x → a ∣ x) → a ∣ 1
  low a h f = nr.lowest.1 a (h, (f _ of_constant, all_divide a r.parts nr.rising (λ k. f _ (of_key k))))

  pub divides : unsigned_abs r.den ∣ unsigned_abs (p.den *ℤ q.den)
  unfolding big
  divides = divides_by_parts (unsigned_abs r.den) (unsigned_abs big) (size_positive r.den nr.positive) Number each_divides low

quotient : (r b : ℤ) → pos 0 <ℤ r → pos 0 <ℤ b → unsigned_abs r ∣ unsigned_abs b → (d : ℤ) × (pos 0 <ℤ d) × (d *ℤ r ≡ b)
quotient (pos zero) b p q h = absurd (omega (arith, ints))
quotient (negsuc n) b p q h = absurd (omega (arith, ints))
quotient (pos (suc n)) (pos zero) p q h = absurd (omega (arith, ints))
quotient (pos (suc n)) (negsuc b) p q h = absurd (omega (arith, ints))
quotient (pos (suc n)) (pos (suc b)) p q h =
    let w : suc b / suc n * suc n ≡ suc b = whole_times (suc b) (suc n) (omega arith) h in
    let e : pos (suc b / suc n) *ℤ pos (suc n) ≡ pos (suc b) = ap pos w in
    (pos (suc b / suc n), product_sign (pos (suc b / suc n)) (pos (suc n)) (pos 1) (pos (suc b)) p (omega (arith, ints)) q (e ∙ sym (one_mul_z (pos (suc b)))), e)

pub denominator : (n : ℕ) (p q r : Lin) → IsNormal p → IsNormal q → IsNormal r → SameMeaning (meaning r) (combination n (meaning p) (meaning q)) → (d : ℤ) × (pos 0 <ℤ d) × (d *ℤ r.den ≡ p.den *ℤ q.den)
denominator n p q r np nq nr same = quotient r.den (p.den *ℤ q.den) nr.positive (product_positive p.den q.den np.positive nq.positive) (divides n p q r np nq nr same)

-- The denominator of a normal form divides each number over which its factors are whole.
use Rattle.std.specs.Prelude.{ℕ, ℤ, zero, suc, pos, negsuc, ◌≡◌, ◌<◌, ◌*◌, ◌/◌, ◌*ℤ◌, ◌<ℤ◌, unsigned_abs}
use Rattle.std.specs.Int.{◌∣◌, IsGcd}
use Rattle.std.proofs.Common.{arith, refl, sym, ap, ◌∙◌, subst}
use native.Mathlib.Nat.{dvd-mul_left, dvd-mul_right, dvd-one, one-mul, mul_comm, mul_assoc}
use borrow.Author.Differences.{ints}
use Rattle.ae_math.specs.Fractions.{ratio}
use Rattle.ae_math.proofs.FractionLaws.{same_frac}
use Rattle.ae_math.proofs.Divisors.{gcd_exists, coprime_parts, euclid, mul_cancel, divisor_positive, whole_part as whole_times}
use Rattle.std.proofs.lemmas.Int.{unsigned_abs-mul}
use Rattle.ae_num.specs.declared.forms.Lin.{Lin}
use Rattle.ae_num.specs.Forms.{factor_of, IsNormal, DividesAll, sizes}
use Rattle.ae_num.proofs.MeaningLaws.{factor_meaning}
use Rattle.ae_num.proofs.UniqueLaws.{all_divide}
use Rattle.ae_denominators.specs.Denominators.{Divides, WholeDenominator}

-- ---- fractions that are equal
cross : (a b : ℤ) (m n : ℕ) → ratio a (pos (suc m)) ≡ ratio b (pos (suc n)) → unsigned_abs a * suc n ≡ unsigned_abs b * suc m
cross a b m n e = sym (unsigned_abs-mul a (pos (suc n))) ∙ ap unsigned_abs (same_frac a b m n e) ∙ unsigned_abs-mul b (pos (suc m))

-- ---- the part of the denominator D that isn't shared with E divides each factor
own_part_divides : (x y D E d e g : ℕ) → 0 < g → IsGcd d e 1 → d * g ≡ D → e * g ≡ E → x * E ≡ y * D → d ∣ x
own_part_divides x y D E d e g z i dg eg h =
    let less : x * e ≡ y * d = mul_cancel (x * e) (y * d) g z (mul_assoc x e g ∙ ap (λ n. x * n) eg ∙ h ∙ ap (λ n. y * n) (sym dg) ∙ sym (mul_assoc y d g)) in
    euclid d e x i (subst (λ n. d ∣ n) (sym less ∙ mul_comm x e) (dvd-mul_left d y))

-- D is the denominator, E the other number
den_divides : (f : Lin) (m E : ℕ) → IsNormal f → unsigned_abs f.den ≡ suc m → (a : ℕ → ℕ) (c : ℕ) → ((k : ℕ) → unsigned_abs (factor_of f.parts k) * E ≡ a k * suc m) → unsigned_abs f.constant * E ≡ c * suc m → suc m ∣ E
den_divides f m E normal size a c h q =
    let D = suc m in
    let r = gcd_exists D E in
    let g = r.0 in
    let z : 0 < g = divisor_positive g m (r.1).0 in
    let d = D / g in
    let e = E / g in
    let dg : d * g ≡ D = whole_times D g z (r.1).0 in
    let eg : e * g ≡ E = whole_times E g z (r.1).1 in
    let coprime : IsGcd d e 1 = coprime_parts D E g d e z r.1 (sym dg) (sym eg) in
    let part : (x y : ℕ) → x * E ≡ y * D → d ∣ x = λ x y i. own_part_divides x y D E d e g z coprime dg eg i in
    let divides : DividesAll d (sizes f.den f.parts f.constant) =
    (subst (λ n. d ∣ n) (dg ∙ sym size) (dvd-mul_right d g), (part (unsigned_abs f.constant) c q, all_divide d f.parts normal.rising (λ k. part (unsigned_abs (factor_of f.parts k)) (a k) (h k)))) in
    let one : d ≡ 1 = dvd-one.0 (normal.lowest.1 d divides) in
    let whole : g ≡ D = sym (one-mul g) ∙ ap (λ n. n * g) (sym one) ∙ dg in
    subst (λ n. n ∣ E) whole (r.1).1

-- ---- positive numbers
record IsPositive (z : ℤ) : Type 0 where
  pub less : ℕ
  pub is : z ≡ pos (suc less)

positive : (z : ℤ) → pos 0 <ℤ z → IsPositive z
positive (pos zero) p = absurd (omega (arith, ints))
positive (pos (suc n)) p = record { less = n; is = refl }
positive (negsuc n) p = absurd (omega (arith, ints))

not_zero : (t m n : ℕ) → t * suc m ≡ suc n → pos 0 <ℤ pos t
not_zero zero m n e = absurd (omega (arith, e))
not_zero (suc t) m n e = omega (arith, ints)

quotient : (m n : ℕ) → suc m ∣ suc n → Divides (pos (suc m)) (pos (suc n))
quotient m n h =
    let e : suc n / suc m * suc m ≡ suc n = whole_times (suc n) (suc m) (omega arith) h in
    record { times = pos (suc n / suc m); positive = not_zero (suc n / suc m) m n e; is = ap pos e }

pub least : WholeDenominator
least f g den normal p same whole =
    let d = positive f.den normal.positive in
    let e = positive den p in
    let size : unsigned_abs f.den ≡ suc d.less = ap unsigned_abs d.is in
    let factors : (k : ℕ) → unsigned_abs (factor_of f.parts k) * suc e.less ≡ unsigned_abs (whole.factors k).0 * suc d.less =
    λ k. cross (factor_of f.parts k) (whole.factors k).0 d.less e.less
    (ap (ratio (factor_of f.parts k)) (sym d.is) ∙ sym (factor_meaning f k normal.rising) ∙ same.factors k ∙ (whole.factors k).1 ∙ ap (ratio (whole.factors k).0) e.is) in
    let constants : unsigned_abs f.constant * suc e.less ≡ unsigned_abs whole.constant.0 * suc d.less =
    cross f.constant whole.constant.0 d.less e.less (ap (ratio f.constant) (sym d.is) ∙ same.constants ∙ whole.constant.1 ∙ ap (ratio whole.constant.0) e.is) in
    let divides : suc d.less ∣ suc e.less = den_divides f d.less (suc e.less) normal size (λ k. unsigned_abs (whole.factors k).0) (unsigned_abs whole.constant.0) factors constants in
    let q = quotient d.less e.less divides in
    record { times = q.times; positive = q.positive; is = ap (λ z. q.times *ℤ z) d.is ∙ q.is ∙ sym e.is }

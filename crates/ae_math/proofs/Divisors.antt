-- The greatest common divisor: that there is one, of multiples, Euclid's lemma, and fractions in lowest terms.
use Prim.Native.Nat.{ℕ, zero, suc, ◌∣◌, ◌*◌, ◌%◌, ◌/◌, ◌+◌, ◌-◌, ◌<◌, ◌≤◌}
use native.Mathlib.Omega.{arith}
use mathlib.Core.Path.{◌≡◌, refl, sym, ap, ◌∙◌, subst}
use native.Mathlib.Nat.{zero-dvd, le_antisymm, le_of_mul-le-mul_right, le_of_eq, mod-lt, dvd-mod_iff, dvd-mul_left, dvd-mul_right, div-add-mod', mul-lt-mul_of_pos_right, mul-zero, dvd_antisymm, one-mul, zero-mul}
use lib.IntN.{ℤ, pos, negsuc, neg_ℤ, ◌*ℤ◌, *ℤ_comm}
use Rattle.std.specs.Int.{IsGcd}
use Rattle.std.specs.Int.RustNames.{unsigned_abs, int_div}
use Rattle.ae_math.specs.Inner.Integers.{neg_mul_z, mul_assoc_z}
use Rattle.ae_math.specs.Divisors.{IsLowest}
use Rattle.ae_math.specs.Fractions.{frac}
use Rattle.ae_math.specs.Inner.Respected.{cancel}
use Rattle.ae_math.proofs.FractionLaws.{same_frac, frac_same}
use Rattle.std.proofs.lemmas.Int.{unsigned_abs-mul}
use Rattle.std.proofs.lemmas.Nat.{mod-mul-add}
use Rattle.std.proofs.lemmas.Nat.Gcd.{IsGcd-from_mod, IsGcd-from_zero, same_from_IsGcd, IsGcd-swap, mod-eq-zero_of_dvd}

mod_step : (a b g : ℕ) → IsGcd a b g → IsGcd b (a % b) g
mod_step a b g (p, q, r) = (q, (dvd-mod_iff g q).1 p, λ d x y. r d ((dvd-mod_iff d x).0 y) x)

mod_times : (a b c : ℕ) → 0 < b → 0 < c → (a * c) % (b * c) ≡ (a % b) * c
mod_times a b c p q =
    let whole = a / b in
    let part = a % b in
    let e : whole * b + part ≡ a = div-add-mod' a b in
    let parts : (whole * b + part) * c ≡ whole * (b * c) + part * c = omega arith in
    let small : part * c < b * c = mul-lt-mul_of_pos_right (mod-lt a p) q in
    ap (λ x. x % (b * c)) (ap (λ x. x * c) (sym e) ∙ parts) ∙ mod-mul-add whole (b * c) (part * c) small

-- n bounds the second number
gcd_positive : (n a b g c : ℕ) → 0 < c → b ≤ n → IsGcd a b g → IsGcd (a * c) (b * c) (g * c)
gcd_positive n a zero g c z h i =
    let same : a ≡ g = same_from_IsGcd a zero a g (IsGcd-from_zero a zero refl) i in
    subst (λ m. IsGcd (a * c) m (g * c)) (sym (zero-mul c)) (subst (λ m. IsGcd (a * c) zero (m * c)) same (IsGcd-from_zero (a * c) zero refl))
gcd_positive zero a (suc b) g c z h i = absurd (omega arith)
gcd_positive (suc n) a (suc b) g c z h i =
    let small : a % suc b < suc b = mod-lt a (omega arith) in
    let ih = gcd_positive n (suc b) (a % suc b) g c z (omega arith) (mod_step a (suc b) g i) in
    IsGcd-from_mod (a * c) (suc b * c) (g * c) (subst (λ m. IsGcd (suc b * c) m (g * c)) (sym (mod_times a (suc b) c (omega arith) z)) ih)

pub gcd_multiples : (a b g c : ℕ) → IsGcd a b g → IsGcd (a * c) (b * c) (g * c)
gcd_multiples a b g zero i = subst (λ x. IsGcd x (b * 0) (g * 0)) (sym (mul-zero a)) (subst (λ x. IsGcd 0 x (g * 0)) (sym (mul-zero b)) (subst (λ x. IsGcd 0 0 x) (sym (mul-zero g)) (IsGcd-from_zero 0 0 refl)))
gcd_multiples a b g (suc c) i = gcd_positive b a b g (suc c) (omega arith) (omega arith) i

-- what divides a product and has no divisor in common with one factor divides the other
pub euclid : (a b c : ℕ) → IsGcd a b 1 → a ∣ b * c → a ∣ c
euclid a b c i h = subst (λ m. a ∣ m) (one-mul c) ((gcd_multiples a b 1 c i).2 a (dvd-mul_right a c) h)

-- n bounds the second number
gcd_below : (n a b : ℕ) → b ≤ n → (g : ℕ) × IsGcd a b g
gcd_below n a zero h = (a, IsGcd-from_zero a zero refl)
gcd_below zero a (suc b) h = absurd (omega arith)
gcd_below (suc n) a (suc b) h =
    let small : a % suc b < suc b = mod-lt a (omega arith) in
    let r = gcd_below n (suc b) (a % suc b) (omega arith) in
    (r.0, IsGcd-from_mod a (suc b) r.0 r.1)

-- any two numbers have a greatest common divisor
pub gcd_exists : (a b : ℕ) → (g : ℕ) × IsGcd a b g
gcd_exists a b = gcd_below b a b (omega arith)

pub mul_cancel : (a b c : ℕ) → 0 < c → a * c ≡ b * c → a ≡ b
mul_cancel a b c z e = le_antisymm (le_of_mul-le-mul_right (le_of_eq e) z) (le_of_mul-le-mul_right (le_of_eq (sym e)) z)

-- what the greatest common divisor leaves of two numbers has 1 as its own
pub coprime_parts : (x y g a b : ℕ) → 0 < g → IsGcd x y g → x ≡ a * g → y ≡ b * g → IsGcd a b 1
coprime_parts x y g a b z i p q =
    let r = gcd_exists a b in
    let times : IsGcd (a * g) (b * g) (r.0 * g) = gcd_multiples a b r.0 g r.1 in
    let there : IsGcd (a * g) (b * g) g = subst (λ m. IsGcd (a * g) m g) q (subst (λ m. IsGcd m y g) p i) in
    let same : r.0 * g ≡ g = same_from_IsGcd (a * g) (b * g) (r.0 * g) g times there in
    let one : r.0 ≡ 1 = mul_cancel r.0 1 g z (same ∙ sym (one-mul g)) in
    subst (λ m. IsGcd a b m) one r.1

pub whole_part : (n g : ℕ) → 0 < g → g ∣ n → n / g * g ≡ n
whole_part n g z d =
    let none = mod-eq-zero_of_dvd g d in
    let all = div-add-mod' n g in
    omega arith

-- an integer that a number divides is its quotient times that number
pub divided : (a : ℤ) (g : ℕ) → 0 < g → g ∣ unsigned_abs a → int_div a (pos g) *ℤ pos g ≡ a
divided (pos n) g z d = ap pos (whole_part n g z d)
divided (negsuc n) g z d = neg_mul_z (pos (suc n / g)) (pos g) ∙ ap (λ k. neg_ℤ (pos k)) (whole_part (suc n) g z d)

-- ---- lowest terms
pub divisor_positive : (g n : ℕ) → g ∣ suc n → 0 < g
divisor_positive zero n d = absurd (omega (arith, zero-dvd.0 d))
divisor_positive (suc g) n d = omega arith

-- each fraction is one in lowest terms
pub lowest_exists : (a : ℤ) (n : ℕ) → (b : ℤ) × (m : ℕ) × IsLowest b m × (frac a n ≡ frac b m)
lowest_exists a n =
    let r = gcd_exists (unsigned_abs a) (suc n) in
    let g = r.0 in
    let z : 0 < g = divisor_positive g n (r.1).1 in
    let b = int_div a (pos g) in
    let q = suc n / g in
    let top : b *ℤ pos g ≡ a = divided a g z (r.1).0 in
    let under : q * g ≡ suc n = whole_part (suc n) g z (r.1).1 in
    let some : 0 < q = quotient_positive q g n under in
    let m = q - 1 in
    let back : suc m ≡ q = omega arith in
    let low : IsGcd (unsigned_abs b) q 1 = coprime_parts (unsigned_abs a) (suc n) g (unsigned_abs b) q z r.1 (sym (ap unsigned_abs top) ∙ unsigned_abs-mul b (pos g)) (sym under) in
    let cross : a *ℤ pos (suc m) ≡ b *ℤ pos (suc n) =
    (λ i. sym top i *ℤ pos (back i)) ∙ mul_assoc_z b (pos g) (pos q) ∙ ap (λ t. b *ℤ t) (*ℤ_comm (pos g) (pos q)) ∙ ap (λ k. b *ℤ pos k) under in
    (b, m, subst (λ k. IsGcd (unsigned_abs b) k 1) (sym back) low, frac_same a b n m cross)
  where
    quotient_positive : (q g n : ℕ) → q * g ≡ suc n → 0 < q
    quotient_positive zero g n e = absurd (omega (arith, zero-mul g))
    quotient_positive (suc q) g n e = omega arith

-- and one alone
pub lowest_unique : (a b : ℤ) (m n : ℕ) → IsLowest a m → IsLowest b n → frac a m ≡ frac b n → (a ≡ b) × (m ≡ n)
lowest_unique a b m n i j e =
    let cross : a *ℤ pos (suc n) ≡ b *ℤ pos (suc m) = same_frac a b m n e in
    let sizes : unsigned_abs a * suc n ≡ unsigned_abs b * suc m = sym (unsigned_abs-mul a (pos (suc n))) ∙ ap unsigned_abs cross ∙ unsigned_abs-mul b (pos (suc m)) in
    let left : suc m ∣ suc n = euclid (suc m) (unsigned_abs a) (suc n) (IsGcd-swap (unsigned_abs a) (suc m) 1 i) (subst (λ k. suc m ∣ k) (sym sizes) (dvd-mul_left (suc m) (unsigned_abs b))) in
    let right : suc n ∣ suc m = euclid (suc n) (unsigned_abs b) (suc m) (IsGcd-swap (unsigned_abs b) (suc n) 1 j) (subst (λ k. suc n ∣ k) sizes (dvd-mul_left (suc n) (unsigned_abs a))) in
    let bottoms : suc m ≡ suc n = dvd_antisymm left right in
    let same : m ≡ n = omega arith in
    (cancel a b n (cross ∙ ap (λ k. b *ℤ pos (suc k)) same), same)

-- Sizes and signs of integers. The library has lemmas.Int (unsigned_abs-mul, quot-rem, ..), lemmas.Bool.Decides (Decides-int_eq); the
-- integers as a ring are in ae_math (specs/Inner/Integers: `ring`).
use Rattle.std.specs.Prelude.{ℕ, zero, suc, ◌<◌, ◌≡◌, ◌≢◌, ℤ, pos, negsuc, neg_ℤ, ◌≤ℤ◌, ◌<ℤ◌, int_lt, unsigned_abs, true}
use Rattle.std.proofs.Common.{refl, sym, ap, ◌∙◌, arith}
use borrow.Author.Differences.{ints}
use Rattle.ae_base.proofs.Tests.{false_true, zero_below}

-- ---- sizes
pub size_back : (z : ℤ) → pos 0 ≤ℤ z → pos (unsigned_abs z) ≡ z
size_back (pos n) h = refl
size_back (negsuc n) h = absurd (omega (arith, ints))

pub size_positive : (z : ℤ) → pos 0 <ℤ z → 0 < unsigned_abs z
size_positive (pos n) h = omega (arith, ints)
size_positive (negsuc n) h = omega arith

pub positive_nonzero : (z : ℤ) → pos 0 <ℤ z → z ≢ pos 0
positive_nonzero z h e = omega (arith, ints, h, e)

pub size_nonzero : (z : ℤ) → z ≢ pos 0 → 0 < unsigned_abs z
size_nonzero (pos zero) n = absurd (n refl)
size_nonzero (pos (suc m)) n = omega arith
size_nonzero (negsuc m) n = omega arith

pub size_zero : (z : ℤ) → unsigned_abs z ≡ 0 → z ≡ pos 0
size_zero (pos n) e = ap pos e
size_zero (negsuc n) e = absurd (omega arith)

pub size_neg : (z : ℤ) → unsigned_abs (neg_ℤ z) ≡ unsigned_abs z
size_neg (pos zero) = refl
size_neg (pos (suc n)) = refl
size_neg (negsuc n) = refl

-- two numbers that aren't negative are the same where their sizes are
pub size_same : (x y : ℤ) → pos 0 ≤ℤ x → pos 0 ≤ℤ y → unsigned_abs x ≡ unsigned_abs y → x ≡ y
size_same x y p q e = sym (size_back x p) ∙ ap pos e ∙ size_back y q

-- ---- signs
pub not_negative : (n : ℕ) → pos 0 ≤ℤ pos n
not_negative n = omega (arith, ints)

pub positive_is : (z : ℤ) → int_lt (pos 0) z ≡ true → pos 0 <ℤ z
positive_is (pos zero) e = false_true e
positive_is (pos (suc n)) e = omega (arith, ints)
positive_is (negsuc n) e = false_true e

pub positive_of : (z : ℤ) → pos 0 <ℤ z → int_lt (pos 0) z ≡ true
positive_of (pos zero) h = absurd (omega (arith, ints))
positive_of (pos (suc n)) h = zero_below n
positive_of (negsuc n) h = absurd (omega (arith, ints))

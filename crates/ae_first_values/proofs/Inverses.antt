-- Inverses of fractions of any sign, with a positive denominator.
use Rattle.std.specs.Prelude.{ℤ, zero, suc, pos, negsuc, neg_ℤ, ◌<ℤ◌, ◌≤ℤ◌, ◌≡◌, ◌≢◌, unsigned_abs}
use Rattle.std.proofs.Common.{refl, ap, ◌∙◌, sym, arith}
use borrow.Author.Differences.{ints}
use Rattle.ae_math.specs.Fractions.{ratio, inverse_ℚ}
use Rattle.ae_naturals.proofs.RatioLaws.{inverse_of_positive, inverse_of_negative}

size_above : (z : ℤ) → pos 0 <ℤ z → pos (unsigned_abs z) ≡ z
size_above (pos n) h = refl
size_above (negsuc n) h = absurd (omega (arith, ints))

size_below : (z : ℤ) → z ≤ℤ pos 0 → z ≢ pos 0 → pos (unsigned_abs z) ≡ neg_ℤ z
size_below (pos zero) h s = refl
size_below (pos (suc n)) h s = absurd (omega (arith, ints))
size_below (negsuc n) h s = refl

below : (z : ℤ) → z ≤ℤ pos 0 → z ≢ pos 0 → z <ℤ pos 0
below (pos zero) h s = absurd (s refl)
below (pos (suc n)) h s = absurd (omega (arith, ints))
below (negsuc n) h s = omega (arith, ints)

pub inverse_above : (top bottom : ℤ) → pos 0 <ℤ top → pos 0 <ℤ bottom → ratio bottom top ≡ inverse_ℚ (ratio top bottom)
inverse_above top bottom h g =
    ap (ratio bottom) (sym (size_above top h))
    ∙ inverse_of_positive top bottom bottom (unsigned_abs top) (λ e. let l : pos 0 <ℤ top = h in omega (arith, ints, e)) (λ l. let k : pos 0 <ℤ top = h in omega (arith, ints, l)) g refl refl

pub inverse_under : (top bottom : ℤ) → top ≤ℤ pos 0 → top ≢ pos 0 → pos 0 <ℤ bottom → ratio (neg_ℤ bottom) (neg_ℤ top) ≡ inverse_ℚ (ratio top bottom)
inverse_under top bottom h s g =
    ap (ratio (neg_ℤ bottom)) (sym (size_below top h s)) ∙ inverse_of_negative top bottom (neg_ℤ bottom) (unsigned_abs top) (below top h s) g refl refl

-- Quotients of whole numbers that divide one another.
use Rattle.std.specs.Prelude.{ℤ, pos, negsuc, ◌*ℤ◌, ◌<ℤ◌, ◌≡◌, int_div}
use Rattle.std.proofs.Common.{sym, ap, ◌∙◌, arith}
use Rattle.std.proofs.Math.Nat.{mul-div_cancel}
use borrow.Author.Differences.{ints}
use Rattle.ae_denominators.specs.Denominators.{Divides}

-- a product divided by one of its positive factors is the other
quotient_of : (t d w : ℤ) → pos 0 <ℤ t → pos 0 <ℤ d → t *ℤ d ≡ w → int_div w d ≡ t
quotient_of (pos t) (pos d) w p q e = ap (λ z. int_div z (pos d)) (sym e) ∙ ap pos (mul-div_cancel t (omega (arith, ints)))
quotient_of (pos t) (negsuc d) w p q e = absurd (omega (arith, ints))
quotient_of (negsuc t) d w p q e = absurd (omega (arith, ints))

pub quotient_is : (den whole : ℤ) (d : Divides den whole) → pos 0 <ℤ den → int_div whole den ≡ d.times
quotient_is den whole d p = quotient_of d.times den whole d.positive p d.is

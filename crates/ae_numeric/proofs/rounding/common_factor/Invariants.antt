use Rattle.std.proofs.Common.{ℕ, pos, ◌≤ℤ◌, ◌<◌, ◌^◌, ◌∷◌, drop, unsigned_abs}
use Rattle.ae_num.specs.Forms.{IsCommonDivisor}
use Rattle.ae_numeric.specs.Inner.Rounding.{factor_sizes}
use Rattle.ae_numeric.proofs.rounding.common_factor.Given as goal

abbrev pub invariant-loop-part : goal.invariant-loop-part
invariant-loop-part l = record {
  common : (g : ℕ) → IsCommonDivisor (unsigned_abs l.divisor ∷ factor_sizes (drop l.part-index l.parts)) g → IsCommonDivisor (factor_sizes l.parts) g;
  within : unsigned_abs l.divisor < 2 ^ 127;
  sign : pos 0 ≤ℤ l.divisor;
}

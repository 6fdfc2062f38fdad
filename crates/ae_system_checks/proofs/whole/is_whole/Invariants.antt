use Rattle.std.proofs.Common.{ℕ, ◌<◌, ◌^◌, ◌∷◌, drop, unsigned_abs}
use Rattle.ae_num.specs.Forms.{IsCommonDivisor}
use Rattle.ae_system_checks.proofs.WholeValues.{factors}
use Rattle.ae_system_checks.proofs.whole.is_whole.Given as goal

abbrev pub invariant-loop-part : goal.invariant-loop-part
invariant-loop-part l = record {
  common : (g : ℕ) → IsCommonDivisor (unsigned_abs l.divisor ∷ factors (drop l.part-index l.value.parts)) g
      → IsCommonDivisor (unsigned_abs l.value.den ∷ factors l.value.parts) g;
  within : unsigned_abs l.divisor < 2 ^ 127;
}

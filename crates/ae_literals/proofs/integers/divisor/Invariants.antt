use Rattle.std.proofs.Common.{ℕ, ◌<◌, ◌^◌, ◌∷◌, drop, map, unsigned_abs}
use Rattle.ae_num.specs.Forms.{IsCommonDivisor}
use Rattle.ae_literals.proofs.integers.divisor.Given as goal

abbrev pub invariant-loop-part : goal.invariant-loop-part
invariant-loop-part l = record {
  common : (g : ℕ) → IsCommonDivisor (unsigned_abs l.divisor ∷ map (λ p. unsigned_abs p.factor) (drop l.part-index l.form.parts)) g
      → IsCommonDivisor (unsigned_abs l.form.den ∷ map (λ p. unsigned_abs p.factor) l.form.parts) g;
  within : unsigned_abs l.divisor < 2 ^ 127;
}

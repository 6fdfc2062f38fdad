use Rattle.std.proofs.Common.{ℕ, pos, ◌≤ℤ◌, ◌<◌, ◌^◌, ◌∷◌, drop, map, unsigned_abs}
use Rattle.ae_num.specs.Forms.{IsCommonDivisor, sizes}
use Rattle.ae_num.proofs.reduction.common_divisor.Given as goal

abbrev pub invariant-loop-part : goal.invariant-loop-part
invariant-loop-part l = record {
  common : (g : ℕ) → IsCommonDivisor (unsigned_abs l.divisor ∷ map (λ p. unsigned_abs p.factor) (drop l.part-index l.form.parts)) g → IsCommonDivisor (sizes l.form.den l.form.parts l.form.constant) g;
  within : unsigned_abs l.divisor < 2 ^ 127;
  sign : pos 0 ≤ℤ l.divisor;
}

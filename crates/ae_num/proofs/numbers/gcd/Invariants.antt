use Rattle.std.proofs.Common.{ℕ, ◌<◌, ◌^◌, unsigned_abs}
use Rattle.std.specs.Int.{IsGcd}
use Rattle.ae_num.proofs.numbers.gcd.Given as goal

abbrev pub invariant-steps : goal.invariant-steps
invariant-steps l = record {
  common : (g : ℕ) → IsGcd l.divisor l.rest g → IsGcd (unsigned_abs l.fn.left) (unsigned_abs l.fn.right) g;
  divisor_within : l.divisor < 2 ^ 127;
  rest_within : l.rest < 2 ^ 127;
}

abbrev pub decreases-steps : goal.decreases-steps
decreases-steps l = l.rest

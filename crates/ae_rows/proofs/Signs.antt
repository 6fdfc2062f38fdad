-- The sign of a whole number.
use Rattle.std.specs.Prelude.{ℤ, pos, neg_ℤ, ◌<ℤ◌}
use Rattle.std.proofs.Common.{arith}
use borrow.Author.Differences.{ints}

pub negative_turns : (z : ℤ) → z <ℤ pos 0 → pos 0 <ℤ neg_ℤ z
negative_turns z h = omega (arith, ints)

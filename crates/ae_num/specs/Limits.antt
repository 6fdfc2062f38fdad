-- The numbers that the calculus computes with: those from -(2^127 - 1) to 2^127 - 1.
use Rattle.std.specs.Prelude.{ℤ, ◌<◌, ◌^◌, unsigned_abs}

abbrev pub FitsLimits : ℤ → Type 0
FitsLimits z = unsigned_abs z < 2 ^ 127

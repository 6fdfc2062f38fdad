-- Fractions in lowest terms.
use Prim.Native.Nat.{ℕ, suc}
use lib.IntN.{ℤ}
use Rattle.std.specs.Int.{IsGcd}
use Rattle.std.specs.Int.RustNames.{unsigned_abs}

-- a / (n + 1) is in lowest terms: 1 is the greatest common divisor of its two numbers
abbrev pub IsLowest : ℤ → ℕ → Type 0
IsLowest a n = IsGcd (unsigned_abs a) (suc n) 1

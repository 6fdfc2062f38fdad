-- Whole numbers with a sign: the sign, and what is read of the digits behind it.
use Rattle.std.specs.Prelude.{ℕ, ◌≤◌, Bool, true, false, cond, nat_eq, List, [], ◌∷◌, length, Result, Ok, Err}
use Rattle.ae_codes.specs.Codes.{Read, got, stops, wide_digits}
use Rattle.ae_codes.specs.Integers.{IntegerEnd}
use Rattle.ae_codes.specs.Numbers.{Closed}
use Rattle.ae_readers.specs.Readers.{FaultWithin, after_read, wide_or, sign_of}
use Rattle.ae_readers.specs.declared.fault.Fault.{Fault}

-- what is read ends in the text, and not before the place where it begins
abbrev pub NotBehind : {A : Type 0} → List ℕ → ℕ → Result (A × ℕ) Fault → Type 0
NotBehind text at (Ok v) = (at ≤ v.1) × (v.1 ≤ length text)
NotBehind text at (Err f) = FaultWithin text at f

-- a number beyond 127 bits is told at its first byte
abbrev pub sign_read : List ℕ → Read Bool
sign_read [] = stops []
sign_read (x ∷ xs) = cond (nat_eq x 45) (wide_or (wide_digits xs) (x ∷ xs) (got true xs)) (wide_or (wide_digits (x ∷ xs)) (x ∷ xs) (got false (x ∷ xs)))

abbrev pub signed_read : (Bool → List ℕ → Read Closed) → List ℕ → Read IntegerEnd
signed_read digits bytes = after_read (sign_read bytes) (λ b r. after_read (digits b r) (λ v rest. got (sign_of b v.0, v.1) rest))

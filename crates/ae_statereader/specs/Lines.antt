-- Lines that are read one after another, until one begins with another byte.
use Rattle.std.specs.Prelude.{ℕ, ◌+◌, ◌≤◌, Bool, true, false, nat_eq, List, [], ◌∷◌, ◌≡◌, length, drop, Result, Ok, Err}
use Rattle.ae_codes.specs.Codes.{Read, got}
use Rattle.ae_readers.specs.Readers.{FaultIs, FaultWithin}
use Rattle.ae_readers.specs.declared.fault.Fault.{Fault}

-- the bytes begin with this one
abbrev pub starts : ℕ → List ℕ → Bool
starts x [] = false
starts x (y ∷ ys) = nat_eq y x

-- there is a number for each line
abbrev pub AnyLine : ℕ → Type 0
AnyLine n = Unit {0}

abbrev pub HasNumber : ℕ → Type 0
HasNumber n = n ≤ 18446744073709551615

-- these lines, numbered from n on, lead from the bytes to the rest; each begins with the byte x
abbrev pub Lines : {X : Type 0} → (ℕ → Type 0) → (ℕ → List ℕ → Read X) → ℕ → ℕ → List X → List ℕ → List ℕ → Type 0
Lines room item x n [] bytes rest = bytes ≡ rest
Lines room item x n (a ∷ more) bytes rest = room n × (starts x bytes ≡ true) × ((m : List ℕ) × (item n bytes ≡ got a m) × Lines room item x (n + 1) more m rest)

-- all lines that stand there are read, or the first that is none has the fault
unfoldable pub LinesRead : {X : Type 0} → (ℕ → Type 0) → (ℕ → List ℕ → Read X) → ℕ → List ℕ → ℕ → Result (List X × ℕ) Fault → Type 0
LinesRead room item x text from (Ok v) = Lines room item x 0 v.0 (drop from text) (drop v.1 text) × (starts x (drop v.1 text) ≡ false)
LinesRead {X} room item x text from (Err f) =
    (xs : List X) × ((rest : List ℕ) × Lines room item x 0 xs (drop from text) rest × room (length xs) × (starts x rest ≡ true) × FaultIs text f (item (length xs) rest))

-- what is read ends in the text where it begins in it, and never before its beginning
abbrev pub Onward : {A : Type 0} → List ℕ → ℕ → Result (A × ℕ) Fault → Type 0
Onward text at (Ok v) = (at ≤ v.1) × (at ≤ length text → v.1 ≤ length text)
Onward text at (Err f) = FaultWithin text at f

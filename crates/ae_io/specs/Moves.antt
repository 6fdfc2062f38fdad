-- What reads and writes do to the bytes that a source has left and a sink has got, where these are
-- told, and to the counts of their faults.
use Rattle.std.specs.Prelude.{cond, ◌≡◌, ℕ, ◌+◌, ◌-◌, ◌^◌, ◌≤◌, ◌<◌, ◌⊎◌, min, List, [], ◌++◌, length, take, Option, Some, None, Result, Ok, Err, MatchResult, Bool, false, nat_lt, ◌||◌, ◌==◌}
use Rattle.std.specs.Io.KnownBytes.{Consumes}

-- one more, for a count that stays at the greatest u64 once there
abbrev pub raised : ℕ → ℕ
raised count = min (count + 1) (2 ^ 64 - 1)

abbrev pub raised_by : ℕ → ℕ → ℕ
raised_by more count = min (count + more) (2 ^ 64 - 1)

-- a count is greater than before, or stands at the greatest u64
abbrev pub Rose : ℕ → ℕ → Type 0
Rose before now = (before < now) ⊎ (now ≡ 2 ^ 64 - 1)

-- what a sink tells of the bytes that it has got
pub data Written : Type 0 where
  -- nothing, from now on
  Lost : Written
  -- nothing so far
  Untold : Written
  Told : (bytes : List ℕ) → Written

-- what a writer of std tells
abbrev pub told : Option (List ℕ) → Written
told None = Untold
told (Some xs) = Told xs

-- it tells its bytes
abbrev pub IsTold : Written → Type 0
IsTold Lost = ⊥
IsTold Untold = ⊥
IsTold (Told xs) = Unit {0}

-- What a sink gets. One that has told its bytes has got these after them, or tells nothing from now on. One that has
-- told nothing so far may do anything. One that tells nothing any more goes on telling nothing.
abbrev pub Gets : Written → Written → List ℕ → Type 0
Gets Lost Lost bytes = Unit {0}
Gets Lost Untold bytes = ⊥
Gets Lost (Told ys) bytes = ⊥
Gets Untold new bytes = Unit {0}
Gets (Told xs) Lost bytes = Unit {0}
Gets (Told xs) Untold bytes = ⊥
Gets (Told xs) (Told ys) bytes = ys ≡ xs ++ bytes

-- a write of n of these bytes, or of none
abbrev pub WriteGets : {E : Type 0} → Written → Written → Result ℕ E → List ℕ → Type 0
WriteGets old new r bytes = MatchResult r (λ n. Gets old new (take n bytes)) (λ _. Gets old new [])

-- the first of these bytes, and not all of them
abbrev pub GetsPrefix : Written → Written → List ℕ → Type 0
GetsPrefix old new bytes = (n : ℕ) × (n < length bytes) × Gets old new (take n bytes)

-- so many bytes were taken from those that were left
abbrev pub Takes : Option (List ℕ) → Option (List ℕ) → ℕ → Type 0
Takes old new n = (bytes : List ℕ) × Consumes old new bytes × (length bytes ≡ n)

-- at most so many bytes were taken from those that were left
abbrev pub TakesAtMost : Option (List ℕ) → Option (List ℕ) → ℕ → Type 0
TakesAtMost old new n = (bytes : List ℕ) × Consumes old new bytes × (length bytes ≤ n)

-- a write took these bytes, or the first of them; none only where there were none
abbrev pub took_some : {E : Type 0} → Result ℕ E → List ℕ → Bool
took_some (Ok n) bytes = nat_lt 0 n || (length bytes == 0)
took_some (Err e) bytes = false

-- one for a read that gave no byte: it failed, found the end or asked for none
abbrev pub idle_reads : {E : Type 0} → Result ℕ E → ℕ
idle_reads (Ok n) = cond (n == 0) 1 0
idle_reads (Err e) = 1

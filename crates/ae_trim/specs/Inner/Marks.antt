-- Marks on the lines of a proof, one for each, while used lines are looked for from the last one on.
use Rattle.std.specs.Prelude.{ℕ, ◌+◌, ◌<◌, ◌≤◌, ◌⊎◌, Bool, true, false, List, ◌≡◌, length, slice_get, slice_index, slice_index_or, Some}
use Rattle.std.specs.List.{Contains}
use Rattle.ae_core.specs.declared.proofs.ClauseLine.{ClauseLine}
use Rattle.ae_trim.specs.Used.{hints_at, IsUsed}

abbrev pub marked : List Bool → ℕ → Bool
marked marks k = slice_index_or marks k false

-- these places are marked too, and no others
pub record AreMarked (old : List Bool) (places : List ℕ) (new : List Bool) : Type 0 where
  pub size : length new ≡ length old
  pub kept : (k : ℕ) → marked old k ≡ true → marked new k ≡ true
  pub added : (k : ℕ) → Contains places k → marked new k ≡ true
  pub only : (k : ℕ) → marked new k ≡ true → (marked old k ≡ true) ⊎ Contains places k

-- where this place is marked, those that its line hints are marked too, and no others
pub record IsPassedOn (lines : List ClauseLine) (place : ℕ) (old new : List Bool) : Type 0 where
  pub size : length new ≡ length old
  pub kept : (k : ℕ) → marked old k ≡ true → marked new k ≡ true
  pub added : (k : ℕ) → marked old place ≡ true → Contains (hints_at lines place) k → marked new k ≡ true
  pub only : (k : ℕ) → marked new k ≡ true → (marked old k ≡ true) ⊎ ((marked old place ≡ true) × Contains (hints_at lines place) k)

-- the hints of the last `done` lines were passed on
pub record IsSearched (lines : List ClauseLine) (done : ℕ) (marks : List Bool) : Type 0 where
  pub size : length marks ≡ length lines
  pub last : (k : ℕ) → k + 1 ≡ length lines → marked marks k ≡ true
  pub sound : (k : ℕ) → marked marks k ≡ true → IsUsed lines k
  pub closed : (j k : ℕ) → length lines ≤ j + done → marked marks j ≡ true → Contains (hints_at lines j) k → marked marks k ≡ true

-- the used lines are marked, and no others
pub record MarkUsed (lines : List ClauseLine) (marks : List Bool) : Type 0 where
  pub size : length marks ≡ length lines
  pub sound : (k : ℕ) → marked marks k ≡ true → IsUsed lines k
  pub all : (k : ℕ) → IsUsed lines k → marked marks k ≡ true

-- by its old place, the new one of each line
pub record AreNumbered (places numbers : List ℕ) : Type 0 where
  pub each : (i k : ℕ) → slice_get places i ≡ Some k → (k < length numbers) × (slice_index numbers k ≡ i)

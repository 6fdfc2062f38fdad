-- Which lines of a proof are used.
use Rattle.std.specs.Prelude.{ℕ, ◌+◌, ◌<◌, List, [], ◌≡◌, length, slice_get, Some}
use Rattle.std.specs.List.{Contains}
use Rattle.std.specs.List.Sorted.{IsStrictlyIncreasing}
use Rattle.ae_base.specs.Options.{or_else, ◌>>=◌}
use Rattle.ae_core.specs.declared.proofs.ClauseLine.{ClauseLine}
use Rattle.ae_core.specs.declared.proofs.ClauseLine.TheVariants.{Rup}

-- the places of lines that a line names: a `rup` line alone has hints
abbrev pub hints_of : ClauseLine → List ℕ
hints_of (Rup c ks) = ks
hints_of _ = []

-- those of the line at this place
abbrev pub hints_at : List ClauseLine → ℕ → List ℕ
hints_at lines k = or_else (slice_get lines k >>= λ l. Some (hints_of l)) []

-- hints name earlier lines
pub record HintEarlier (lines : List ClauseLine) : Type 0 where
  pub each : (j k : ℕ) → Contains (hints_at lines j) k → k < j

-- a line is used where it is the last, or is hinted by a used line
pub data IsUsed (lines : List ClauseLine) : ℕ → Type 0 where
  last : (k : ℕ) → k + 1 ≡ length lines → IsUsed lines k
  hinted : (j k : ℕ) → IsUsed lines j → Contains (hints_at lines j) k → IsUsed lines k

-- each line is used
pub record AllUsed (lines : List ClauseLine) : Type 0 where
  pub each : (k : ℕ) → k < length lines → IsUsed lines k

-- the places of the used lines, rising
pub record AreUsed (lines : List ClauseLine) (places : List ℕ) : Type 0 where
  pub rising : IsStrictlyIncreasing places
  pub used : (k : ℕ) → Contains places k → IsUsed lines k
  pub all : (k : ℕ) → IsUsed lines k → Contains places k

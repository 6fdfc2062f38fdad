-- The numbers of the marked ones of the first rows that were assumed or rounded.
use Rattle.std.specs.Prelude.{ℕ, ◌<◌, ◌≡◌, Bool, true, List, Some, slice_get}
use Rattle.std.specs.List.{Contains}
use Rattle.ae_bounds.specs.declared.rows.Row.{Row}
use Rattle.ae_trim.specs.Inner.Marks.{marked}
use Rattle.ae_bound_blocks.specs.Tight.{IsGivenRow}

pub record IsListed (rows : List Row) (marks : List Bool) (count k : ℕ) : Type 0 where
  pub row : Row
  pub at : slice_get rows k ≡ Some row
  pub is_given : IsGivenRow row
  pub is_marked : marked marks k ≡ true
  pub within : k < count

pub record AreListed (rows : List Row) (marks : List Bool) (count : ℕ) (numbers : List ℕ) : Type 0 where
  pub sound : (k : ℕ) → Contains numbers k → IsListed rows marks count k
  pub all : (k : ℕ) → IsListed rows marks count k → Contains numbers k

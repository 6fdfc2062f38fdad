-- What kept rows come to: the rows that can't hold, the combinations that are 0, and the sums of rows assumed or rounded that both are.
use Rattle.std.specs.Prelude.{ℕ, ◌<◌, ◌≤◌, false, Option, Some, None, List, [], ◌∷◌, ◌≡◌, length, take, slice_get}
use Rattle.std.specs.List.{Contains}
use Rattle.ae_num.specs.Forms.{meaning}
use Rattle.ae_ineq.specs.declared.solving.Inequality.{Inequality}
use Rattle.ae_ineq.specs.Sums.{IsZero, IsRefuted}
use Rattle.ae_bounds.specs.declared.rows.Row.{Row}
use Rattle.ae_bounds.specs.declared.rows.Unrounded.{Unrounded}
use Rattle.ae_bounds.specs.declared.rows.Origin.{Origin}
use Rattle.ae_bounds.specs.declared.rows.Origin.TheVariants.{Assumed, Combined}
use Rattle.ae_bounds.specs.Combinations.{IsCombined}

-- the rows that were assumed or rounded
abbrev pub with_given : Origin → Option Unrounded → Row → List Inequality → List Inequality
with_given (Assumed tag) u r given = record { lin = r.lin; strict = r.strict } ∷ given
with_given (Combined lower upper) (Some u) r given = record { lin = r.lin; strict = r.strict } ∷ given
with_given (Combined lower upper) None r given = given

abbrev pub given_in : List Row → List Inequality
given_in [] = []
given_in (r ∷ rows) = with_given r.from r.unrounded r (given_in rows)

-- each combination is one of two rows before it
abbrev pub AreFounded : List Row → Type 0
AreFounded rows = (k lower upper : ℕ) (r : Row) → slice_get rows k ≡ Some r → r.from ≡ Combined lower upper → IsCombined (take k rows) r

-- the row of this number is a number that can't be
pub record IsRefutedAt (rows : List Row) (k : ℕ) : Type 0 where
  pub row : Row
  pub at : slice_get rows k ≡ Some row
  pub refuted : IsRefuted row.strict (meaning row.lin)

-- the row of this number is a combination that is 0, though not strict
pub record IsTightAt (rows : List Row) (k : ℕ) : Type 0 where
  pub row : Row
  pub at : slice_get rows k ≡ Some row
  pub zero : IsZero (meaning row.lin)
  pub loose : row.strict ≡ false
  pub lower : ℕ
  pub upper : ℕ
  pub from : row.from ≡ Combined lower upper

abbrev pub NoneIsRefuted : List Row → Type 0
NoneIsRefuted rows = (r : Row) → Contains rows r → ¬ IsRefuted r.strict (meaning r.lin)

-- a row can't hold
abbrev pub HasRefuted : List Row → Type 0
HasRefuted rows = (r : Row) × Contains rows r × IsRefuted r.strict (meaning r.lin)

-- no row was added behind one that can't hold
abbrev pub StopsAtRefuted : List Row → List Row → Type 0
StopsAtRefuted rows new = (k : ℕ) → length rows ≤ k → k < length new → NoneIsRefuted (take k new)

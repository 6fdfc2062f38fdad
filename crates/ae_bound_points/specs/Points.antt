-- The point of kept rows.
use Rattle.std.specs.Prelude.{ℕ, true, false, ◌≡◌, Some, List}
use Rattle.std.specs.List.{Contains}
use Rattle.ae_math.specs.Fractions.{ℚ, one_ℚ, is_positive}
use Rattle.ae_math.specs.Forms.{Form, value}
use Rattle.ae_num.specs.Forms.{meaning}
use Rattle.ae_rows.specs.Rows.{IsPoint}
use Rattle.ae_ineq.specs.Sums.{IsZero}
use Rattle.ae_bounds.specs.declared.rows.Row.{Row}
use Rattle.ae_bounds.specs.declared.rows.Unrounded.{Unrounded}
use Rattle.ae_bounds.specs.Rounding.{AreRounded}
use Rattle.ae_bounds.specs.Combinations.{AreClosed, HasZero}
use Rattle.ae_bounds.specs.Findings.{NoneIsRefuted}

-- the form is that of a row, and isn't 0
pub record IsNonzeroRow (rows : List Row) (f : Form ℕ) : Type 0 where
  pub row : Row
  pub among : Contains rows row
  pub is : meaning row.lin ≡ f
  pub nonzero : ¬ IsZero (meaning row.lin)

-- each row that isn't 0 is positive, and so is what a row was before it was rounded; each row that is 0 allows equality
pub record ArePositiveAt (e : ℕ → ℚ) (rows : List Row) : Type 0 where
  pub each : (r : Row) → Contains rows r → ¬ IsZero (meaning r.lin) → is_positive (value e one_ℚ (meaning r.lin)) ≡ true
  pub before : (r : Row) (u : Unrounded) → Contains rows r → r.unrounded ≡ Some u → is_positive (value e one_ℚ (meaning u.lin)) ≡ true
  pub loose : (r : Row) → Contains rows r → IsZero (meaning r.lin) → r.strict ≡ false

-- so it is at the point of the rows that aren't 0
abbrev pub OpenRowsHaveAPoint : Type 0
OpenRowsHaveAPoint = (rows : List Row) (e : ℕ → ℚ) → AreClosed rows → AreRounded rows → NoneIsRefuted rows → ¬ HasZero rows → IsPoint (IsNonzeroRow rows) e → ArePositiveAt e rows

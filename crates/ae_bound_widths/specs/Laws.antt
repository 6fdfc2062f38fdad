-- Kept rows as those of a journal's point, and the licences of the steps that make it.
use Rattle.std.specs.Prelude.{ℕ, Bool, ◌≡◌, ◌≢◌, List, []}
use Rattle.std.specs.List.{AllByRecursion, Contains}
use Rattle.ae_math.specs.Forms.{Form}
use Rattle.ae_num.specs.Forms.{meaning, IsNormal}
use Rattle.ae_rows.specs.Rows.{IsCovered}
use Rattle.ae_journal.specs.Values.{Sum}
use Rattle.ae_journal.specs.TermValues.{IsLargest}
use Rattle.ae_journal.specs.Standing.{Setting}
use Rattle.ae_journal.specs.Rows.{IsRow}
use Rattle.ae_journal.specs.Points.{NoneLeft}
use Rattle.ae_journal.specs.Licences.{IsLicensed}
use Rattle.ae_journal.specs.declared.lines.Line.{Line}
use Rattle.ae_journal.specs.declared.answers.WideAt.{WideAt}
use Rattle.ae_ineq.specs.Widths.{IsPointWide}
use Rattle.ae_bounds.specs.declared.rows.Row.{Row}
use Rattle.ae_bound_lines.specs.Standing.{AreStanding}
use Rattle.ae_bound_points.specs.Points.{IsNonzeroRow}

-- the form is that of a row with names
pub record IsNamedRow (rows : List Row) (f : Form ℕ) : Type 0 where
  pub row : Row
  pub among : Contains rows row
  pub is : meaning row.lin ≡ f
  pub names : row.lin.parts ≢ []

-- each row that stands in the journal and has a name is covered by the kept ones with names
abbrev pub AreAllKept : Setting → List Line → List Row → Type 0
AreAllKept x js rows = (n : ℕ) (strict : Bool) (g : Sum) → IsRow x js strict g → IsLargest x.names n g → IsCovered (IsNamedRow rows) g

-- where the kept rows stand and cover all that stand, and no combination is left, a step of the making of their point that leaves the limits is licensed
abbrev pub KeptPointWidthsAreLicensed : Type 0
KeptPointWidthsAreLicensed = (x : Setting) (js : List Line) (rows : List Row) (w : WideAt) → AllByRecursion (λ r. IsNormal r.lin) rows → AreStanding x js rows → AreAllKept x js rows → NoneLeft x js
    → IsPointWide (IsNonzeroRow rows) w → IsLicensed x js w

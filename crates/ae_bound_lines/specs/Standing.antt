-- Rows that stand in a journal, and the lines of their combinations.
use Rattle.std.specs.Prelude.{ℕ, Bool, true, List, [], ◌∷◌, ◌++◌, ◌≡◌, ◌≢◌, ◌⊎◌, length}
use Rattle.std.specs.List.{AllByRecursion, Contains}
use Rattle.ae_num.specs.declared.forms.Lin.{Lin}
use Rattle.ae_num.specs.Forms.{meaning, IsNormal}
use Rattle.ae_rows.specs.Rows.{IsOver}
use Rattle.ae_journal.specs.Values.{Sum, sum_of_lin}
use Rattle.ae_journal.specs.Sides.{AreWhole}
use Rattle.ae_journal.specs.Standing.{Setting, IsWholeRow}
use Rattle.ae_journal.specs.Rows.{IsRow}
use Rattle.ae_journal.specs.Legal.{AreLegal}
use Rattle.ae_journal.specs.Licences.{IsLicensed}
use Rattle.ae_journal.specs.declared.answers.WideAt.{WideAt}
use Rattle.ae_journal.specs.declared.lines.Line.{Line}
use Rattle.ae_combine_lines.specs.Laws.{IsSure}
use Rattle.ae_bounds.specs.declared.rows.Row.{Row}
use Rattle.ae_bounds.specs.Rounding.{HasForm, IsAssumed}
use Rattle.ae_bounds.specs.Combinations.{IsExtended, IsWideIn}

-- each row that isn't a number stands in the journal, over its names, which have the sort `int` where the row has; and each row that surely is there is among the forms of the rows: those of
-- inequality literals that surely stand, and of `Combine` lines
pub record AreStanding (x : Setting) (js : List Line) (rows : List Row) : Type 0 where
  pub stand : AllByRecursion (λ r. IsOver 0 (meaning r.lin) ⊎ IsRow x js r.strict (sum_of_lin r.lin)) rows
  pub named : AllByRecursion (λ r. IsOver (length x.names) (meaning r.lin)) rows
  pub whole : AllByRecursion (λ r. r.integral ≡ true → AreWhole x.problem.signature x.names r.lin) rows
  pub all : (g : Sum) → IsSure x js g → (r : Row) × (l : Lin) × Contains rows r × HasForm r l × (sum_of_lin l ≡ g)

-- the form of a row that may be assumed: a number or a row that stands, over the journal's names; one of sort `int` has such names, and stands as a row of that sort
pub record MayBeAssumed (x : Setting) (js : List Line) (l : Lin) (strict integral : Bool) : Type 0 where
  pub stands : IsOver 0 (meaning l) ⊎ IsRow x js strict (sum_of_lin l)
  pub named : IsOver (length x.names) (meaning l)
  pub whole : integral ≡ true → l.parts ≢ [] → IsWholeRow x js strict l
  pub names : integral ≡ true → AreWhole x.problem.signature x.names l

-- the row that is kept of such a form, rounded or not, stands over the journal's names
abbrev pub AssumedRowsStand : Type 0
AssumedRowsStand = (x : Setting) (js : List Line) (rows : List Row) (l : Lin) (strict integral : Bool) (tag : ℕ) (r : Row) → AreStanding x js rows → IsNormal l → MayBeAssumed x js l strict integral
    → IsAssumed l strict integral tag r → AreStanding x js (rows ++ r ∷ [])

-- a width that the combination of two rows states is licensed where the rows stand
abbrev pub WidthsAreLicensed : Type 0
WidthsAreLicensed = (x : Setting) (rows : List Row) (js : List Line) (w : WideAt) → AreStanding x js rows → IsWideIn rows w → IsLicensed x js w

-- the lines that were noted are legal, and all rows stand
abbrev pub ExtensionsAreLegal : Type 0
ExtensionsAreLegal = (x : Setting) (bound : ℕ) (rows rs : List Row) (js ks : List Line) → AreStanding x js rows → IsExtended rows js rs ks
    → ((added : List Line) × (ks ≡ js ++ added) × AreLegal x bound js added) × AreStanding x ks rs

-- Rows over fractions that agree with a journal: after all their combinations were noted none is left.
use Rattle.std.specs.Prelude.{ℕ, Bool, true, false, List, ◌∷◌, ◌++◌, ◌≡◌, ◌≢◌, slice_get, Some}
use Rattle.std.specs.List.{AllByRecursion, Contains}
use Rattle.ae_math.specs.Fractions.{zero_ℚ}
use Rattle.ae_core.specs.Sorts.{sort_of}
use Rattle.ae_core.specs.declared.terms.Term.{Term}
use Rattle.ae_core.specs.declared.terms.Sort.{Int}
use Rattle.ae_core.specs.declared.formulas.Lit.{Lit}
use Rattle.ae_num.specs.declared.forms.Lin.{Lin}
use Rattle.ae_num.specs.Forms.{meaning, IsNormal}
use Rattle.ae_rows.specs.Rows.{factor_at}
use Rattle.ae_journal.specs.Values.{sum_of_lin, sum_in, minus_val}
use Rattle.ae_journal.specs.States.{inequality}
use Rattle.ae_journal.specs.Journals.{OnlyCombines}
use Rattle.ae_journal.specs.Standing.{Setting, MayStand, value_now}
use Rattle.ae_journal.specs.Points.{NoneLeft}
use Rattle.ae_journal.specs.Licences.{IsLicensed}
use Rattle.ae_journal.specs.declared.lines.Line.{Line}
use Rattle.ae_journal.specs.declared.lines.Line.TheVariants as line
use Rattle.ae_journal.specs.declared.answers.WideAt.{WideAt}
use Rattle.ae_combine_lines.specs.Laws.{IsSure}
use Rattle.ae_ineq.specs.Sums.{IsZero}
use Rattle.ae_ineq.specs.Widths.{IsPointWide}
use Rattle.ae_bounds.specs.declared.rows.Row.{Row}
use Rattle.ae_bounds.specs.declared.rows.Origin.TheVariants.{Assumed, Combined}
use Rattle.ae_bounds.specs.Rounding.{AreRounded}
use Rattle.ae_bounds.specs.Combinations.{IsExtended, AreClosed, HasZero}
use Rattle.ae_bound_lines.specs.Standing.{AreStanding}
use Rattle.ae_bound_points.specs.Points.{IsNonzeroRow}

-- the line of the row stands, and only `Combine` lines come after it
abbrev pub IsNoted : List Line → Row → Type 0
IsNoted js r = (before : List Line) × (after : List Line) × (js ≡ before ++ line.Combine r.strict r.lin ∷ after) × OnlyCombines after

-- the rows stand in the journal; each `Combine` line that stands is that of a row, and each combination that isn't 0 has its line
pub record AreInStep (x : Setting) (js : List Line) (rows : List Row) : Type 0 where
  pub standing : AreStanding x js rows
  pub lines : (before after : List Line) (b : Bool) (h : Lin) → js ≡ before ++ line.Combine b h ∷ after → OnlyCombines after → (r : Row) × Contains rows r × (r.lin ≡ h)
  pub noted : (r : Row) (lower upper : ℕ) → Contains rows r → r.from ≡ Combined lower upper → ¬ IsZero (meaning r.lin) → IsNoted js r

-- no row is of sort `int`, and no name of a row has that sort
pub record AreOverFractions (x : Setting) (rows : List Row) : Type 0 where
  pub real : (r : Row) → Contains rows r → r.integral ≡ false
  pub apart : (r : Row) (k : ℕ) (t : Term) → Contains rows r → factor_at k (meaning r.lin) ≢ zero_ℚ → slice_get x.names k ≡ Some t → sort_of x.problem.signature t ≡ Some Int → ⊥

-- the row of each inequality literal that may stand was assumed, as one of sort `int` where its sides have that sort; and each row that was assumed is that of one which surely stands
pub record AreAssumed (x : Setting) (js : List Line) (rows : List Row) : Type 0 where
  pub may : (l : Lit) (s t : Term) (strict : Bool) → MayStand x js l → inequality l ≡ Some (s, t, strict)
      → (r : Row) × Contains rows r × (sum_of_lin r.lin ≡ sum_in (minus_val (value_now x js s) (value_now x js t))) × (sort_of x.problem.signature s ≡ Some Int → r.integral ≡ true)
  pub sure : (r : Row) (tag : ℕ) → Contains rows r → r.from ≡ Assumed tag → IsSure x js (sum_of_lin r.lin)

-- rows that have all their combinations, in the normal form, and of which no combination is 0
pub record AreFinished (rows : List Row) : Type 0 where
  pub normal : AllByRecursion (λ r. IsNormal r.lin) rows
  pub rounded : AreRounded rows
  pub closed : AreClosed rows
  pub loose : HasZero rows → ⊥

-- rows in step, extended by their combinations, are in step
abbrev pub StepsAreKept : Type 0
StepsAreKept = (x : Setting) (rows rs : List Row) (js ks : List Line) → AreInStep x js rows → AreOverFractions x rows → IsExtended rows js rs ks → AreInStep x ks rs × AreOverFractions x rs

-- where all combinations of rows over fractions were noted, none is left
abbrev pub NoneIsLeft : Type 0
NoneIsLeft = (x : Setting) (rows : List Row) (js : List Line) → AreInStep x js rows → AreOverFractions x rows → AreFinished rows → AreAssumed x js rows → NoneLeft x js

-- and a step of the making of their point that leaves the limits is licensed
abbrev pub FinishedWidthsAreLicensed : Type 0
FinishedWidthsAreLicensed = (x : Setting) (rows : List Row) (js : List Line) (w : WideAt) → AreInStep x js rows → AreOverFractions x rows → AreFinished rows → AreAssumed x js rows → IsPointWide (IsNonzeroRow rows) w
    → IsLicensed x js w

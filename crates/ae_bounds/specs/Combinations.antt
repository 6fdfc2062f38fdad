-- Rows that are kept, and combinations of two of them.
use Rattle.std.specs.Prelude.{ℕ, true, ◌&&◌, ◌||◌, Some, None, List, [], ◌∷◌, ◌++◌, ◌≡◌, slice_get}
use Rattle.std.specs.List.{Contains}
use native.Mathlib.Decide.{ℕ_discrete}
use Rattle.ae_math.specs.Fractions.{ℚ, is_positive}
use Rattle.ae_math.specs.Forms.{Form, SameForm, scale}
use Rattle.ae_num.specs.declared.forms.Lin.{Lin}
use Rattle.ae_num.specs.Forms.{meaning, SameMeaning, IsNormal, first_wide, combine_steps}
use Rattle.ae_rows.specs.Rows.{combination, IsLower, IsUpper}
use Rattle.ae_journal.specs.declared.answers.NumStep.TheVariants.{Combine}
use Rattle.ae_journal.specs.declared.answers.WideAt.{WideAt}
use Rattle.ae_journal.specs.declared.lines.Line.{Line}
use Rattle.ae_journal.specs.declared.lines.Line.TheVariants as line
use Rattle.ae_ineq.specs.Sums.{IsZero}
use Rattle.ae_bounds.specs.declared.rows.Row.{Row}
use Rattle.ae_bounds.specs.declared.rows.Origin.TheVariants.{Combined}
use Rattle.ae_bounds.specs.Rounding.{IsRowOf, HasForm}

-- the form is a positive multiple of a row's, or of one that a row had before it was rounded; rows that were rounded to the least constant don't count, nor those that were assumed as such
pub record IsThere (rows : List Row) (f : Form ℕ) : Type 0 where
  pub row : Row
  pub among : Contains rows row
  pub form : Lin
  pub of : HasForm row form
  pub times : ℚ
  pub positive : is_positive times ≡ true
  pub same : SameForm ℕ_discrete (scale times (meaning form)) f

-- two rows, by their numbers, that can be combined on a name: it is the largest of both, and its factor is positive in the first and negative in the second
pub record AreOpposed (rows : List Row) (lower upper : ℕ) (first second : Row) (name : ℕ) : Type 0 where
  pub first_at : slice_get rows lower ≡ Some first
  pub second_at : slice_get rows upper ≡ Some second
  pub below : IsLower name (meaning first.lin)
  pub above : IsUpper name (meaning second.lin)
  pub normal : IsNormal first.lin × IsNormal second.lin

-- the row is the combination of two rows on a name, strict where one of them is; it is of sort `int`, and so rounded, where both are
pub record IsCombinationOf (first second : Row) (name : ℕ) (r : Row) : Type 0 where
  pub form : Lin
  pub form_normal : IsNormal form
  pub same : SameMeaning (meaning form) (combination name (meaning first.lin) (meaning second.lin))
  pub sort : r.integral ≡ first.integral && second.integral
  pub of : IsRowOf form (first.strict || second.strict) r
  pub normal : IsNormal r.lin

-- the row is the combination of two of the rows on the largest name of both, and says which two; no number on the way left the limits
pub record IsCombined (rows : List Row) (r : Row) : Type 0 where
  pub name : ℕ
  pub lower : ℕ
  pub upper : ℕ
  pub first : Row
  pub second : Row
  pub opposed : AreOpposed rows lower upper first second name
  pub from : r.from ≡ Combined lower upper
  pub of : IsCombinationOf first second name r
  pub fits : first_wide (combine_steps first.lin name second.lin) ≡ None

-- combinations were added one after the other: those that are no positive multiples of a row, the line of each being noted, and without a line those that are 0
pub data IsExtended (rows : List Row) (js : List Line) : List Row → List Line → Type 0 where
  as_it_was : IsExtended rows js rows js
  one_more : (rs : List Row) (ks : List Line) (r : Row) → IsExtended rows js rs ks → IsCombined rs r → ¬ IsThere rs (meaning r.lin) → IsExtended rows js (rs ++ r ∷ []) (ks ++ line.Combine r.strict r.lin ∷ [])
  zero_more : (rs : List Row) (ks : List Line) (r : Row) → IsExtended rows js rs ks → IsCombined rs r → IsZero (meaning r.lin) → IsExtended rows js (rs ++ r ∷ []) ks

-- a combination that is 0 is among the rows
pub record HasZero (rows : List Row) : Type 0 where
  pub row : Row
  pub among : Contains rows row
  pub zero : IsZero (meaning row.lin)
  pub lower : ℕ
  pub upper : ℕ
  pub from : row.from ≡ Combined lower upper

-- the form is a positive multiple of one that is there, and where it is 0, a combination that is 0 is among the rows
pub record IsHeld (rows : List Row) (f : Form ℕ) : Type 0 where
  pub there : IsThere rows f
  pub zero : IsZero f → HasZero rows

-- the combination of two rows on a name is held
pub record IsDone (rows : List Row) (first second : Row) (name : ℕ) : Type 0 where
  pub row : Row
  pub of : IsCombinationOf first second name row
  pub held : IsHeld rows (meaning row.lin)

-- no combination is left: each of two rows on the largest name of both is held
abbrev pub AreClosed : List Row → Type 0
AreClosed rows = (name : ℕ) (first second : Row) → Contains rows first → Contains rows second → IsLower name (meaning first.lin) → IsUpper name (meaning second.lin) → IsDone rows first second name

-- the width is the first of the combination of two of the rows on the largest name of both
pub record IsWideIn (rows : List Row) (w : WideAt) : Type 0 where
  pub name : ℕ
  pub lower : ℕ
  pub upper : ℕ
  pub first : Row
  pub second : Row
  pub opposed : AreOpposed rows lower upper first second name
  pub step : w.step ≡ Combine
  pub left : w.left ≡ first.lin
  pub key : w.key ≡ Some name
  pub right : w.right ≡ second.lin
  pub wide : first_wide (combine_steps first.lin name second.lin) ≡ Some w.wide

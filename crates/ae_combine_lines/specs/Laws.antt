-- What stands after a `Combine` line, and which `Combine` lines are legal.
use Rattle.std.specs.Prelude.{ℕ, ◌<◌, Bool, true, ◌||◌, List, [], ◌∷◌, ◌++◌, ◌≡◌, ◌⊎◌, length, Some}
use native.Mathlib.Decide.{ℕ_discrete}
use Rattle.ae_core.specs.declared.terms.Term.{Term}
use Rattle.ae_core.specs.declared.formulas.Lit.{Lit}
use Rattle.ae_math.specs.Fractions.{ℚ, is_positive}
use Rattle.ae_math.specs.Forms.{SameForm, scale}
use Rattle.ae_num.specs.Forms.{meaning, SameMeaning, IsNormal}
use Rattle.ae_num.specs.declared.forms.Lin.{Lin}
use Rattle.ae_rows.specs.Rows.{combination, IsLower, IsUpper}
use Rattle.ae_journal.specs.Values.{Sum, sum_of_lin, sum_in, minus_val}
use Rattle.ae_journal.specs.States.{inequality}
use Rattle.ae_journal.specs.Journals.{OnlyCombines}
use Rattle.ae_journal.specs.Standing.{Setting, MayStand, SurelyStands, value_now}
use Rattle.ae_journal.specs.Rows.{IsRow, IsMultiple, MayCombine}
use Rattle.ae_journal.specs.declared.lines.Line.{Line}
use Rattle.ae_journal.specs.declared.lines.Line.TheVariants as line

-- the lines with a `Combine` line after them
abbrev pub combined : List Line → Bool → Lin → List Line
combined js strict f = js ++ line.Combine strict f ∷ []

-- ---- what a `Combine` line leaves
-- no value changes
abbrev pub ValuesStay : Type 0
ValuesStay = (x : Setting) (js : List Line) (strict : Bool) (f : Lin) (t : Term) → value_now x (combined js strict f) t ≡ value_now x js t

-- what may stand still may, and nothing more surely stands
abbrev pub LiteralsStay : Type 0
LiteralsStay = (x : Setting) (js : List Line) (strict : Bool) (f : Lin) (l : Lit) → MayStand x js l → MayStand x (combined js strict f) l

abbrev pub NothingIsSurer : Type 0
NothingIsSurer = (x : Setting) (js : List Line) (strict : Bool) (f : Lin) (l : Lit) → SurelyStands x (combined js strict f) l → SurelyStands x js l

-- each row still stands
abbrev pub RowsStay : Type 0
RowsStay = (x : Setting) (js : List Line) (strict : Bool) (f : Lin) (s : Bool) (g : Sum) → IsRow x js s g → IsRow x (combined js strict f) s g

-- and the line's own
abbrev pub OwnRowStands : Type 0
OwnRowStands = (x : Setting) (js : List Line) (strict : Bool) (f : Lin) → IsRow x (combined js strict f) strict (sum_of_lin f)

-- ---- legal lines
-- the row of `h` is that of an inequality literal that surely stands, or of a `Combine` line that stands
pub data IsSure (x : Setting) (js : List Line) : Sum → Type 0 where
  of_literal : (l : Lit) (s t : Term) (b : Bool) → SurelyStands x js l → inequality l ≡ Some (s, t, b) → IsSure x js (sum_in (minus_val (value_now x js s) (value_now x js t)))
  of_line : (before after : List Line) (b : Bool) (h : Lin) → js ≡ before ++ line.Combine b h ∷ after → OnlyCombines after → IsSure x js (sum_of_lin h)

-- after a `Combine` line such rows are those before it, and the line's own
abbrev pub SureRowsStay : Type 0
SureRowsStay = (x : Setting) (js : List Line) (strict : Bool) (f : Lin) (g : Sum) → IsSure x (combined js strict f) g → IsSure x js g ⊎ (g ≡ sum_of_lin f)

-- two rows that stand: the name is the largest of both, with a positive factor in the first and a negative one in the second
pub record AreOpposed (x : Setting) (js : List Line) (n : ℕ) (strict_one : Bool) (p : Lin) (strict_other : Bool) (q : Lin) : Type 0 where
  pub first : IsRow x js strict_one (sum_of_lin p)
  pub second : IsRow x js strict_other (sum_of_lin q)
  pub named : n < length x.names
  pub lower : IsLower n (meaning p)
  pub upper : IsUpper n (meaning q)

-- the combination of two such rows is a legal line, where it is no positive multiple of a row that is surely there
abbrev pub CombinationsAreLegal : Type 0
CombinationsAreLegal = (x : Setting) (js : List Line) (n : ℕ) (s t : Bool) (p q r : Lin) → AreOpposed x js n s p t q → IsNormal r → SameMeaning (meaning r) (combination n (meaning p) (meaning q))
    → ((g : Sum) → IsSure x js g → ¬ IsMultiple (sum_of_lin r) g) → MayCombine x js (s || t) r

-- one form's sum is a positive multiple of another's only where the form is
abbrev pub MultiplesAreOfForms : Type 0
MultiplesAreOfForms = (f h : Lin) → IsMultiple (sum_of_lin f) (sum_of_lin h) → (x : ℚ) × (is_positive x ≡ true) × SameForm ℕ_discrete (scale x (meaning h)) (meaning f)

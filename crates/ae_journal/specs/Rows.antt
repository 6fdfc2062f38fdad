-- The rows that stand in a journal: inequalities of sums with 0, the sum at least 0 or, where the row is strict, above it.
use Rattle.std.specs.Prelude.{ℕ, Bool, true, false, ◌||◌, List, ◌∷◌, ◌++◌, ◌≡◌, ◌⊎◌, Some}
use Rattle.ae_math.specs.Fractions.{ℚ, zero_ℚ, neg_ℚ, ◌+ℚ◌, ◌*ℚ◌, is_positive}
use Rattle.ae_core.specs.declared.terms.Term.{Term}
use Rattle.ae_core.specs.declared.formulas.Lit.{Lit}
use Rattle.ae_num.specs.Forms.{IsNormal}
use Rattle.ae_num.specs.declared.forms.Lin.{Lin}
use Rattle.ae_journal.specs.Values.{Sum, leaf_factor, settled, scaled, minus_val, sum_in, sum_of_lin}
use Rattle.ae_journal.specs.States.{inequality}
use Rattle.ae_journal.specs.Journals.{OnlyCombines}
use Rattle.ae_journal.specs.TermValues.{IsLargest}
use Rattle.ae_journal.specs.Sides.{AreWhole, IsRounded}
use Rattle.ae_journal.specs.Standing.{Setting, MayStand, SurelyStands, IsWholeRow, value_now}
use Rattle.ae_journal.specs.declared.lines.Line.{Line}
use Rattle.ae_journal.specs.declared.lines.Line.TheVariants as line

-- the sum of two multiples
abbrev pub add_sums : ℚ → Sum → ℚ → Sum → Sum
add_sums x f y h = record { parts = settled (scaled x f.parts ++ scaled y h.parts); constant = x *ℚ f.constant +ℚ y *ℚ h.constant }

-- a positive multiple
abbrev pub IsMultiple : Sum → Sum → Type 0
IsMultiple f h = (x : ℚ) × (is_positive x ≡ true) × (f ≡ add_sums x h zero_ℚ h)

module _ (x : Setting) where
  -- a row that stands: that of an inequality literal that may stand, that of a `Combine` line after which only such lines have come, or one of sort `int` rounded
  pub data IsRow (js : List Line) (strict : Bool) : Sum → Type 0 where
    of_literal : (l : Lit) (s t : Term) → MayStand x js l → inequality l ≡ Some (s, t, strict) → IsRow js strict (sum_in (minus_val (value_now x js s) (value_now x js t)))
    of_line : (before after : List Line) (f : Lin) → js ≡ before ++ line.Combine strict f ∷ after → OnlyCombines after → IsRow js strict (sum_of_lin f)
    of_whole : (f : Lin) → IsWholeRow x js strict f → IsRow js strict (sum_of_lin f)

  -- two rows on the largest name of both, which has a positive factor in the first and a negative one in the second
  pub record AreCombined (js : List Line) (strict_one : Bool) (one : Sum) (strict_other : Bool) (other : Sum) (key : ℕ) : Type 0 where
    pub first : IsRow js strict_one one
    pub second : IsRow js strict_other other
    pub largest : IsLargest x.names key one × IsLargest x.names key other
    pub signs : (is_positive (leaf_factor one.parts key) ≡ true) × (is_positive (neg_ℚ (leaf_factor other.parts key)) ≡ true)

  -- the combination of two rows: the sum of the positive multiples that cancel the name, strict where one of them is
  pub record IsCombination (js : List Line) (strict : Bool) (c : Sum) : Type 0 where
    pub one : Sum
    pub other : Sum
    pub strict_one : Bool
    pub strict_other : Bool
    pub key : ℕ
    pub combined : AreCombined js strict_one one strict_other other key
    pub strictness : strict ≡ strict_one || strict_other
    pub is : c ≡ add_sums (neg_ℚ (leaf_factor other.parts key)) one (leaf_factor one.parts key) other

  -- a `Combine` line has the combination of two rows, rounded or not. It is no positive multiple of an inequality literal's row that surely stands, or of a `Combine` line's row that stands.
  pub record MayCombine (js : List Line) (strict : Bool) (f : Lin) : Type 0 where
    pub plain : Sum
    pub was_strict : Bool
    pub combination : IsCombination js was_strict plain
    pub normal : IsNormal f
    pub is : ((strict ≡ was_strict) × (sum_of_lin f ≡ plain)) ⊎ ((h : Lin) × IsNormal h × (sum_of_lin h ≡ plain) × AreWhole x.problem.signature x.names h × IsRounded was_strict h f × (strict ≡ false))
    pub no_literal : (l : Lit) (s t : Term) (b : Bool) → SurelyStands x js l → inequality l ≡ Some (s, t, b) → ¬ IsMultiple (sum_of_lin f) (sum_in (minus_val (value_now x js s) (value_now x js t)))
    pub no_line : (before after : List Line) (b : Bool) (h : Lin) → js ≡ before ++ line.Combine b h ∷ after → OnlyCombines after → ¬ IsMultiple (sum_of_lin f) (sum_of_lin h)

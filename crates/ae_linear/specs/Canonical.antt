-- Forms with the values of all eliminated names put in.
use Rattle.std.specs.Prelude.{◌≡◌, ℕ, List, [], ◌∷◌, ◌++◌, Option, Some, None}
use native.Mathlib.Decide.{ℕ_discrete}
use Rattle.ae_math.specs.Fractions.{ℚ, one_ℚ}
use Rattle.ae_math.specs.Forms.{value, substitute}
use Rattle.ae_num.specs.declared.forms.Part.{Part}
use Rattle.ae_num.specs.declared.forms.Lin.{Lin}
use Rattle.ae_num.specs.declared.numbers.Wide.{Wide}
use Rattle.ae_num.specs.Forms.{meaning, SameMeaning, IsNormal, first_wide, subst_steps}
use Rattle.ae_linear.specs.declared.rows.Row.{Row}

-- what a form is worth, where each name is worth a fraction
abbrev pub worth : (ℕ → ℚ) → Lin → ℚ
worth e form = value e one_ℚ (meaning form)

-- each name that has a row is worth its value
abbrev pub AreMet : (ℕ → Option Row) → (ℕ → ℚ) → Type 0
AreMet rows e = (n : ℕ) (row : Row) → rows n ≡ Some row → e n ≡ worth e row.value

-- wherever the rows are met the two forms are worth the same
abbrev pub SameByRows : (ℕ → Option Row) → Lin → Lin → Type 0
SameByRows rows old new = (e : ℕ → ℚ) → AreMet rows e → worth e new ≡ worth e old

-- one step: the value of a name that has a row is put for it
pub record IsPutBy (o : Option Row) (key : ℕ) (old new : Lin) : Type 0 where
  pub row : Row
  pub there : o ≡ Some row
  pub fits : first_wide (subst_steps old key row.value) ≡ None
  pub form : SameMeaning (meaning new) (substitute ℕ_discrete (meaning old) key (meaning row.value))
  pub normal : IsNormal new

-- the values of these names were put in one after the other
pub data ArePutFor (rows : ℕ → Option Row) : List Part → Lin → Lin → Type 0 where
  none : {p q : Lin} → q ≡ p → ArePutFor rows [] p q
  past : {ps : List Part} {p q : Lin} (part : Part) → ArePutFor rows ps p q → rows part.key ≡ None → ArePutFor rows (ps ++ part ∷ []) p q
  more : {ps : List Part} {p q r : Lin} (part : Part) → ArePutFor rows ps p q → IsPutBy (rows part.key) part.key q r → ArePutFor rows (ps ++ part ∷ []) p r

-- the first stated product or sum that leaves the limits where the value of the name is put for it
pub record IsWideBy (o : Option Row) (now : Lin) (key : ℕ) (wide : Wide) : Type 0 where
  pub row : Row
  pub there : o ≡ Some row
  pub leaves : first_wide (subst_steps now key row.value) ≡ Some wide

-- the first of them, names taken as they rise in the form
pub record IsWideFor (rows : ℕ → Option Row) (form : Lin) (wide : Wide) : Type 0 where
  pub before : List Part
  pub part : Part
  pub after : List Part
  pub is : form.parts ≡ before ++ part ∷ after
  pub now : Lin
  pub follows : ArePutFor rows before form now
  pub leaves : IsWideBy (rows part.key) now part.key wide

-- Rows of sort `int`, which are rounded when they are kept.
use Rattle.std.specs.Prelude.{ℕ, Bool, true, false, Some, None, List, [], ◌≡◌, ◌≢◌, pos, ◌-ℤ◌}
use Rattle.std.specs.List.{Contains}
use Rattle.ae_num.specs.declared.forms.Lin.{Lin}
use Rattle.ae_num.specs.Forms.{IsNormal}
use Rattle.ae_num.specs.Limits.{FitsLimits}
use Rattle.ae_journal.specs.Sides.{IsRounded}
use Rattle.ae_rounding.specs.Outside.{IsOutside}
use Rattle.ae_bounds.specs.declared.rows.Row.{Row}
use Rattle.ae_bounds.specs.declared.rows.Unrounded.{Unrounded}
use Rattle.ae_bounds.specs.declared.rows.Origin.TheVariants.{Assumed}

-- a row of sort `int` isn't rounded where it is a number, where its rounded constant is outside the limits, and where rounding changes nothing
pub data StaysUnrounded (strict : Bool) (l : Lin) : Type 0 where
  a_number : l.parts ≡ [] → StaysUnrounded strict l
  outside : IsOutside strict l → StaysUnrounded strict l
  no_change : strict ≡ false → IsRounded strict l l → StaysUnrounded strict l

-- the row is that of the form, rounded where it is of sort `int`
pub data IsRowOf (l : Lin) (strict : Bool) (r : Row) : Type 0 where
  as_it_is : r.lin ≡ l → r.strict ≡ strict → r.unrounded ≡ None → (r.integral ≡ true → StaysUnrounded strict l) → IsRowOf l strict r
  rounded : r.integral ≡ true → l.parts ≢ [] → IsRounded strict l r.lin → r.strict ≡ false → r.unrounded ≡ Some (record { lin = l; strict = strict }) → IsRowOf l strict r

-- the row that was assumed: `l >= 0`, or `l > 0` where it is strict
pub record IsAssumed (l : Lin) (strict integral : Bool) (tag : ℕ) (r : Row) : Type 0 where
  pub from : r.from ≡ Assumed tag
  pub of : IsRowOf l strict r
  pub sort : r.integral ≡ integral
  pub normal : IsNormal r.lin

-- an assumed row that was rounded to the least constant within the limits: a strict row of its form says more, and can't be rounded
pub record IsLeastRounded (r : Row) : Type 0 where
  pub tag : ℕ
  pub from : r.from ≡ Assumed tag
  pub earlier : Unrounded
  pub was : r.unrounded ≡ Some earlier
  pub least : ¬ FitsLimits (r.lin.constant -ℤ pos 1)

-- each combination counts, and so does an assumed row that says so
abbrev pub DoesCount : Row → Type 0
DoesCount r = (tag : ℕ) → r.from ≡ Assumed tag → r.counts ≡ true

-- the forms of a row that count where a combination may be a multiple of them, where the row does: its own, unless it is such a row, and of an assumed row the one that it had before it was rounded
pub data HasForm (r : Row) : Lin → Type 0 where
  own : DoesCount r → ¬ IsLeastRounded r → HasForm r r.lin
  assumed : DoesCount r → (tag : ℕ) (u : Unrounded) → r.from ≡ Assumed tag → r.unrounded ≡ Some u → HasForm r u.lin

-- what a row of sort `int` was before it was rounded
pub record WasRounded (u : Unrounded) (r : Row) : Type 0 where
  pub integral : r.integral ≡ true
  pub normal : IsNormal u.lin
  pub names : u.lin.parts ≢ []
  pub is : IsRounded u.strict u.lin r.lin
  pub loose : r.strict ≡ false
  pub row_normal : IsNormal r.lin

-- the rows over integers that weren't rounded: numbers, those that rounding leaves as they are, and those whose rounded constant is outside the limits
abbrev pub AreSettled : List Row → Type 0
AreSettled rows = (r : Row) → Contains rows r → r.unrounded ≡ None → r.integral ≡ true → StaysUnrounded r.strict r.lin

abbrev pub AreRounded : List Row → Type 0
AreRounded rows = (r : Row) (u : Unrounded) → Contains rows r → r.unrounded ≡ Some u → WasRounded u r

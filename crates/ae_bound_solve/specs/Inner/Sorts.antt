-- The sort of the sides of the rows that a row is made of.
use Rattle.std.specs.Prelude.{ℕ, ◌<◌, ◌≡◌, Bool, List, Option, Some, None, length, slice_get}
use Rattle.ae_bounds.specs.declared.rows.Row.{Row}
use Rattle.ae_bounds.specs.declared.rows.Origin.{Origin}
use Rattle.ae_bounds.specs.declared.rows.Origin.TheVariants.{Assumed, Combined}
use Rattle.ae_bound_blocks.specs.declared.given.Given.{Given}
use Rattle.ae_bound_blocks.specs.Ancestors.{IsAncestor}

abbrev pub IsFirstParent : Origin → Option ℕ → Type 0
IsFirstParent (Assumed tag) o = o ≡ None
IsFirstParent (Combined lower upper) o = o ≡ Some lower

-- the tag of each assumed row has what gives it
abbrev pub AreGivenWithin : List Row → List Given → Type 0
AreGivenWithin rows given = (k tag : ℕ) (r : Row) → slice_get rows k ≡ Some r → r.from ≡ Assumed tag → tag < length given

-- the assumed rows that a row is made of are given by sides of one sort
abbrev pub AreOfSort : List Row → List Given → ℕ → Bool → Type 0
AreOfSort rows given place real = (k tag : ℕ) (r : Row) (g : Given) → IsAncestor rows place k → slice_get rows k ≡ Some r → r.from ≡ Assumed tag → slice_get given tag ≡ Some g → g.real ≡ real

-- The directions of forms: equal ones for forms that are positive multiples of one another.
use Rattle.std.specs.Prelude.{ℕ, Bool, true, pos, Option, Some, None, List, [], ◌++◌, ◌≡◌, ◌⊎◌}
use Rattle.std.specs.List.{AllByRecursion, Contains, flat_map}
use Rattle.std.specs.Bool.{Decides}
use Rattle.std.specs.Cmp as cmp
use Rattle.std.specs.Hash as fed
use mathlib.Core.Path.{ap}
use Rattle.ae_base.specs.Decided.{decide, decided}
use Rattle.ae_base.proofs.Decided.{decided_yes, decided_of}
use Rattle.ae_num.specs.declared.forms.Part.{Part}
use Rattle.ae_num.specs.declared.forms.Lin.{Lin}
use Rattle.ae_num.specs.Forms.{meaning, IsNormal}
use Rattle.ae_ineq.specs.Inner.Primitive.{IsPrimitive}
use Rattle.ae_ineq.specs.Inner.Sets.{IsMultiple}
use Rattle.ae_bounds.specs.declared.rows.Row.{Row}
use Rattle.ae_bounds.specs.declared.rows.Unrounded.{Unrounded}
use Rattle.ae_bounds.specs.declared.rows.Origin.TheVariants.{Assumed}
use Rattle.ae_bounds.specs.Rounding.{HasForm}
use Rattle.ae_bounds.specs.declared.directions.Direction.{Direction}
use Rattle.ae_bounds.specs.contracts.directions.Direction as direction_contract

-- the form 0 is its own direction
pub record IsOfZero (l d : Lin) : Type 0 where
  pub normal : IsNormal l
  pub bare : l.parts ≡ []
  pub constant : l.constant ≡ pos 0
  pub own : d ≡ l

-- of another form it is the positive multiple in whole numbers with no divisor in common
pub record IsOfSome (l d : Lin) : Type 0 where
  pub normal : IsNormal l
  pub directed : IsMultiple (meaning l) (meaning d)
  pub direction_normal : IsNormal d
  pub primitive : IsPrimitive d

abbrev pub IsDirectionOf : Lin → Lin → Type 0
IsDirectionOf l d = IsOfSome l d ⊎ IsOfZero l d

-- the directions are those of the forms of the rows, which are in the normal form
pub record AreIndexed (rows : List Row) (ds : List Direction) : Type 0 where
  pub normal : AllByRecursion (λ r. IsNormal r.lin) rows
  pub each : (r : Row) (l : Lin) → Contains rows r → HasForm r l → (d : Direction) × Contains ds d × IsDirectionOf l d.form
  pub own : (d : Direction) → Contains ds d → (r : Row) × (l : Lin) × Contains rows r × HasForm r l × IsDirectionOf l d.form

-- the direction of the form that a row had before it was rounded, where that counts
abbrev pub IsEarlier : Row → Option Direction → Type 0
IsEarlier r None = (tag : ℕ) (u : Unrounded) → r.from ≡ Assumed tag → r.unrounded ≡ Some u → ⊥
IsEarlier r (Some d) = (tag : ℕ) × (u : Unrounded) × (r.from ≡ Assumed tag) × (r.unrounded ≡ Some u) × IsDirectionOf u.lin d.form

-- ---- equality as a test, and what a hash reads
pub Direction_discrete : Discrete Direction
Direction_discrete = decide direction_contract.the_row.coded

abbrev pub is_same : Direction → Direction → Bool
is_same x y = decided (Direction_discrete x y)

pub is_same_decides : (x y : Direction) → Decides (is_same x y) (x ≡ y)
is_same_decides x y = (decided_yes (Direction_discrete x y), decided_of (Direction_discrete x y))

pub is_same_equiv : cmp.IsEquivalence is_same
is_same_equiv = cmp.decided is_same is_same_decides

abbrev pub part_written : Part → fed.HashWrites
part_written p = fed.usize p.key ++ fed.i128 p.factor

abbrev pub written : Direction → fed.HashWrites
written d = fed.i128 d.form.constant ++ flat_map part_written d.form.parts

pub written_alike : (x y : Direction) → is_same x y ≡ true → written x ≡ written y
written_alike x y e = ap written ((is_same_decides x y).0 e)

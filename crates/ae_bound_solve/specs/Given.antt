-- What gives the assumed rows, and the names in those of sort `int`.
use Rattle.std.specs.Prelude.{ℕ, true, false, ◌≡◌, List, Some, slice_get}
use Rattle.std.specs.List.{Contains}
use Rattle.ae_math.specs.Forms.{single}
use Rattle.ae_core.specs.declared.terms.Term.{Term}
use Rattle.ae_core.specs.declared.problems.Signature.{Signature}
use Rattle.ae_num.specs.declared.forms.Part.{Part}
use Rattle.ae_rules.specs.Linear.{form}
use Rattle.ae_store.specs.Terms.{named}
use Rattle.ae_bounds.specs.declared.rows.Row.{Row}
use Rattle.ae_bounds.specs.declared.rows.Origin.TheVariants.{Assumed}
use Rattle.ae_bound_blocks.specs.declared.given.Given.{Given}
use Rattle.ae_bound_blocks.specs.Said.{was, IsGiven}

-- each assumed row is given under its tag: allowed lines of which the last says a multiple of the form that it had before it was rounded; a row of sort `int` by sides of that sort
abbrev pub AreAllGiven : Signature → List Term → List Row → List Given → Type 0
AreAllGiven sig ts rows given = (r : Row) (tag : ℕ) → Contains rows r → r.from ≡ Assumed tag → (g : Given) × (slice_get given tag ≡ Some g) × IsGiven sig ts g.real (was r) g × (r.integral ≡ true → g.real ≡ false)

-- a name of an assumed row of sort `int`
pub record IsWholeName (rows : List Row) (n : ℕ) : Type 0 where
  pub row : Row
  pub among : Contains rows row
  pub tag : ℕ
  pub from : row.from ≡ Assumed tag
  pub integral : row.integral ≡ true
  pub part : Part
  pub in_row : Contains (was row).lin.parts part
  pub is : part.key ≡ n

-- each such name is an opaque term, different names being different terms
pub record AreOpaqueNames (ts : List Term) (rows : List Row) : Type 0 where
  pub opaque : (n : ℕ) → IsWholeName rows n → form (named ts n) ≡ single (named ts n)
  pub apart : (n m : ℕ) → IsWholeName rows n → IsWholeName rows m → named ts n ≡ named ts m → n ≡ m

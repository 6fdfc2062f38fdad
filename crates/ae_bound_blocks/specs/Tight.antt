-- Rows of which a positive sum is 0.
use Rattle.std.specs.Prelude.{ℕ, ◌≡◌, List, [], ◌∷◌, Option, Some, None, slice_get}
use Rattle.std.specs.List.{Contains}
use Rattle.ae_ineq.specs.declared.solving.Inequality.{Inequality}
use Rattle.ae_ineq.specs.Sums.{Share, HasTightSum}
use Rattle.ae_bounds.specs.declared.rows.Row.{Row}
use Rattle.ae_bounds.specs.declared.rows.Unrounded.{Unrounded}
use Rattle.ae_bounds.specs.declared.rows.Origin.TheVariants.{Combined}

-- the row was assumed, or is a combination that was rounded
abbrev pub IsGivenRow : Row → Type 0
IsGivenRow r = (lower upper : ℕ) → r.from ≡ Combined lower upper → (u : Unrounded) × (r.unrounded ≡ Some u)

abbrev pub inequality_of : Row → Inequality
inequality_of r = record { lin = r.lin; strict = r.strict }

-- the inequalities of the rows of these numbers
abbrev pub with_row : Option Row → List Inequality → List Inequality
with_row None others = others
with_row (Some r) others = inequality_of r ∷ others

abbrev pub inequalities_at : List Row → List ℕ → List Inequality
inequalities_at rows [] = []
inequalities_at rows (k ∷ ks) = with_row (slice_get rows k) (inequalities_at rows ks)

-- the numbers of rows, assumed or rounded, of which a positive sum is `0 >= 0` though one of them isn't zero; each of them has a share in it
pub record AreTight (rows : List Row) (numbers : List ℕ) : Type 0 where
  pub given : (k : ℕ) → Contains numbers k → (r : Row) × (slice_get rows k ≡ Some r) × IsGivenRow r
  pub tight : HasTightSum (inequalities_at rows numbers)
  pub shares : (k : ℕ) (r : Row) → Contains numbers k → slice_get rows k ≡ Some r → (u : Share) × Contains tight.sum.shares u × (u.row ≡ inequality_of r)

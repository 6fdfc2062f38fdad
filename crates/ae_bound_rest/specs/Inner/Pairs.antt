-- Two rows and their roundings, by their places.
use Rattle.std.specs.Prelude.{ℕ, ◌<◌, ◌≡◌, ◌⊎◌, List, Some, IfSome, IfNone, slice_get}
use Rattle.std.specs.List.{Contains}
use Rattle.ae_num.specs.Forms.{meaning, IsNormal}
use Rattle.ae_rows.specs.Rows.{IsLower, IsUpper}
use Rattle.ae_bounds.specs.declared.rows.Row.{Row}
use Rattle.ae_bounds.specs.declared.directions.Direction.{Direction}
use Rattle.ae_bounds.specs.Inner.Directions.{AreIndexed}
use Rattle.ae_bound_rest.specs.declared.combining.Both.{Both}
use Rattle.ae_bound_rest.specs.Rest.{plain, IsRoundingOf, IsStandingIn, IsDoneIn}

abbrev pub IsPlain : Row → Type 0
IsPlain p = p ≡ plain p.lin p.strict p.integral p.counts

-- rounding leaves the row as it is, or isn't within the limits
abbrev pub IsItself : Row → Type 0
IsItself p = (r : Row) → IsRoundingOf p r → r ≡ p

-- the row, or what it is rounded
abbrev pub IsOneRow : Row → Row → Type 0
IsOneRow s p = (p ≡ s) ⊎ IsRoundingOf s p

-- a row with what it is rounded, where that is another one
pub record IsBoth (p : Row) (b : Both) : Type 0 where
  pub own : b.own ≡ p
  pub rounded : IfSome b.rounded (IsRoundingOf p)
  pub itself : IfNone b.rounded (IsItself p)

abbrev pub IsOneOf : Both → Row → Type 0
IsOneOf b p = (p ≡ b.own) ⊎ (b.rounded ≡ Some p)

-- both are in the normal form
pub record AreNormal (b : Both) : Type 0 where
  pub own : IsNormal b.own.lin
  pub rounded : (r : Row) → b.rounded ≡ Some r → IsNormal r.lin

-- both stand
abbrev pub AreStandingIn : List Row → Both → Type 0
AreStandingIn sure b = (p : Row) → IsOneOf b p → IsStandingIn sure p

-- where the two rows can be combined, their combination is there, and what it is rounded
abbrev pub IsDoneOn : List Row → Row → Row → Type 0
IsDoneOn sure p q = (n : ℕ) → IsLower n (meaning p.lin) → IsUpper n (meaning q.lin) → IsDoneIn sure p q n

-- so it is with the rows at two places, and what they are rounded
abbrev pub IsPairDone : List Row → ℕ → ℕ → List Row → Type 0
IsPairDone rows i j new = (s t p q : Row) → slice_get rows i ≡ Some s → slice_get rows j ≡ Some t → IsOneRow s p → IsOneRow t q → IsDoneOn new p q

-- with a row and the first t rows, both ways
abbrev pub ArePairsDone : List Row → ℕ → ℕ → List Row → Type 0
ArePairsDone rows place t new = (k : ℕ) → k < t → IsPairDone rows place k new × IsPairDone rows k place new

-- with the first k rows
abbrev pub AreDoneBelow : ℕ → List Row → Type 0
AreDoneBelow k rows = (i j : ℕ) → i < k → j < k → IsPairDone rows i j rows

-- rows that aren't rounded, with their directions
pub record AreCounted (sure : List Row) (ds : List Direction) : Type 0 where
  pub indexed : AreIndexed sure ds
  pub plain : (r : Row) → Contains sure r → IsPlain r

-- Rows by their largest names.
use Rattle.std.specs.Prelude.{ℕ, ◌<◌, ◌≤◌, pos, ◌<ℤ◌, ◌≡◌, IfSome, Option, Some, None, List, [], ◌∷◌, ◌++◌, length, slice_get}
use Rattle.std.specs.List.{AllByRecursion, Contains}
use Rattle.ae_math.specs.Forms.{Form}
use Rattle.ae_num.specs.declared.forms.Part.{Part}
use Rattle.ae_num.specs.Forms.{meaning}
use Rattle.ae_ineq.specs.declared.rows.Row.{Row as Directed}
use Rattle.ae_ineq.specs.declared.elimination.Stage.{Stage}
use Rattle.ae_ineq.specs.Inner.Sets.{last_part, name_reach, IsRow, IsStage, HasForm, HasStage}
use Rattle.ae_ineq.specs.Inner.Points.{AreFalling}
use Rattle.ae_bounds.specs.declared.rows.Row.{Row}
use Rattle.ae_bound_points.specs.Points.{IsNonzeroRow}

-- the last part of a form of which the name is the largest one, with a positive factor, or a negative one
abbrev pub IsLowerPart : ℕ → Part → Type 0
IsLowerPart name p = (p.key ≡ name) × (pos 0 <ℤ p.factor)

abbrev pub IsUpperPart : ℕ → Part → Type 0
IsUpperPart name p = (p.key ≡ name) × (p.factor <ℤ pos 0)

-- a row was added at the end
pub record IsPushed (r : Row) (old new : List Directed) : Type 0 where
  pub made : Directed
  pub known : IsRow made
  pub is : made.lin ≡ r.lin
  pub added : new ≡ old ++ made ∷ []

-- a row was added where its last part is P, and wasn't where it isn't
pub data IsAdded (P : Part → Type 0) (r : Row) (old new : List Directed) : Type 0 where
  added : (p : Part) → last_part r.lin.parts ≡ Some p → P p → IsPushed r old new → IsAdded P r old new
  left : ((p : Part) → last_part r.lin.parts ≡ Some p → P p → ⊥) → new ≡ old → IsAdded P r old new

-- a row with its direction, and its last part
pub record HasLast (P : Part → Type 0) (d : Directed) : Type 0 where
  pub known : IsRow d
  pub part : Part
  pub last : last_part d.lin.parts ≡ Some part
  pub is : P part

-- those of the first i rows of which the last part is P
pub record AreTaken (P : Part → Type 0) (rows : List Row) (i : ℕ) (made : List Directed) : Type 0 where
  pub each : AllByRecursion (HasLast P) made
  pub all : (k : ℕ) (r : Row) (p : Part) → k < i → slice_get rows k ≡ Some r → last_part r.lin.parts ≡ Some p → P p → HasForm made (meaning r.lin)
  pub own : (f : Form ℕ) → HasForm made f → IsNonzeroRow rows f

-- the rows of which the name is the largest one
pub record IsStageOf (rows : List Row) (n : ℕ) (s : Stage) : Type 0 where
  pub named : s.name ≡ n
  pub lower : AreTaken (IsLowerPart n) rows (length rows) s.lowers
  pub upper : AreTaken (IsUpperPart n) rows (length rows) s.uppers

-- the name is below the bound, where there is one
abbrev pub IsBeneath : Option ℕ → ℕ → Type 0
IsBeneath None n = Unit {0}
IsBeneath (Some b) n = n < b

-- the name is below the bound, and no largest name of the first i rows that is below the bound is greater
pub record IsNext (rows : List Row) (i : ℕ) (bound : Option ℕ) (found : Option ℕ) : Type 0 where
  pub below : IfSome found (IsBeneath bound)
  pub most : (k : ℕ) (r : Row) (p : Part) → k < i → slice_get rows k ≡ Some r → last_part r.lin.parts ≡ Some p → IsBeneath bound p.key → p.key < name_reach found

-- the stages of the names from n on
pub record AreStaged (rows : List Row) (n : ℕ) (made : List Stage) : Type 0 where
  pub stages : AllByRecursion (IsStage n) made
  pub falling : AreFalling made
  pub all : (r : Row) (p : Part) → Contains rows r → last_part r.lin.parts ≡ Some p → n ≤ p.key → HasStage made (meaning r.lin)
  pub own : (f : Form ℕ) → HasStage made f → IsNonzeroRow rows f

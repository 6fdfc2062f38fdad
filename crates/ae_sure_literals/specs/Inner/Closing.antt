-- What the use of clauses does to flags of the literals of a trail.
use Rattle.std.specs.Prelude.{ℕ, suc, ◌<◌, ◌≡◌, ◌≢◌, Bool, true, false, List, [], ◌∷◌, length, slice_index_or, slice_set, MatchBool, Option, Some, None}
use Rattle.std.specs.List.{AllByRecursion, Contains}
use Rattle.ae_core.specs.declared.formulas.Lit.{Lit}
use Rattle.ae_explain.specs.Trail.{at}
use Rattle.ae_explain.specs.declared.trail.Assigned.{Assigned}
use Rattle.ae_journal.specs.Standing.{Setting, SurelyStands}
use Rattle.ae_journal.specs.declared.lines.Line.{Line}
use Rattle.ae_propagation.specs.Settled.{Holds}
use Rattle.ae_rules.specs.Clauses.{Clause, opposite, row}
use Rattle.ae_rules.specs.Defining.{called_rows}

abbrev pub either : Bool → Bool → Bool
either true b = true
either false b = b

abbrev pub flag : List Bool → ℕ → Bool
flag fs k = slice_index_or fs k false

abbrev pub how_many : List Bool → ℕ
how_many [] = 0
how_many (true ∷ fs) = suc (how_many fs)
how_many (false ∷ fs) = how_many fs

abbrev pub none_by : Option ℕ → Bool
none_by None = true
none_by (Some k) = false

abbrev pub is_decision : Assigned → Bool
is_decision a = none_by a.by

-- ---- what may be asked of flags
-- a literal of the trail is flagged
pub record IsFlagged (t : List Assigned) (fs : List Bool) (l : Lit) : Type 0 where
  pub place : ℕ
  pub within : place < length t
  pub is : (at t place).lit ≡ l
  pub flagged : flag fs place ≡ true

module _ (t : List Assigned) (fs : List Bool) where
  abbrev pub IsOtherFailing : Lit → Lit → Type 0
  IsOtherFailing own m = m ≢ own → IsFlagged t fs (opposite m)

  abbrev pub OthersFail : Clause → Lit → Type 0
  OthersFail c own = AllByRecursion (IsOtherFailing own) c

  -- where the others fail, a literal that is on the trail is flagged
  abbrev pub IsClosedAt : Clause → Lit → Type 0
  IsClosedAt c l = OthersFail c l → Holds t l → IsFlagged t fs l

  abbrev pub IsClosed : Clause → Type 0
  IsClosed c = AllByRecursion (IsClosedAt c) c

  abbrev pub IsRowClosed : Lit → ℕ → Type 0
  IsRowClosed w r = (c : Clause) → row r w.formula ≡ Some c → Contains c (opposite w) → IsClosed c

  abbrev pub AreRowsClosed : Lit → Type 0
  AreRowsClosed w = AllByRecursion (IsRowClosed w) (called_rows w.positive w.formula)

  -- those of the literals that are flagged at the first n places
  abbrev pub ArePlacesClosed : ℕ → Type 0
  ArePlacesClosed n = (k : ℕ) → k < n → flag fs k ≡ true → AreRowsClosed (at t k).lit

-- what is flagged surely stands
abbrev pub AreRight : Setting → List Line → List Assigned → List Bool → Type 0
AreRight x js t fs = (k : ℕ) → k < length t → flag fs k ≡ true → SurelyStands x js (at t k).lit

-- where the opposites of its others surely stand, a literal of the clause does
abbrev pub Forces : Setting → List Line → Clause → Type 0
Forces x js c = (l : Lit) → Contains c l → ((m : Lit) → Contains c m → m ≢ l → SurelyStands x js (opposite m)) → SurelyStands x js l

-- ---- what is done to them
-- a literal is flagged at its place, or it was, or it doesn't stand in the trail
pub record IsPut (t : List Assigned) (l : Lit) (old new : List Bool) : Type 0 where
  pub place : ℕ
  pub within : place < length t
  pub is : (at t place).lit ≡ l
  pub unset : flag old place ≡ false
  pub set : new ≡ slice_set old place true

pub record IsLeft (t : List Assigned) (l : Lit) (old new : List Bool) : Type 0 where
  pub same : new ≡ old
  pub there : Holds t l → IsFlagged t old l

abbrev pub IsMarked : List Assigned → Lit → List Bool → List Bool → Bool → Type 0
IsMarked t l old new changed = MatchBool changed (IsPut t l old new) (IsLeft t l old new)

-- flags are added that are right where some things are fair; where none is added, what was to be done is done
pub record Passes (t : List Assigned) (fair : Setting → List Line → Type 0) (Done : List Bool → Type 0) (old new : List Bool) (changed : Bool) : Type 0 where
  pub long : length new ≡ length old
  pub still : changed ≡ false → new ≡ old
  pub more : changed ≡ true → how_many old < how_many new
  pub kept : (k : ℕ) → flag old k ≡ true → flag new k ≡ true
  pub right : (x : Setting) (js : List Line) → fair x js → AreRight x js t old → AreRight x js t new
  pub done : changed ≡ false → Done old

module _ (t : List Assigned) where
  abbrev pub UsesLiteral : Clause → Lit → List Bool → List Bool → Bool → Type 0
  UsesLiteral c l = Passes t (λ x js. Forces x js c) (λ fs. IsClosedAt t fs c l)

  abbrev pub UsesClause : Clause → List Bool → List Bool → Bool → Type 0
  UsesClause c = Passes t (λ x js. Forces x js c) (λ fs. IsClosed t fs c)

  abbrev pub UsesClauses : List Clause → List Bool → List Bool → Bool → Type 0
  UsesClauses cs = Passes t (λ x js. AllByRecursion (Forces x js) cs) (λ fs. AllByRecursion (IsClosed t fs) cs)

  abbrev pub UsesRow : ℕ → ℕ → List Bool → List Bool → Bool → Type 0
  UsesRow k r = Passes t (λ x js. SurelyStands x js (at t k).lit) (λ fs. IsRowClosed t fs (at t k).lit r)

  abbrev pub UsesRows : ℕ → List Bool → List Bool → Bool → Type 0
  UsesRows k = Passes t (λ x js. SurelyStands x js (at t k).lit) (λ fs. AreRowsClosed t fs (at t k).lit)

  abbrev pub UsesPlace : ℕ → List Bool → List Bool → Bool → Type 0
  UsesPlace k = Passes t (λ x js. Unit {0}) (λ fs. flag fs k ≡ true → AreRowsClosed t fs (at t k).lit)

  abbrev pub UsesPlaces : ℕ → List Bool → List Bool → Bool → Type 0
  UsesPlaces n = Passes t (λ x js. Unit {0}) (λ fs. ArePlacesClosed t fs n)

  abbrev pub UsesAll : List Clause → List Bool → List Bool → Bool → Type 0
  UsesAll cs = Passes t (λ x js. AllByRecursion (Forces x js) cs) (λ fs. AllByRecursion (IsClosed t fs) cs × ArePlacesClosed t fs (length t))

-- nothing more follows
pub record Closes (t : List Assigned) (cs : List Clause) (old new : List Bool) : Type 0 where
  pub long : length new ≡ length old
  pub kept : (k : ℕ) → flag old k ≡ true → flag new k ≡ true
  pub right : (x : Setting) (js : List Line) → AllByRecursion (Forces x js) cs → AreRight x js t old → AreRight x js t new
  pub clauses : AllByRecursion (IsClosed t new) cs
  pub rows : ArePlacesClosed t new (length t)

-- A trail to which unit clauses add nothing.
use Rattle.std.specs.Prelude.{◌≡◌, ◌≢◌, ℕ, ◌<◌, List, ◌++◌, length, slice_index_or, None}
use Rattle.std.specs.List.{Contains}
use Rattle.ae_rules.specs.Clauses.{Clause}
use Rattle.ae_core.specs.declared.formulas.Lit.{Lit}
use Rattle.ae_explain.specs.declared.trail.Assigned.{Assigned}
use Rattle.ae_explain.specs.Trail.{at, place_in, clause, IsFalse, AreFalse, level_before}
use Rattle.ae_propagation.specs.declared.settle.Settled.{Settled}
use Rattle.ae_propagation.specs.declared.settle.Settled.TheVariants.{Quiet, Falsified}
use Rattle.ae_propagation.specs.declared.settle.ClauseState.{ClauseState}
use Rattle.ae_propagation.specs.declared.settle.ClauseState.TheVariants as state

-- a literal stands in the trail
abbrev pub Holds : List Assigned → Lit → Type 0
Holds t m = (j : ℕ) × (j < length t) × ((at t j).lit ≡ m)

-- no clause is false, and each one with all literals but one false has that one true
pub record IsQuiet (t : List Assigned) (clauses : List Clause) : Type 0 where
  pub none_false : (k : ℕ) → k < length clauses → ¬ AreFalse t (clause clauses k)
  pub units : (k : ℕ) (l : Lit) → k < length clauses → Contains (clause clauses k) l
      → ((m : Lit) → Contains (clause clauses k) m → m ≢ l → IsFalse t m) → Holds t l

-- the literal at p has no value, and each other one is false
pub record IsOpenAlone (t : List Assigned) (c : Clause) (p : ℕ) : Type 0 where
  pub lit : Lit
  pub within : p < length c
  pub is : (w : Lit) → slice_index_or c p w ≡ lit
  pub no_place : place_in t lit.formula ≡ None
  pub others : (m : Lit) → Contains c m → m ≢ lit → IsFalse t m

-- two literals that differ have no value
pub record AreOpen (t : List Assigned) (c : Clause) : Type 0 where
  pub one : Lit
  pub other : Lit
  pub has : Contains c one
  pub has_other : Contains c other
  pub differ : one ≢ other
  pub open_one : place_in t one.formula ≡ None
  pub open_other : place_in t other.formula ≡ None

abbrev pub HasTrue : List Assigned → Clause → Type 0
HasTrue t c = (m : Lit) × Contains c m × Holds t m

-- how a clause stands to a trail
abbrev pub Says : List Assigned → Clause → ClauseState → Type 0
Says t c state.True = HasTrue t c
Says t c state.False = AreFalse t c
Says t c (state.Unit p) = IsOpenAlone t c p
Says t c state.Open = AreOpen t c

-- the level of the last literal, 0 where there is none
abbrev pub last_level : List Assigned → ℕ
last_level t = level_before t (length t)

-- the trail has grown by unit clauses alone, at the level that it had
pub record Grown (old new : List Assigned) : Type 0 where
  pub more : List Assigned
  pub is : new ≡ old ++ more
  pub by_clauses : (i : ℕ) → i < length more → (at more i).by ≢ None
  pub levels : (i : ℕ) → i < length more → (at more i).level ≡ last_level old

-- what settling answers
abbrev pub Ends : List Assigned → List Clause → Settled → Type 0
Ends t clauses Quiet = IsQuiet t clauses
Ends t clauses (Falsified k) = (k < length clauses) × AreFalse t (clause clauses k)

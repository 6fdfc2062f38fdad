-- Trails of true literals, and what makes one lawful.
use Rattle.std.specs.Prelude.{◌≡◌, ◌≢◌, ℕ, zero, suc, ◌+◌, ◌<◌, List, [], ◌∷◌, length, slice_index_or, Option, Some, None, cond, false}
use Rattle.std.specs.List.{Contains}
use Rattle.std.specs.Option.{option_map}
use Rattle.ae_base.specs.Decided.{decided}
use Rattle.ae_core.specs.Decided.{Formula_discrete}
use Rattle.ae_rules.specs.Clauses.{Clause, opposite}
use Rattle.ae_core.specs.declared.formulas.Formula.{Formula, False}
use Rattle.ae_core.specs.declared.formulas.Lit.{Lit}
use Rattle.ae_explain.specs.declared.trail.Assigned.{Assigned}

abbrev pub nothing : Assigned
nothing = record { lit = record { positive = false; formula = False }; level = 0; by = None }

-- what stands at a place
abbrev pub at : List Assigned → ℕ → Assigned
at trail i = slice_index_or trail i nothing

-- the first place where a formula stands, true or false
abbrev pub place_in : List Assigned → Formula → Option ℕ
place_in [] f = None
place_in (a ∷ trail) f = cond (decided (Formula_discrete a.lit.formula f)) (Some 0) (option_map suc (place_in trail f))

-- no formula stands twice
abbrev pub Apart : List Assigned → Type 0
Apart trail = (i j : ℕ) → i < j → j < length trail → (at trail i).lit.formula ≢ (at trail j).lit.formula

-- a literal is false by the first n of the trail: its opposite stands among them
abbrev pub IsFalseBelow : List Assigned → ℕ → Lit → Type 0
IsFalseBelow trail n m = (j : ℕ) × (j < n) × ((at trail j).lit ≡ opposite m)

abbrev pub IsFalse : List Assigned → Lit → Type 0
IsFalse trail m = IsFalseBelow trail (length trail) m

-- each literal of a clause is false
abbrev pub AreFalse : List Assigned → Clause → Type 0
AreFalse trail c = (m : Lit) → Contains c m → IsFalse trail m

abbrev pub clause : List Clause → ℕ → Clause
clause clauses k = slice_index_or clauses k []

-- the literals of a clause other than this one are false by the first n of the trail
abbrev pub OthersAreFalse : List Assigned → ℕ → Lit → Clause → Type 0
OthersAreFalse trail n own c = (m : Lit) → Contains c m → m ≢ own → IsFalseBelow trail n m

-- clause k makes the literal at i true after those before it: it holds it, and its other literals are false by earlier ones
pub record IsReason (trail : List Assigned) (clauses : List Clause) (i k : ℕ) : Type 0 where
  pub within : k < length clauses
  pub has : Contains (clause clauses k) (at trail i).lit
  pub others : OthersAreFalse trail i (at trail i).lit (clause clauses k)

-- the level before a place
abbrev pub level_before : List Assigned → ℕ → ℕ
level_before trail zero = 0
level_before trail (suc i) = (at trail i).level

-- a literal without a clause begins the next level; each other one is of the level before it, and its clause is its reason
abbrev pub Enters : List Assigned → List Clause → ℕ → Option ℕ → Type 0
Enters trail clauses i None = (at trail i).level ≡ level_before trail i + 1
Enters trail clauses i (Some k) = ((at trail i).level ≡ level_before trail i) × IsReason trail clauses i k

pub record IsLawful (trail : List Assigned) (clauses : List Clause) : Type 0 where
  -- no literal stands twice or with its opposite
  pub apart : Apart trail
  pub enters : (i : ℕ) → i < length trail → Enters trail clauses i (at trail i).by

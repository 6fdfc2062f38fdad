-- What the clauses that are given say at the levels below the present one.
use Rattle.std.specs.Prelude.{◌≡◌, ◌≢◌, ℕ, ◌<◌, ◌≤◌, List, ◌++◌, length}
use Rattle.std.specs.List.{Contains}
use Rattle.ae_rules.specs.Clauses.{Clause, opposite}
use Rattle.ae_core.specs.declared.formulas.Lit.{Lit}
use Rattle.ae_explain.specs.declared.trail.Assigned.{Assigned}
use Rattle.ae_explain.specs.Trail.{at}
use Rattle.ae_propagation.specs.Settled.{last_level}

-- the literal, or its opposite, stands at a level of at most k
abbrev pub HoldsUpTo : List Assigned → ℕ → Lit → Type 0
HoldsUpTo t k m = (j : ℕ) × (j < length t) × ((at t j).lit ≡ m) × ((at t j).level ≤ k)

abbrev pub IsFalseUpTo : List Assigned → ℕ → Lit → Type 0
IsFalseUpTo t k m = HoldsUpTo t k (opposite m)

-- by the levels up to k all literals of the clause but one at most are false, and none is true
pub record Fires (t : List Assigned) (c : Clause) (k : ℕ) : Type 0 where
  pub one : Lit
  pub others : (m : Lit) → Contains c m → m ≢ one → IsFalseUpTo t k m
  pub untrue : (m : Lit) → Contains c m → ¬ HoldsUpTo t k m

-- no given clause fires at a level below the present one
abbrev pub IsLayered : List Assigned → (Clause → Type 0) → Type 0
IsLayered t given = (c : Clause) → given c → (k : ℕ) → k < last_level t → ¬ Fires t c k

-- the trail that is left when all literals above a level are undone
pub record IsCut (t : List Assigned) (level : ℕ) (cut : List Assigned) : Type 0 where
  pub undone : List Assigned
  pub is : t ≡ cut ++ undone
  pub kept : (j : ℕ) → j < length cut → (at cut j).level ≤ level
  pub above : (j : ℕ) → j < length undone → level < (at undone j).level

-- Unit propagation from a place of the trail on, and what it may cost.
use Rattle.std.specs.Prelude.{◌≢◌, ℕ, ◌<◌, List, length, drop}
use Rattle.std.specs.List.{Contains, sum_by, count_by}
use Rattle.ae_rules.specs.Clauses.{Clause, opposite, stands}
use Rattle.ae_core.specs.declared.formulas.Lit.{Lit}
use Rattle.ae_explain.specs.declared.trail.Assigned.{Assigned}
use Rattle.ae_explain.specs.Trail.{clause, IsFalse, AreFalse}
use Rattle.ae_propagation.specs.Settled.{Holds}

-- by the first literals of the trail the clause isn't false, and if they make all its literals false but one, that one is true somewhere in the trail
pub record IsQuietBy (first t : List Assigned) (c : Clause) : Type 0 where
  pub not_false : ¬ AreFalse first c
  pub unit : (l : Lit) → Contains c l → ((m : Lit) → Contains c m → m ≢ l → IsFalse first m) → Holds t l

abbrev pub AreQuietBy : List Assigned → List Assigned → List Clause → Type 0
AreQuietBy first t clauses = (k : ℕ) → k < length clauses → IsQuietBy first t (clause clauses k)

-- how many clauses have the opposite of a literal of the trail
abbrev pub against : List Clause → Assigned → ℕ
against clauses a = count_by (λ c. stands c (opposite a.lit)) clauses

-- the pairs of a literal of the trail, from a place on, and a clause that has its opposite
abbrev pub pairs : List Assigned → List Clause → ℕ → ℕ
pairs t clauses from = sum_by (against clauses) (drop from t)

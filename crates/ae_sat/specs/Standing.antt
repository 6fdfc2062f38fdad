-- The solver beside a journal.
use Rattle.std.specs.Prelude.{◌≡◌, ℕ, ◌<◌, List, [], ◌∷◌, length, Option, Some, None}
use Rattle.std.specs.List.{Contains}
use Rattle.ae_rules.specs.Clauses.{Clause, row}
use Rattle.ae_core.specs.declared.formulas.Lit.{Lit}
use Rattle.ae_rules.specs.Defining.{called_rows}
use Rattle.ae_explain.specs.declared.trail.Assigned.{Assigned}
use Rattle.ae_explain.specs.Trail.{at, clause}

-- one of the clauses
abbrev pub IsOneOf : List Clause → Clause → Type 0
IsOneOf clauses c = (k : ℕ) × (k < length clauses) × (clause clauses k ≡ c)

-- each row that the truth of a literal calls for is among the clauses, for the literals at the first n places
abbrev pub HasRows : List Assigned → ℕ → List Clause → Type 0
HasRows t n clauses = (j r : ℕ) (c : Clause) → j < n → j < length t → Contains (called_rows (at t j).lit.positive (at t j).lit.formula) r → row r (at t j).lit.formula ≡ Some c → IsOneOf clauses c

-- the decisions of a trail, in their order
abbrev pub with_decision : Option ℕ → Lit → List Lit → List Lit
with_decision None l ls = l ∷ ls
with_decision (Some k) l ls = ls

abbrev pub decided_lits : List Assigned → List Lit
decided_lits [] = []
decided_lits (a ∷ t) = with_decision a.by a.lit (decided_lits t)

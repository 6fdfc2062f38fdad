-- Clauses that leave nothing to decide.
use Rattle.std.specs.Prelude.{◌≡◌, ◌⊎◌, List, [], ◌∷◌}
use Rattle.ae_rules.specs.Clauses.{Clause, opposite}
use Rattle.ae_rules.specs.Defining.{ComesApart}
use Rattle.ae_core.specs.declared.formulas.Lit.{Lit}
use Rattle.ae_explain.specs.declared.trail.Assigned.{Assigned}
use Rattle.ae_sat.specs.Standing.{IsOneOf}

-- each clause is a literal that comes apart, or says that one follows from another which is a clause by itself
abbrev pub AreConjunctive : List Clause → Type 0
AreConjunctive clauses = (c : Clause) → IsOneOf clauses c → (l : Lit) × ComesApart l
    × ((c ≡ l ∷ []) ⊎ ((m : Lit) × ComesApart m × IsOneOf clauses (m ∷ []) × (c ≡ opposite m ∷ l ∷ [])))

-- a search over such clauses that hasn't begun
pub record IsFresh (t : List Assigned) (clauses : List Clause) : Type 0 where
  pub none : t ≡ []
  pub conjunctive : AreConjunctive clauses

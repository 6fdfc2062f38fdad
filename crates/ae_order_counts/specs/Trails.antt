-- A trail to which a search has nothing to add, and what may be known of it.
use Rattle.std.specs.Prelude.{ℕ, ◌<◌, ◌≡◌, List, length, None}
use Rattle.std.specs.List.{Contains}
use Rattle.ae_explain.specs.Trail.{at, IsLawful}
use Rattle.ae_explain.specs.declared.trail.Assigned.{Assigned}
use Rattle.ae_rules.specs.Clauses.{Clause}
use Rattle.ae_sat.specs.Search.{IsOpen}
use Rattle.ae_sat.specs.Standing.{IsOneOf}

-- it is lawful, each decision is a literal of a clause, and each clause and each row that a true literal calls for has a true literal
pub record IsOpenTrail (t : List Assigned) (clauses : List Clause) : Type 0 where
  pub lawful : IsLawful t clauses
  pub stands : (j : ℕ) → j < length t → (at t j).by ≡ None → (c : Clause) × IsOneOf clauses c × Contains c (at t j).lit
  pub all_true : IsOpen t clauses

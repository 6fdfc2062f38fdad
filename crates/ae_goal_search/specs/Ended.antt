-- What a search leaves, and what it comes to.
use Rattle.std.specs.Prelude.{ℕ, ◌<◌, List, [], ◌≡◌, length, None}
use Rattle.std.specs.List.{Contains}
use Rattle.ae_core.specs.declared.formulas.Formula.{Formula}
use Rattle.ae_core.specs.declared.problems.Problem.{Problem}
use Rattle.ae_core.specs.declared.proofs.ClauseLine.{ClauseLine}
use Rattle.ae_rules.specs.Clauses.{Clause}
use Rattle.ae_rules.specs.Derivations.{AreAllowed}
use Rattle.ae_explain.specs.declared.trail.Assigned.{Assigned}
use Rattle.ae_explain.specs.Trail.{at, IsLawful}
use Rattle.ae_journal.specs.Legal.{AreLegal}
use Rattle.ae_journal.specs.declared.lines.Line.{Line}
use Rattle.ae_store.specs.Stores.{Stored}
use Rattle.ae_theory.specs.Names.{terms_in}
use Rattle.ae_sat.specs.Lines.{AddsEquationsOver}
use Rattle.ae_sat.specs.Search.{AllAmong, AllNamed, EndsEmpty, HasParts, IsOpen}
use Rattle.ae_sat.specs.Standing.{IsOneOf}
use Rattle.ae_open_states.specs.Finished.{AreOverGround, HasFirstClauses}
use Rattle.ae_first_clauses.specs.First.{search_setting}

-- whatever a search comes to, its lines are allowed one after the other, and those of its journal legal
pub record IsLeft (p : Problem) (g : ℕ) (s : Stored) (js : List Line) (lines : List ClauseLine) : Type 0 where
  pub allowed : AreAllowed p g [] lines
  pub legal : (bound : ℕ) → AreLegal (search_setting p g (terms_in s)) bound [] js

-- the lines end with the empty clause, and those behind the first ones are over the formulas of the first clauses and their parts
pub record IsRefutation (s : Stored) (firsts : List ClauseLine) (clauses : List Clause) (lines : List ClauseLine) : Type 0 where
  pub ends : EndsEmpty lines
  pub over : (fs : List Formula) → HasParts fs → AllAmong fs clauses → AddsEquationsOver s fs firsts lines

-- each clause has a true literal; what the search began with is among them, the hypotheses and the goal's negation too, and they are over its formulas and
-- their parts
pub record IsSettled (p : Problem) (g : ℕ) (s : Stored) (first : List Clause) (t : List Assigned) (clauses : List Clause) : Type 0 where
  pub kept : (c : Clause) → IsOneOf first c → IsOneOf clauses c
  pub firsts : HasFirstClauses p g clauses
  pub formulas : (fs : List Formula) → HasParts fs → AllAmong fs first → AllAmong fs clauses
  pub over : AreOverGround p g clauses
  pub lawful : IsLawful t clauses
  pub decided : (j : ℕ) → j < length t → (at t j).by ≡ None → (c : Clause) × IsOneOf clauses c × Contains c (at t j).lit
  pub all_true : IsOpen t clauses
  pub named : AllNamed s clauses

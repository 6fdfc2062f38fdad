-- What a search keeps between two runs of the solver.
use Rattle.std.specs.Prelude.{◌≡◌, ℕ, ◌<◌, List, []}
use Rattle.std.specs.List.{AllByRecursion, Contains}
use Rattle.ae_core.specs.declared.formulas.Lit.{Lit}
use Rattle.ae_core.specs.declared.problems.Problem.{Problem}
use Rattle.ae_core.specs.declared.proofs.ClauseLine.{ClauseLine}
use Rattle.ae_core.specs.declared.terms.Term.{Term}
use Rattle.ae_rules.specs.Clauses.{Clause}
use Rattle.ae_rules.specs.Derivations.{AreAllowed}
use Rattle.ae_explain.specs.declared.trail.Assigned.{Assigned}
use Rattle.ae_journal.specs.Journals.{MayLearnAgain}
use Rattle.ae_journal.specs.Legal.{AreLegal}
use Rattle.ae_journal.specs.SolverLines.{IsSourceLine}
use Rattle.ae_journal.specs.Standing.{Setting, IsEntered, IsFormula, IsGiven, IsPossible}
use Rattle.ae_journal.specs.declared.lines.Line.{Line}
use Rattle.ae_store.specs.Stores.{Stored}
use Rattle.ae_theory.specs.Names.{terms_in}
use Rattle.ae_theory.specs.Tagged.{Tagged}
use Rattle.ae_sat.specs.Layers.{Fires}
use Rattle.ae_sat.specs.Search.{IsAlive, IsStated}
use Rattle.ae_sat.specs.Standing.{IsOneOf, HasRows}
use Rattle.ae_sat.specs.declared.solver.Solver.{Solver}
use Rattle.ae_searching.specs.Told.{IsToldIn}
use Rattle.ae_block_constants.specs.declared.opened.Opened.{Opened}

-- the clause fires by the trail at no level below this one
abbrev pub RestsBelow : List Assigned → ℕ → Clause → Type 0
RestsBelow t level c = (k : ℕ) → k < level → ¬ Fires t c k

-- as IsLawfulFor, of a search that has to go back to a level first: below that level no given clause fires, and from there on one may
pub record IsLawfulBelow (x : Setting) (bound : ℕ) (s : Stored) (level : ℕ) (t : List Assigned) (clauses : List Clause) (expanded : ℕ) (lines : List ClauseLine) (js : List Line) : Type 0 where
  pub legal : AreLegal x bound [] js
  pub possible : (c : Clause) → IsOneOf clauses c → IsPossible x js c
  pub formulas : (c : Clause) (l : Lit) → IsOneOf clauses c → Contains c l → IsFormula x js l.formula
  pub given : (c : Clause) → IsGiven x js c → IsOneOf clauses c
  pub rows : HasRows t expanded clauses
  pub rests : (c : Clause) → IsGiven x js c → RestsBelow t level c
  pub sources : AllByRecursion (IsSourceLine x js) lines
  pub again : MayLearnAgain js
  pub entered : (n : Term) → Contains (terms_in s) n → IsEntered x js n

-- the lines are allowed one after the other, and for each setting those of the journal are legal and the store's terms its names
pub record IsLawfulSoFar (p : Problem) (g bound : ℕ) (s : Stored) (opened : List Opened) (lines : List ClauseLine) (js : List Line) : Type 0 where
  pub allowed : AreAllowed p g [] lines
  pub legal : (x : Setting) → IsToldIn p g s opened x → AreLegal x bound [] js
  pub entered : (x : Setting) → IsToldIn p g s opened x → (n : Term) → Contains (terms_in s) n → IsEntered x js n

module _ {T M : Type 0} (fits : T → Stored → Type 0) (assumed : T → List Tagged) (fits_mark : T → M → T → Type 0) (in_step : T → List Line → Type 0) where
  -- a solver meets the conditions of a search
  abbrev pub IsAliveIn : Stored → Solver T M → List Line → Type 0
  IsAliveIn s o js = IsAlive fits assumed fits_mark in_step s o.theory o.marks.items o.propagation.trail o.propagation.clauses o.handed o.expanded js

  -- the search for the goal at place g, of which no given clause fires below a level; where the solver's level isn't above that one, it can be run
  pub record IsSearching (p : Problem) (g bound : ℕ) (s : Stored) (opened : List Opened) (level : ℕ) (o : Solver T M) (lines : List ClauseLine) (js : List Line) : Type 0 where
    pub signature : p.signature ≡ s.signature
    pub alive : IsAliveIn s o js
    pub stated : IsStated p g lines o.propagation.clauses o.places
    pub lawful : (x : Setting) → IsToldIn p g s opened x → IsLawfulBelow x bound s level o.propagation.trail o.propagation.clauses o.expanded lines js

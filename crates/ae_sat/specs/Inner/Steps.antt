-- What the steps of a search keep.
use Rattle.std.specs.Prelude.{◌≡◌, ℕ, Bool, false, List, Ok, Err}
use Rattle.std.specs.declared.result.Result.{Result}
use Rattle.ae_rules.specs.Clauses.{Clause}
use Rattle.ae_core.specs.declared.formulas.Formula.{Formula}
use Rattle.ae_core.specs.declared.problems.Problem.{Problem}
use Rattle.ae_core.specs.declared.proofs.ClauseLine.{ClauseLine}
use Rattle.ae_explain.specs.declared.trail.Assigned.{Assigned}
use Rattle.ae_journal.specs.declared.lines.Line.{Line}
use Rattle.ae_journal.specs.Noted.{Noted}
use Rattle.ae_journal.specs.Standing.{Setting}
use Rattle.ae_store.specs.Stores.{Stored}
use Rattle.ae_theory.specs.Tagged.{Tagged}
use Rattle.ae_theory.specs.declared.theory.Fail.{Fail}
use Rattle.ae_theory.specs.declared.theory.Fail.TheVariants.{Steps as OutOfSteps}
use Rattle.ae_sat.specs.Lines.{AddsEquationsOver}
use Rattle.ae_sat.specs.Search.{AllAmong, Brings, HasParts, IsAlive, IsLawfulState, IsStated}
use Rattle.ae_sat.specs.Standing.{IsOneOf}

-- no clause goes, no formula comes in but parts of those that are there, and the new lines are over these
pub record Enlarges (s : Stored) (clauses : List Clause) (lines : List ClauseLine) (clauses2 : List Clause) (lines2 : List ClauseLine) : Type 0 where
  pub kept : (c : Clause) → IsOneOf clauses c → IsOneOf clauses2 c
  pub formulas : (fs : List Formula) → HasParts fs → AllAmong fs clauses → AllAmong fs clauses2
  pub written : (fs : List Formula) → HasParts fs → AllAmong fs clauses → AddsEquationsOver s fs lines lines2

-- nothing was noted, no line was asked for, and the search doesn't go on
pub record IsIdle (old new : Noted) (r : Result Bool Fail) : Type 0 where
  pub noted : new ≡ old
  pub ended : ¬ (r ≡ Ok false)
  pub asked : ¬ (r ≡ Err OutOfSteps)

module _ {T M : Type 0} (fits : T → Stored → Type 0) (assumed : T → List Tagged) (fits_mark : T → M → T → Type 0) (in_step : T → List Line → Type 0) where
  -- what a step without notes keeps, beside each store and journal
  pub record Continues (theory : T) (marks : List M) (t : List Assigned) (clauses : List Clause) (places : List ℕ) (told expanded : ℕ) (lines : List ClauseLine)
      (theory2 : T) (marks2 : List M) (t2 : List Assigned) (clauses2 : List Clause) (places2 : List ℕ) (told2 expanded2 : ℕ) (lines2 : List ClauseLine) : Type 0 where
    pub alive : (store : Stored) (js : List Line) → IsAlive fits assumed fits_mark in_step store theory marks t clauses told expanded js
        → IsAlive fits assumed fits_mark in_step store theory2 marks2 t2 clauses2 told2 expanded2 js
    pub stated : (p : Problem) (g : ℕ) → IsStated p g lines clauses places → IsStated p g lines2 clauses2 places2
    pub state : (setting : Setting) (js : List Line) → IsStated setting.problem setting.goal lines clauses places → IsLawfulState setting t clauses expanded lines js → IsLawfulState setting t2 clauses2 expanded2 lines2 js
    pub same_theory : theory2 ≡ theory
    pub enlarges : (store : Stored) → Enlarges store clauses lines clauses2 lines2
    pub brings : Brings t clauses t2 clauses2

-- For which settings of its journal a search speaks, and what is lawful for each of them.
use Rattle.std.specs.Prelude.{◌≡◌, ℕ, List, [], ◌++◌}
use Rattle.std.specs.List.{Contains}
use Rattle.ae_core.specs.declared.terms.Term.{Term}
use Rattle.ae_core.specs.declared.problems.Problem.{Problem}
use Rattle.ae_core.specs.declared.proofs.ClauseLine.{ClauseLine}
use Rattle.ae_rules.specs.Clauses.{Clause}
use Rattle.ae_explain.specs.declared.trail.Assigned.{Assigned}
use Rattle.ae_journal.specs.Legal.{AreLegal}
use Rattle.ae_journal.specs.Standing.{Setting, IsEntered}
use Rattle.ae_journal.specs.declared.lines.Line.{Line}
use Rattle.ae_store.specs.Stores.{Stored}
use Rattle.ae_theory.specs.Names.{terms_in}
use Rattle.ae_sat.specs.Search.{IsLawfulState}
use Rattle.ae_block_constants.specs.declared.opened.Opened.{Opened}

-- a setting of the problem and the goal, whose names begin with the store's terms, and in which each block that was opened has the constants that it was opened with
pub record IsToldIn (p : Problem) (g : ℕ) (s : Stored) (opened : List Opened) (x : Setting) : Type 0 where
  pub problem : x.problem ≡ p
  pub goal : x.goal ≡ g
  pub more : List Term
  pub names : x.names ≡ terms_in s ++ more
  pub fresh : (o : Opened) → Contains opened o → x.fresh o.formula ≡ o.first

-- beside the solver's own conditions: the lines noted so far are legal, the next ones will be, and the store's terms are names
pub record IsLawfulFor (x : Setting) (bound : ℕ) (s : Stored) (t : List Assigned) (clauses : List Clause) (expanded : ℕ) (lines : List ClauseLine) (js : List Line) : Type 0 where
  pub legal : AreLegal x bound [] js
  pub state : IsLawfulState x t clauses expanded lines js
  pub entered : (n : Term) → Contains (terms_in s) n → IsEntered x js n

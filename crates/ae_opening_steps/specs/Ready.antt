-- A formula that can be opened.
use Rattle.std.specs.Prelude.{ℕ, ◌≡◌, true, List, Some}
use Rattle.std.specs.List.{Contains}
use Rattle.ae_block_counts.specs.Counts.{blocks_in}
use Rattle.ae_core.specs.Sorts.{formula_ok}
use Rattle.ae_core.specs.declared.formulas.Formula.{Formula, out-Formula}
use Rattle.ae_core.specs.declared.formulas.Lit.{Lit}
use Rattle.ae_core.specs.declared.formulas.Quant.{Quant}
use Rattle.ae_core.specs.declared.problems.Problem.{Problem}
use Rattle.ae_journal.specs.Standing.{IsFormula, Setting}
use Rattle.ae_journal.specs.States.{quant_of}
use Rattle.ae_journal.specs.declared.lines.Line.{Line}
use Rattle.ae_new_constants.specs.Below.{IsFormulaBelow}
use Rattle.ae_rules.specs.Clauses.{Clause}
use Rattle.ae_sat.specs.Standing.{IsOneOf}

-- its constants are below n, it is well sorted, it is among the blocks of the clauses, if it is one, and among the formulas of each journal that has those of the clauses
pub record IsReady (p : Problem) (n : ℕ) (clauses : List Clause) (f : Formula) : Type 0 where
  pub below : IsFormulaBelow n f
  pub sorted : formula_ok p.signature f ≡ true
  pub block : (q : Quant) → quant_of (out-Formula f) ≡ Some q → Contains (blocks_in clauses) f
  pub formula : (x : Setting) (js : List Line) → ((c : Clause) (l : Lit) → IsOneOf clauses c → Contains c l → IsFormula x js l.formula) → IsFormula x js f

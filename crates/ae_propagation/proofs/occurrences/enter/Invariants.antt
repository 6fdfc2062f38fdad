use Rattle.std.proofs.Common.{◌≡◌, ℕ, List, Option, length}
use Rattle.ae_rules.specs.Clauses.{Clause}
use Rattle.ae_core.specs.declared.formulas.Formula.{Formula}
use Rattle.ae_propagation.specs.Inner.Finding.{listed, IsTable, AreListed, AreEntered}
use Rattle.ae_propagation.specs.Inner.Coding.{AreCodes}
use Rattle.ae_propagation.proofs.occurrences.enter.Given as goal

abbrev pub invariant-loop-i : goal.invariant-loop-i
invariant-loop-i l = record {
  size : length l.table.items ≡ length l.fn.table.items;
  entered : (numbers : Formula → Option ℕ) (c : Clause) (cs : List Clause) → IsTable numbers l.fn.table.items → AreCodes numbers c l.codes → length cs ≡ l.clause
      → AreListed (listed numbers l.fn.table.items) cs → AreEntered (listed numbers l.table.items) cs c l.i;
}

use Rattle.std.proofs.Common.{◌≡◌, ℕ, List, Option, length}
use Rattle.ae_rules.specs.Clauses.{Clause}
use Rattle.ae_core.specs.declared.formulas.Formula.{Formula}
use Rattle.ae_propagation.specs.Inner.Finding.{listed, IsTable, AreLeft}
use Rattle.ae_propagation.specs.Inner.Coding.{AreCodes}
use Rattle.ae_propagation.proofs.occurrences.forget.Given as goal

abbrev pub invariant-loop-i : goal.invariant-loop-i
invariant-loop-i l = record {
  size : length l.table.items ≡ length l.fn.table.items;
  left : (numbers : Formula → Option ℕ) (c : Clause) (cs : List Clause) → IsTable numbers l.fn.table.items → AreCodes numbers c l.codes → length cs ≡ l.clause
      → AreLeft (listed numbers l.fn.table.items) cs c 0 → AreLeft (listed numbers l.table.items) cs c l.i;
}

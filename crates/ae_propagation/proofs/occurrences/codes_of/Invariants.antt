use Rattle.std.proofs.Common.{◌≡◌, ℕ, ◌<◌, length, get_or}
use Rattle.ae_core.specs.declared.formulas.Lit.{Lit}
use Rattle.ae_explain.specs.Assignments.{number_in}
use Rattle.ae_propagation.specs.declared.codes.Code.{Code}
use Rattle.ae_propagation.specs.Inner.Finding.{IsWidened}
use Rattle.ae_propagation.specs.Inner.Coding.{IsCode}
use Rattle.ae_propagation.proofs.occurrences.codes_of.Given as goal

abbrev pub invariant-loop-i : goal.invariant-loop-i
invariant-loop-i l = record {
  wide : IsWidened (number_in l.fn.trail.numbers) l.fn.table.items (number_in l.trail.numbers) l.table.items;
  trail : l.trail.assigned ≡ l.fn.trail.assigned;
  size : length l.codes ≡ l.i;
  each : (j : ℕ) (m : Lit) (k : Code) → j < l.i → IsCode (number_in l.trail.numbers) (get_or l.lits j m) (get_or l.codes j k);
}

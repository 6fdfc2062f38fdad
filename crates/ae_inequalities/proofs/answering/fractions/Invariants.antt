use Rattle.std.proofs.Common.{◌≡◌, take}
use Rattle.std.specs.Prelude.{map}
use Rattle.ae_ineq.proofs.JournalSums.{fraction_at}
use Rattle.ae_inequalities.proofs.answering.fractions.Given as goal

abbrev pub invariant-loop-at : goal.invariant-loop-at
invariant-loop-at l = record {
  so_far : l.point ≡ map fraction_at (take l.at-index l.made);
}

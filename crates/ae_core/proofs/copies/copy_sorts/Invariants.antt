use Rattle.std.proofs.Common.{◌≡◌, take}
use Rattle.ae_core.proofs.copies.copy_sorts.Given as goal

abbrev pub invariant-loop-sort : goal.invariant-loop-sort
invariant-loop-sort l = l.copies ≡ take l.sort-index l.sorts

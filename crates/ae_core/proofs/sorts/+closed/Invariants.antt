use Rattle.std.proofs.Common.{◌≡◌, true, take}
use Rattle.std.specs.List.{list_all}
use Rattle.ae_core.specs.Sorts as spec
use Rattle.ae_core.proofs.sorts.+closed.Given as goal

abbrev pub invariant-are_closed_sorts-loop-sort : goal.invariant-are_closed_sorts-loop-sort
invariant-are_closed_sorts-loop-sort l = list_all (spec.is_closed_sort l.signature) (take l.sort-index l.sorts) ≡ true

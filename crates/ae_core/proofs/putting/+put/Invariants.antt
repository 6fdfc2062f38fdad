use Rattle.std.proofs.Common.{◌≡◌, map, take}
use Rattle.ae_core.specs.Putting as spec
use Rattle.ae_core.proofs.putting.+put.Given as goal

abbrev pub invariant-put_sorts-loop-sort : goal.invariant-put_sorts-loop-sort
invariant-put_sorts-loop-sort l = l.copies ≡ map (spec.put_sort l.sorts) (take l.sort-index l.into)

use Rattle.std.proofs.Common.{◌≡◌, map, take}
use Rattle.ae_elab.specs.Sizes.{sort_size}
use Rattle.ae_sizes.specs.Inner.Counted.{counted, pile}
use Rattle.ae_sizes.proofs.sorts.+size_of_sort.Given as goal

abbrev pub invariant-loop-arg : goal.invariant-loop-arg
invariant-loop-arg l = l.parts ≡ counted (pile (map sort_size (take l.arg-index l.arg-items)))

use Rattle.std.proofs.Common.{◌≡◌, take}
use Rattle.ae_elab.specs.Conditions.{shown}
use Rattle.ae_elab.specs.Weights.{sort_sizes}
use Rattle.ae_sizes.specs.Inner.Counted.{counted, pile}
use Rattle.ae_types.specs.Bound.{bound}
use Rattle.ae_sizes.proofs.sorts.bound_sizes.Given as goal

abbrev pub invariant-loop-sort : goal.invariant-loop-sort
invariant-loop-sort l = l.parts ≡ counted (pile (sort_sizes (shown (bound l.bindings)) (take l.sort-index l.sorts)))

use Rattle.std.proofs.Common.{◌≡◌, take}
use Rattle.ae_formula_sizes.specs.Inner.Counted as spec
use Rattle.ae_formula_sizes.proofs.sizes.+sorts.Given as goal

abbrev pub invariant-size_of_sorts-loop-sort : goal.invariant-size_of_sorts-loop-sort
invariant-size_of_sorts-loop-sort l = l.size ≡ spec.size_of_sorts (take l.sort-index l.sorts)

use Rattle.std.proofs.Common.{◌≡◌, true, take}
use Rattle.std.specs.List.{list_all}
use Rattle.ae_counts.specs.Inner.Counted as spec
use Rattle.ae_counts.proofs.terms.+sorts.Given as goal

abbrev pub invariant-sorts_count-loop-sort : goal.invariant-sorts_count-loop-sort
invariant-sorts_count-loop-sort l = list_all spec.sort_counts (take l.sort-index l.sorts) ≡ true

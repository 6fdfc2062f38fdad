use Rattle.std.proofs.Common.{◌≡◌, true, take}
use Rattle.std.specs.List.{list_all}
use Rattle.ae_counts.specs.Inner.Counted as spec
use Rattle.ae_counts.proofs.values.+values.Given as goal

abbrev pub invariant-values_count-loop-value : goal.invariant-values_count-loop-value
invariant-values_count-loop-value l = list_all spec.value_counts (take l.value-index l.values) ≡ true

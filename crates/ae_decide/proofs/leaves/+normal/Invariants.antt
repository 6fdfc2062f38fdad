use Rattle.std.proofs.Common.{◌≡◌, true, take}
use Rattle.std.specs.List.{list_all}
use Rattle.ae_decide.specs.Leaves.{is_normal_value}
use Rattle.ae_decide.proofs.leaves.+normal.Given as goal

abbrev pub invariant-are_normal_values-loop-value : goal.invariant-are_normal_values-loop-value
invariant-are_normal_values-loop-value l = list_all is_normal_value (take l.value-index l.values) ≡ true

use Rattle.std.proofs.Common.{◌≡◌, length, map, take}
use Rattle.ae_value_table.specs.Table.{value_in}
use Rattle.ae_value_table.proofs.alike.+same_pattern.Given as goal

abbrev pub invariant-same_patterns-loop-i : goal.invariant-same_patterns-loop-i
invariant-same_patterns-loop-i l = (length l.left ≡ length l.right) × (map (value_in l.values) (take l.i l.left) ≡ map (value_in l.values) (take l.i l.right))

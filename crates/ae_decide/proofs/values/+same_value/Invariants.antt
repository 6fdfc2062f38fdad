use Rattle.std.proofs.Common.{◌≡◌, length, take}
use Rattle.ae_decide.proofs.values.+same_value.Given as goal

abbrev pub invariant-same_values-loop-i : goal.invariant-same_values-loop-i
invariant-same_values-loop-i l = (length l.left ≡ length l.right) × (take l.i l.left ≡ take l.i l.right)

use Rattle.std.proofs.Common.{◌≡◌, length, take}
use Rattle.ae_core.proofs.equality.+same_sort.Given as goal

abbrev pub invariant-same_sorts-loop-i : goal.invariant-same_sorts-loop-i
invariant-same_sorts-loop-i l = (length l.left ≡ length l.right) × (take l.i l.left ≡ take l.i l.right)

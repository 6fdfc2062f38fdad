use Rattle.std.proofs.Common.{◌+◌, ◌-◌, length}
use Rattle.ae_multiset.proofs.Merging.{Merging}
use Rattle.ae_multiset.proofs.addition.sum.Given as goal

abbrev pub invariant-loop-i : goal.invariant-loop-i
invariant-loop-i l = Merging (λ m n. m + n) l.left l.right l.merged.items l.i l.j

abbrev pub decreases-loop-i : goal.decreases-loop-i
decreases-loop-i l = (length l.left - l.i) + (length l.right - l.j)

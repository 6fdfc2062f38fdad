use Rattle.std.proofs.Common.{◌≡◌, length, take}
use Rattle.ae_core.proofs.equality.+same_term.Given as goal

abbrev pub invariant-same_terms-loop-i : goal.invariant-same_terms-loop-i
invariant-same_terms-loop-i l = (length l.left ≡ length l.right) × (take l.i l.left ≡ take l.i l.right)

use Rattle.std.proofs.Common.{◌≡◌, drop, length}
use Rattle.ae_decide.specs.Values.{all_alike}
use Rattle.ae_decide.proofs.values.all_alike.Given as goal

abbrev pub invariant-loop-i : goal.invariant-loop-i
invariant-loop-i l = (length l.left ≡ length l.right) × (all_alike l.system (drop l.i l.left) (drop l.i l.right) ≡ all_alike l.system l.left l.right)

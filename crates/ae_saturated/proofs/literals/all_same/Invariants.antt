use Rattle.std.proofs.Common.{◌≡◌, drop, length}
use Rattle.ae_saturated.specs.Literals.{all_same}
use Rattle.ae_saturated.proofs.literals.all_same.Given as goal

abbrev pub invariant-loop-i : goal.invariant-loop-i
invariant-loop-i l = (length l.left ≡ length l.right) × (all_same l.signature l.system (drop l.i l.left) (drop l.i l.right) ≡ all_same l.signature l.system l.left l.right)

use Rattle.std.proofs.Common.{◌≡◌, drop, length}
use Rattle.ae_inst.specs.Matches as spec
use Rattle.ae_inst.proofs.instances.are_same.Given as goal

abbrev pub invariant-loop-i : goal.invariant-loop-i
invariant-loop-i g l = (length l.left ≡ length l.right) × (spec.are_same (g.E.Equalities.alike l.equalities) l.left l.right ≡ spec.are_same (g.E.Equalities.alike l.equalities) (drop l.i l.left) (drop l.i l.right))

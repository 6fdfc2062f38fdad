use Rattle.std.proofs.Common.{◌≡◌, true, take}
use Rattle.std.specs.List.{list_all}
use Rattle.ae_decide.specs.Reduction.{leaves_right}
use Rattle.ae_decide.proofs.reduction.leaves_right_sides.Given as goal

abbrev pub invariant-loop-other : goal.invariant-loop-other
invariant-loop-other l = list_all (leaves_right l.rule) (take l.other-index l.rules) ≡ true

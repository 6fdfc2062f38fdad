use Rattle.std.proofs.Common.{◌≡◌, drop}
use Rattle.ae_decide.specs.Reduction.{left_sides_stay}
use Rattle.ae_decide.proofs.reduction.left_sides_stay.Given as goal

abbrev pub invariant-loop-i : goal.invariant-loop-i
invariant-loop-i l = left_sides_stay (drop l.i l.rules) ≡ left_sides_stay l.rules

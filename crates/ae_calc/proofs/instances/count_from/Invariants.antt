use Rattle.std.proofs.Common.{◌≡◌, take}
use Rattle.ae_rules.specs.Instances as spec
use Rattle.ae_calc.proofs.instances.count_from.Given as goal

abbrev pub invariant-loop-i : goal.invariant-loop-i
invariant-loop-i l = l.constants ≡ spec.count_from l.first (take l.i l.sorts)

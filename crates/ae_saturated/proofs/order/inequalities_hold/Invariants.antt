use Rattle.std.proofs.Common.{◌≡◌, true, take}
use Rattle.std.specs.List.{list_all}
use Rattle.ae_saturated.specs.Order.{inequality_holds}
use Rattle.ae_saturated.proofs.order.inequalities_hold.Given as goal

abbrev pub invariant-loop-literal : goal.invariant-loop-literal
invariant-loop-literal l = list_all (inequality_holds l.system l.point) (take l.literal-index l.literals) ≡ true

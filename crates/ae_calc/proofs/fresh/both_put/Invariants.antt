use Rattle.std.proofs.Common.{◌≡◌, false, take}
use Rattle.std.specs.List.{list_any}
use Rattle.ae_calc.specs.Inner.Mentions as spec
use Rattle.ae_rules.specs.Instances.{count_from}
use Rattle.ae_calc.proofs.fresh.both_put.Given as goal

abbrev pub invariant-loop-i : goal.invariant-loop-i
invariant-loop-i l = list_any (spec.is_put l.first l.sorts) (count_from l.other (take l.i l.others)) ≡ false

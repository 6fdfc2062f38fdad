use Rattle.std.proofs.Common.{◌≡◌, true, take}
use Rattle.std.specs.List.{list_all}
use Rattle.ae_saturated.specs.Names.{are_apart}
use Rattle.ae_saturated.proofs.names.is_apart.Given as goal

abbrev pub invariant-loop-other : goal.invariant-loop-other
invariant-loop-other l = list_all (are_apart l.signature l.system l.name) (take l.other-index l.names) ≡ true

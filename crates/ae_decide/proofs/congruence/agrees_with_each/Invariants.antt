use Rattle.std.proofs.Common.{◌≡◌, true, take}
use Rattle.std.specs.List.{list_all}
use Rattle.ae_decide.specs.Congruence.{agree}
use Rattle.ae_decide.proofs.congruence.agrees_with_each.Given as goal

abbrev pub invariant-loop-other : goal.invariant-loop-other
invariant-loop-other l = list_all (agree l.signature l.system l.name) (take l.other-index l.names) ≡ true

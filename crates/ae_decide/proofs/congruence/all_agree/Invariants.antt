use Rattle.std.proofs.Common.{◌≡◌, true, take}
use Rattle.std.specs.List.{list_all}
use Rattle.ae_decide.specs.Congruence.{agree}
use Rattle.ae_decide.proofs.congruence.all_agree.Given as goal

abbrev pub invariant-loop-name : goal.invariant-loop-name
invariant-loop-name l = list_all (λ t. list_all (agree l.signature l.system t) l.system.names) (take l.name-index l.names) ≡ true

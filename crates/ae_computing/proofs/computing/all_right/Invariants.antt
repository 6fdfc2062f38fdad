use Rattle.std.proofs.Common.{◌≡◌, true, take}
use Rattle.std.specs.List.{list_all}
use Rattle.ae_computing.specs.Inner.Computed.{has_right}
use Rattle.ae_computing.proofs.computing.all_right.Given as goal

abbrev pub invariant-loop-name : goal.invariant-loop-name
invariant-loop-name l = list_all (has_right l.system) (take l.name-index l.names) ≡ true

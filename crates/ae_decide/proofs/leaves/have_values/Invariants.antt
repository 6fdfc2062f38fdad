use Rattle.std.proofs.Common.{◌≡◌, true, take}
use Rattle.std.specs.List.{list_all}
use Rattle.ae_decide.specs.Leaves.{has_value}
use Rattle.ae_decide.proofs.leaves.have_values.Given as goal

abbrev pub invariant-loop-name : goal.invariant-loop-name
invariant-loop-name l = list_all (has_value l.signature l.system) (take l.name-index l.names) ≡ true

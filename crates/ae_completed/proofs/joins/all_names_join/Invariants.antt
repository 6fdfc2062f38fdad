use Rattle.std.proofs.Common.{◌≡◌, true, take}
use Rattle.std.specs.List.{list_all}
use Rattle.ae_completed.specs.Joins.{name_joins}
use Rattle.ae_completed.proofs.joins.all_names_join.Given as goal

abbrev pub invariant-loop-name : goal.invariant-loop-name
invariant-loop-name l = list_all (name_joins l.signature l.system) (take l.name-index l.names) ≡ true

use Rattle.std.proofs.Common.{◌≡◌, true, take}
use Rattle.std.specs.List.{list_all}
use Rattle.ae_decide.specs.Names.{is_entry}
use Rattle.ae_decide.proofs.names.are_entries.Given as goal

abbrev pub invariant-loop-name : goal.invariant-loop-name
invariant-loop-name l = list_all (is_entry l.signature l.names) (take l.name-index l.names) ≡ true

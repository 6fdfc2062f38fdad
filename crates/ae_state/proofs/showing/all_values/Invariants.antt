use Rattle.std.proofs.Common.{◌≡◌, take}
use Rattle.ae_value_table.specs.Table.{values}
use Rattle.ae_state.proofs.showing.all_values.Given as goal

abbrev pub invariant-loop-name : goal.invariant-loop-name
invariant-loop-name l = l.values ≡ take l.name (values l.held)

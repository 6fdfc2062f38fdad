use Rattle.std.proofs.Common.{◌≡◌, map, take}
use Rattle.ae_value_table.specs.Table.{value_in}
use Rattle.ae_value_table.proofs.table.+built.Given as goal

abbrev pub invariant-loop-field : goal.invariant-loop-field
invariant-loop-field l = l.parts ≡ map (value_in l.held) (take l.field-index l.field-items)

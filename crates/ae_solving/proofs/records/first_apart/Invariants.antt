use Rattle.std.specs.Prelude.{List, ◌≡◌, map, take}
use Rattle.ae_num.specs.declared.forms.Value.{Value}
use Rattle.ae_value_table.specs.Table.{value_in}
use Rattle.ae_solving.proofs.records.first_apart.Given as goal

abbrev pub invariant-loop-i : goal.invariant-loop-i
invariant-loop-i l = ◌≡◌ {A = List Value} (map (value_in l.values) (take l.i l.left)) (map (value_in l.values) (take l.i l.right))

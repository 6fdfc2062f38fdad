use Rattle.std.specs.Prelude.{◌<◌, ℕ}
use Rattle.ae_value_table.specs.Table.{number_at}
use Rattle.ae_whole_values.specs.Wholes.{IsWhole, IsIntegerName}
use Rattle.ae_whole_values.proofs.fractions.first_fraction.Given as goal

abbrev pub invariant-loop-name : goal.invariant-loop-name
invariant-loop-name l = (n : ℕ) → n < l.name → IsIntegerName l.values n → IsWhole (number_at l.values n)

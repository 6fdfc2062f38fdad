-- The name that a pattern is of, and the patterns of its fields.
use Rattle.std.specs.Prelude.{ℕ, List, []}
use Rattle.ae_value_table.specs.declared.patterns.Pattern.{Pattern, Pattern-F, out-Pattern}
use Rattle.ae_value_table.specs.declared.patterns.Pattern.TheOpen as layer

abbrev pub name_in : Pattern-F Pattern → ℕ
name_in (layer.Number n) = n
name_in (layer.Leaf n) = n
name_in (layer.Fields n ps) = n

unfoldable pub name_of : Pattern → ℕ
name_of p = name_in (out-Pattern p)

abbrev pub parts_in : Pattern-F Pattern → List Pattern
parts_in (layer.Number n) = []
parts_in (layer.Leaf n) = []
parts_in (layer.Fields n ps) = ps

unfoldable pub parts_of : Pattern → List Pattern
parts_of p = parts_in (out-Pattern p)

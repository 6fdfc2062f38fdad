use Rattle.std.specs.Prelude.{ℕ, ◌<◌, ◌≡◌, true, Some}
use Rattle.std.specs.List.{AllByRecursion}
use Rattle.ae_num.specs.Forms.{has_key}
use Rattle.ae_linear.specs.declared.rows.Row.{Row}
use Rattle.ae_linear.specs.Rows.{row_at}
use Rattle.ae_value_table.specs.Table.{just_at}
use Rattle.ae_values.specs.Inner.Before.{IsBefore, IsChanged}
use Rattle.ae_values.proofs.occurrences.changes_of.Given as goal

abbrev pub invariant-loop-name : goal.invariant-loop-name
invariant-loop-name l = record {
  each : AllByRecursion (IsBefore l.values l.put) l.changes;
  all : (n k : ℕ) (row : Row) → n < l.name → row_at l.values.rows n ≡ Some row → just_at l.values n ≡ Some k → has_key row.value.parts l.put ≡ true → IsChanged l.changes n;
}

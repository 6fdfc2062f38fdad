use Rattle.std.specs.Prelude.{ℕ, ◌≡◌, length, slice_get, Some}
use Rattle.ae_value_table.specs.Alike.{IsLeastAlike}
use Rattle.ae_value_table.proofs.table.Values.representatives.Given as goal

abbrev pub invariant-loop-name : goal.invariant-loop-name
invariant-loop-name l = record {
  one_each : length l.reps.items ≡ l.name;
  least : (n r : ℕ) → slice_get l.reps.items n ≡ Some r → IsLeastAlike l.self n r;
}

use Rattle.std.specs.Prelude.{◌≡◌, ◌≢◌, ℕ, ◌<◌, None, slice_index_or}
use Rattle.ae_num.specs.declared.forms.Part.{Part}
use Rattle.ae_linear.specs.Rows.{row_at}
use Rattle.ae_linear_tests.proofs.tests.is_free.Given as goal

abbrev pub invariant-loop-part : goal.invariant-loop-part
invariant-loop-part l = record {
  other : (j : ℕ) (d : Part) → j < l.part-index → (slice_index_or l.part-items j d).key ≢ l.name;
  none : (j : ℕ) (d : Part) → j < l.part-index → row_at l.rows (slice_index_or l.part-items j d).key ≡ None;
}

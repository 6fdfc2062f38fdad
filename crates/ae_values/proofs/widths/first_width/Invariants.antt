use Rattle.std.specs.Prelude.{ℕ, ◌<◌}
use Rattle.ae_linear.specs.Rows.{row_at, FitsAt}
use Rattle.ae_values.proofs.widths.first_width.Given as goal

abbrev pub invariant-loop-of : goal.invariant-loop-of
invariant-loop-of l = (n : ℕ) → n < l.of → FitsAt (row_at l.values.rows n) l.name l.number

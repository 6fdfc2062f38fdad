use Rattle.std.proofs.Common.{◌≡◌, ℕ, ◌-◌, ◌≤◌, length}
use Rattle.ae_explain.specs.Inner.Index.{value_at}
use Rattle.ae_explain.proofs.trail.add_values.Given as goal

abbrev pub invariant-loop-size : goal.invariant-loop-size
invariant-loop-size l = record {
  size : l.size ≡ length l.values;
  longer : length l.fn.values ≤ length l.values;
  same : (n : ℕ) → value_at l.values n ≡ value_at l.fn.values n;
}

abbrev pub decreases-loop-size : goal.decreases-loop-size
decreases-loop-size l = l.number - l.size

use Rattle.std.proofs.Common.{◌≡◌, ℕ, ◌-◌, ◌≤◌, length}
use Rattle.ae_explain.specs.Inner.Index.{number_at}
use Rattle.ae_explain.proofs.trail.add_places.Given as goal

abbrev pub invariant-loop-size : goal.invariant-loop-size
invariant-loop-size l = record {
  size : l.size ≡ length l.places;
  longer : length l.fn.places ≤ length l.places;
  same : (n : ℕ) → number_at l.places n ≡ number_at l.fn.places n;
}

abbrev pub decreases-loop-size : goal.decreases-loop-size
decreases-loop-size l = l.number - l.size

use Rattle.std.proofs.Common.{ℕ, ◌<◌, ◌≤◌, length}
use Rattle.ae_types.specs.Inner.Walks.{frame_at}
use Rattle.ae_types.proofs.cycles.lowest.Given as goal

abbrev pub invariant-loop-k : goal.invariant-loop-k
invariant-loop-k l = record {
  above : l.from ≤ l.low;
  within : l.low < length l.path;
  least : (j : ℕ) → l.from ≤ j → j < l.k → (frame_at l.path l.low).place ≤ (frame_at l.path j).place;
}

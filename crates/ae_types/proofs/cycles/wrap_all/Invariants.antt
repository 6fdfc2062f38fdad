use Rattle.std.proofs.Common.{ℕ, ◌<◌, ◌≤◌, ◌≢◌}
use Rattle.ae_core.specs.declared.terms.Sort.{Var}
use Rattle.ae_types.specs.Inner.Graphs.{slot_at, slots_of}
use Rattle.ae_types.specs.Inner.Walks.{frame_at, begin, RunsTo, Wraps, IsBuilt}
use Rattle.ae_types.proofs.cycles.wrap_all.Given as goal

abbrev pub invariant-loop-at : goal.invariant-loop-at
invariant-loop-at l = record {
  above : l.from ≤ l.at;
  below : l.at ≤ l.to;
  wraps : (end : ℕ) → RunsTo (slots_of l.nodes l.classes) l.path l.from l.to end → Wraps l.nodes l.classes (begin l.path l.at l.to end) end l.fn.inner l.sort;
  built : l.at < l.to → IsBuilt (slot_at (slots_of l.nodes l.classes) (frame_at l.path l.at).place) → (n : ℕ) → l.sort ≢ Var n;
}

abbrev pub decreases-loop-at : goal.decreases-loop-at
decreases-loop-at l = l.at

use Rattle.std.proofs.Common.{◌≡◌, ◌≢◌, ℕ, ◌<◌, [], get_or, length}
use Rattle.ae_types.specs.declared.cycles.Mark.TheVariants.{New}
use Rattle.ae_types.specs.Inner.Graphs.{slots_of}
use Rattle.ae_types.specs.Inner.Walks.{Notes, Walking, mark_at}
use Rattle.ae_types.proofs.cycles.visit_all.Given as goal

abbrev pub invariant-loop-place : goal.invariant-loop-place
invariant-loop-place l = record {
  walking : Walking (slots_of l.nodes l.classes) l.walk;
  path : l.walk.path ≡ [];
  seen : (k : ℕ) → k < l.place-index → get_or l.places k 0 < length (slots_of l.nodes l.classes) → mark_at l.walk.marks (get_or l.places k 0) ≢ New;
  notes : Notes l.fn.walk.marks l.walk.marks l.fn.seen l.seen;
}

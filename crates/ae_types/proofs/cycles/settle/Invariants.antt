use Rattle.std.proofs.Common.{◌≡◌, ◌≢◌, ℕ, ◌<◌, []}
use Rattle.ae_types.specs.declared.cycles.Mark.TheVariants.{New}
use Rattle.ae_types.specs.Inner.Graphs.{slots_of}
use Rattle.ae_types.specs.Inner.Walks.{Walking, mark_at}
use Rattle.ae_types.proofs.cycles.settle.Given as goal

abbrev pub invariant-loop-place : goal.invariant-loop-place
invariant-loop-place l = record {
  walking : Walking (slots_of l.nodes l.classes) l.walk;
  path : l.walk.path ≡ [];
  seen : (i : ℕ) → i < l.place → mark_at l.walk.marks i ≢ New;
}

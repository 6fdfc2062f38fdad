use Rattle.ae_types.specs.Inner.Graphs.{slots_of}
use Rattle.ae_types.specs.Inner.Walks.{Walking, KeepsSeen, Notes, left}
use Rattle.ae_types.proofs.cycles.descend.Given as goal

abbrev pub invariant-loop-frame : goal.invariant-loop-frame
invariant-loop-frame l = record {
  walking : Walking (slots_of l.nodes l.classes) l.walk;
  keeps : KeepsSeen l.fn.walk.marks l.walk.marks;
  notes : Notes l.fn.walk.marks l.walk.marks l.fn.seen l.seen;
}

abbrev pub decreases-loop-frame : goal.decreases-loop-frame
decreases-loop-frame l = left (slots_of l.nodes l.classes) l.walk

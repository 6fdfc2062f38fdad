use Rattle.std.proofs.Common.{take}
use Rattle.ae_types.specs.Inner.Enters.{Grows, AllStand, sheet}
use Rattle.ae_types.proofs.enter.+enter.Given as goal

abbrev pub invariant-loop-arg : goal.invariant-loop-arg
invariant-loop-arg l = record {
  grows : Grows (sheet l.fn.graph) (sheet l.graph);
  stand : AllStand l.graph.nodes (take l.arg-index l.arg-items) l.places;
}

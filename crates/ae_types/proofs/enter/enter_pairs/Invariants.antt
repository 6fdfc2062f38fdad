use Rattle.std.proofs.Common.{take}
use Rattle.ae_types.specs.Inner.Enters.{Grows, PairsStand, sheet}
use Rattle.ae_types.proofs.enter.enter_pairs.Given as goal

abbrev pub invariant-loop-pair : goal.invariant-loop-pair
invariant-loop-pair l = record {
  grows : Grows (sheet l.fn.graph) (sheet l.graph);
  stand : PairsStand l.graph.nodes (take l.pair-index l.pairs) l.todo;
}

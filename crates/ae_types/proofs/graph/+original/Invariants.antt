use Rattle.std.proofs.Common.{◌≡◌, map, take}
use Rattle.ae_types.specs.Inner.Graphs.{origin}
use Rattle.ae_types.proofs.graph.+original.Given as goal

abbrev pub decreases-original : goal.decreases-original
decreases-original l = l.place

abbrev pub invariant-loop-arg : goal.invariant-loop-arg
invariant-loop-arg l = l.sorts ≡ map (origin l.nodes) (take l.arg-index l.arg-items)

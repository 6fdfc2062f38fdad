use Rattle.std.proofs.Common.{◌≡◌, map, take, ◌-◌}
use Rattle.ae_types.specs.Inner.Graphs.{value, unknown, slots_of}
use Rattle.ae_types.proofs.graph.+resolve.Given as goal

abbrev pub decreases-resolve : goal.decreases-resolve
decreases-resolve l = l.fuel

abbrev pub invariant-loop-arg : goal.invariant-loop-arg
invariant-loop-arg l = l.sorts ≡ map (value (unknown l.nodes) (l.fuel - 1) (slots_of l.nodes l.classes)) (take l.arg-index l.arg-items)

use Rattle.std.proofs.Common.{◌≡◌, map, take}
use Rattle.ae_elab.specs.Conditions.{shown}
use Rattle.ae_elab.specs.Nodes.{entries_of}
use Rattle.ae_types.specs.Bound.{bound}
use Rattle.ae_sizes.specs.Inner.Counted.{told}
use Rattle.ae_sizes.proofs.node_sizes.measures.Given as goal

abbrev pub invariant-loop-node : goal.invariant-loop-node
invariant-loop-node l = l.measures ≡ map (told (shown (bound l.bindings))) (entries_of (take l.node-index l.nodes))

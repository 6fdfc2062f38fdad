use Rattle.std.proofs.Common.{◌≡◌, map, take}
use Rattle.ae_expressions.specs.Inner.Marks.{mark_of}
use Rattle.ae_elab.specs.Nodes.{entries_of}
use Rattle.ae_expressions.proofs.marks.marks.Given as goal

abbrev pub invariant-loop-node : goal.invariant-loop-node
invariant-loop-node l = l.marks ≡ map (mark_of l.sought) (entries_of (take l.node-index l.nodes))

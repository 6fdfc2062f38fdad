use Rattle.ae_elab.specs.Nodes.{entries_of}
use Rattle.std.proofs.Common.{take, ◌∙◌}
use Rattle.ae_expressions.proofs.MarkLaws.{marks_next, marks_whole}
use Rattle.ae_expressions.proofs.marks.marks.Goals as goal

pub loop-node-preserved : goal.loop-node-preserved
loop-node-preserved c =
    marks_next c.args.sought c.loop-node.marks c.push.new.self c.args.nodes.now c.loop-node.node-index c.node-item.result c.mark-found.result c.loop-node-test.true c.node-item.is
    (c.mark-found.ensures (entries_of (take c.loop-node.node-index c.args.nodes.now)) (c.as_slice.ensures ∙ c.loop-node.invariant)) c.in_ok-push.ensures.ok c.loop-node.invariant

pub returns : goal.returns
returns c = marks_whole c.args.sought c.loop-node.marks c.args.nodes.now c.loop-node.node-index c.loop-node-test.false c.loop-node.invariant

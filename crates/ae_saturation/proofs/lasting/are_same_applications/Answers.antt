use Rattle.ae_saturation.proofs.Looking.{names_of, nodes_of}
use Rattle.ae_saturation.proofs.lasting.are_same_applications.Goals as goal

pub returns : goal.returns
returns c =
    let nodes = c.args.store.now.nodes in
    let values = c.args.values.now in (
      λ t. names_of nodes values c.args.left c.args.right c.node.result.now c.node-2.result.now c.node.ensures.node c.node-2.ensures.node (c.are_same_nodes.ensures.0 t),
      λ k. c.are_same_nodes.ensures.1 (nodes_of nodes values c.args.left c.args.right c.node.result.now c.node-2.result.now c.node.ensures.node c.node-2.ensures.node k),
    )

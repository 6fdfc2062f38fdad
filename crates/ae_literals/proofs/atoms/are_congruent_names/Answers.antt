use Rattle.ae_sweeps.specs.Given.{rep_in}
use Rattle.ae_literals.proofs.OpposedAtoms.{names_of, nodes_of}
use Rattle.ae_literals.proofs.atoms.are_congruent_names.Goals as goal

pub returns : goal.returns
returns c =
    let nodes = c.args.store.now.nodes in
    let rep = rep_in c.args.reps.now in (
      λ t. names_of nodes rep c.args.left c.args.right c.node.result.now c.node-2.result.now c.node.ensures.node c.node-2.ensures.node (c.are_congruent.ensures.0 t),
      λ k. c.are_congruent.ensures.1 (nodes_of nodes rep c.args.left c.args.right c.node.result.now c.node-2.result.now c.node.ensures.node c.node-2.ensures.node k),
    )

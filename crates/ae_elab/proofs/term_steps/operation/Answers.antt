use Rattle.std.proofs.Common.{◌∙◌, ap, subst}
use Rattle.ae_elab.specs.Nodes.{trees_at}
use Rattle.ae_elab.specs.Rules.{give, typed}
use Rattle.ae_elab.specs.Trees as tree
use Rattle.ae_elab.specs.Typings.{TypesTerm, nodes_of}
use Rattle.ae_elab.proofs.NodeLaws.{two_trees}
use Rattle.ae_elab.proofs.TypingLaws.{puts_term}
use Rattle.ae_elab.proofs.term_steps.operation.Goals as goal

pub returns : goal.returns
returns c d x y a b =
    let old = c.args.typing.now in
    let new = c.push_node.new.typing in
    let es = nodes_of old in
    let s = c.args.operands.sort in
    let us = c.push-2.new.self in
    subst (λ t. TypesTerm d (λ sc. give (typed t s)) old new (record { tree = c.in_ok-tree.tree; sort = s }))
    (ap (λ r. tree.operation c.args.op r (trees_at es us)) c.in_ok-sort.ensures
    ∙ ap (tree.operation c.args.op s) (two_trees es c.new-args.result c.push.new.self us c.args.operands.first c.args.operands.second x y c.new-args.ensures c.in_ok-push.ensures.ok c.in_ok-push-2.ensures.ok a b))
    (puts_term d old new (tree.operation c.args.op c.in_ok-sort.sort (trees_at es us)) c.in_ok-tree.tree s c.in_ok-tree.ensures)

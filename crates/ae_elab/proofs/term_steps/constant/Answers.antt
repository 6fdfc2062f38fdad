use Rattle.std.proofs.Common.{◌∙◌, [], ap, subst}
use Rattle.ae_elab.specs.Nodes.{trees_at}
use Rattle.ae_elab.specs.Rules.{give, typed}
use Rattle.ae_elab.specs.Trees.{apply}
use Rattle.ae_elab.specs.Typings.{TypesTerm, nodes_of}
use Rattle.ae_elab.proofs.TypingLaws.{puts_term}
use Rattle.ae_elab.proofs.term_steps.constant.Goals as goal

pub returns : goal.returns
returns c d =
    let old = c.args.typing.now in
    let new = c.push_node.new.typing in
    let h = c.args.head in
    subst (λ t. TypesTerm d (λ sc. give (typed t c.args.sort)) old new (record { tree = c.in_ok-tree.tree; sort = c.args.sort }))
    (ap (λ ss. apply h ss (trees_at (nodes_of old) c.new-2.result)) c.new.ensures ∙ ap (λ us. apply h [] (trees_at (nodes_of old) us)) c.new-2.ensures)
    (puts_term d old new (apply h c.new.result (trees_at (nodes_of old) c.new-2.result)) c.in_ok-tree.tree c.args.sort c.in_ok-tree.ensures)

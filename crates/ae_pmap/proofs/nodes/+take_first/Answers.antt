use Rattle.std.proofs.Common.{◌++◌, ◌∷◌, ◌∙◌, ap}
use Rattle.ae_pmap.specs.Trees.{Tree, pairs}
use Rattle.ae_pmap.specs.Nodes.{tree_at}
use Rattle.ae_pmap.proofs.Tables.{tree_at-zero}
use Rattle.ae_pmap.proofs.Opened.{opened_at}
use Rattle.ae_pmap.proofs.nodes.+take_first.Goals as goal

pub returns-then-node-eq0-clause-entries : goal.returns-then-node-eq0-clause-entries
returns-then-node-eq0-clause-entries t c =
    let nodes = c.args.nodes.now.items in
    let n = c.index-node.result.now in
    let o = opened_at nodes c.args.place n c.index-node.ensures c.requires.sound c.requires.some c.requires.place in
    ap pairs o.tree ∙ ap (λ (l : Tree). pairs l ++ (n.key, n.value) ∷ pairs (tree_at nodes n.right)) (ap (tree_at nodes) c.if-node-eq0.true ∙ tree_at-zero nodes)

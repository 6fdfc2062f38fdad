use Rattle.std.proofs.Common.{◌≡◌, ◌++◌, ◌∙◌, sym, ap, append-nil, arith}
use Rattle.ae_pmap.specs.Trees.{Tree, Leaf, pairs, levels}
use Rattle.ae_pmap.specs.Nodes.{tree_at}
use Rattle.ae_pmap.proofs.Tables.{tree_at-zero}
use Rattle.ae_pmap.proofs.nodes.append.Goals as goal

pub returns-then-right-eq0-clause-entries : goal.returns-then-right-eq0-clause-entries
returns-then-right-eq0-clause-entries c =
    let nodes = c.args.nodes.now.items in
    let e : tree_at nodes c.args.right ≡ Leaf = ap (tree_at nodes) c.if-right-eq0.true ∙ tree_at-zero nodes in
    sym (ap (λ (t : Tree). pairs (tree_at nodes c.args.left) ++ pairs t) e ∙ append-nil (pairs (tree_at nodes c.args.left)))

pub returns-then-right-eq0-clause-high : goal.returns-then-right-eq0-clause-high
returns-then-right-eq0-clause-high c =
    let nodes = c.args.nodes.now.items in
    let e : levels (tree_at nodes c.args.right) ≡ 0 = ap levels (ap (tree_at nodes) c.if-right-eq0.true ∙ tree_at-zero nodes) in
    omega arith

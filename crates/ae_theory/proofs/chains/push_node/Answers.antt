use Rattle.std.proofs.Common.{List, refl, subst}
use Rattle.ae_theory.specs.Paths.{list_at}
use Rattle.ae_theory.specs.Inner.Trees.{IsCached}
use Rattle.std.proofs.lemmas.Result.{on_ok_weaker}
use Rattle.ae_theory.specs.declared.nodes.Node.{Node}
use Rattle.ae_theory.proofs.Sharing.{tree_push, tree_pushed}
use Rattle.ae_theory.proofs.chains.push_node.Goals as goal

pub returns-clause-ok : goal.returns-clause-ok
returns-clause-ok c =
    let x : Node = record { lit = c.args.lit; tag = c.args.tag; edge = c.args.edge; from = c.stood_before-from.result.0; to = c.stood_before-from.result.1; parent = c.args.last } in
    on_ok_weaker c.push.result (λ e. record { node = x; is = e; lit_is = refl; tag_is = refl; edge_is = refl; parent_is = refl }) c.push.ensures.ok

pub returns-clause-tree : goal.returns-clause-tree
returns-clause-tree c =
    let x : Node = record { lit = c.args.lit; tag = c.args.tag; edge = c.args.edge; from = c.stood_before-from.result.0; to = c.stood_before-from.result.1; parent = c.args.last } in
    tree_pushed c.push.result c.args.nodes.now c.push.new.self x c.push.ensures.ok c.push.ensures.err c.requires.tree
    (tree_push c.args.nodes.now x c.requires.tree c.requires.within
    (subst (λ (w : List Node). IsCached (list_at w c.args.last) c.args.edge c.stood_before-from.result.0 c.stood_before-from.result.1) c.as_slice.ensures c.stood_before-from.ensures))

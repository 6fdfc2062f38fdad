use Rattle.std.proofs.Common.{◌≡◌, ℕ, List, ◌++◌, ◌∷◌, ◌∙◌, ap, arith, refl}
use Rattle.std.proofs.lemmas.Result.{IfOk-weaker}
use Rattle.ae_pmap.specs.declared.nodes.Node.{Node}
use Rattle.ae_pmap.specs.Pairs.{put_in}
use Rattle.ae_pmap.specs.Trees.{pairs}
use Rattle.ae_pmap.specs.Nodes.{tree_at}
use Rattle.ae_pmap.proofs.Tables.{tree_at-zero}
use Rattle.ae_pmap.proofs.Opened.{opened_at}
use Rattle.ae_pmap.proofs.Searches.{parts, put_less, put_more, put_same}
use Rattle.ae_pmap.proofs.nodes.+insert.Goals as goal

first_pair : (key v place : ℕ) (nodes : List Node) → place ≡ 0 → pairs (tree_at nodes 0) ++ (key, v) ∷ pairs (tree_at nodes 0) ≡ put_in key v (pairs (tree_at nodes place))
first_pair key v place nodes e = let n = tree_at-zero nodes in rw (e, n) refl

pub returns-then-place-eq0-clause-entries : goal.returns-then-place-eq0-clause-entries
returns-then-place-eq0-clause-entries t c =
    IfOk-weaker c.fork.result _ _ (λ p h. ap pairs h ∙ first_pair c.args.key c.args.value c.args.place c.args.nodes.now.items c.if-place-eq0.true) c.fork.ensures.tree

pub insert-requires : goal.insert-requires
insert-requires t c =
    let o = opened_at c.args.nodes.now.items c.args.place c.index-node.result.now c.index-node.ensures c.requires.sound (omega (arith, c.if-place-eq0.false)) c.requires.place in
    (omega (arith, o.left, c.decreases), (c.requires.sound, (omega (arith, o.left, c.requires.place), (parts c.args.nodes.now.items c.args.place c.index-node.result.now o c.requires.rises).first)))

pub insert-requires-then-node-key : goal.insert-requires-then-node-key
insert-requires-then-node-key t c =
    let o = opened_at c.args.nodes.now.items c.args.place c.index-node.result.now c.index-node.ensures c.requires.sound (omega (arith, c.if-place-eq0.false)) c.requires.place in
    (omega (arith, o.right, c.decreases), (c.requires.sound, (omega (arith, o.right, c.requires.place), (parts c.args.nodes.now.items c.args.place c.index-node.result.now o c.requires.rises).second)))

pub returns-then-key-node-clause-entries : goal.returns-then-key-node-clause-entries
returns-then-key-node-clause-entries t c =
    let nodes = c.args.nodes.now.items in
    let n = c.index-node.result.now in
    let o = opened_at nodes c.args.place n c.index-node.ensures c.requires.sound (omega (arith, c.if-place-eq0.false)) c.requires.place in
    let k : pairs (tree_at c.insert.new.nodes.items n.right) ≡ pairs (tree_at nodes n.right) = ap pairs (c.in_ok-left.ensures.keeps.trees n.right (omega (arith, o.right, c.requires.place))) in
    IfOk-weaker c.join.result _ _ (λ p h. h.entries ∙ rw (c.in_ok-left.ensures.entries, k) (put_less nodes c.args.place n o c.requires.rises c.args.key c.args.value c.if-key-node.true)) c.join.ensures.joined

pub returns-then-node-key-clause-entries : goal.returns-then-node-key-clause-entries
returns-then-node-key-clause-entries t c =
    let nodes = c.args.nodes.now.items in
    let n = c.index-node.result.now in
    let o = opened_at nodes c.args.place n c.index-node.ensures c.requires.sound (omega (arith, c.if-place-eq0.false)) c.requires.place in
    let k : pairs (tree_at c.insert-then-node-key.new.nodes.items n.left) ≡ pairs (tree_at nodes n.left) = ap pairs (c.in_ok-right.ensures.keeps.trees n.left (omega (arith, o.left, c.requires.place))) in
    IfOk-weaker c.join-then-node-key.result _ _ (λ p h. h.entries ∙ rw (c.in_ok-right.ensures.entries, k) (put_more nodes c.args.place n o c.requires.rises c.args.key c.args.value c.if-node-key.true)) c.join-then-node-key.ensures.joined

pub returns-clause-entries : goal.returns-clause-entries
returns-clause-entries t c =
    let o = opened_at c.args.nodes.now.items c.args.place c.index-node.result.now c.index-node.ensures c.requires.sound (omega (arith, c.if-place-eq0.false)) c.requires.place in
    IfOk-weaker c.fork-2.result _ _ (λ p h. ap pairs h ∙ put_same c.args.nodes.now.items c.args.place c.index-node.result.now o c.requires.rises c.args.key c.args.value (omega (arith, c.if-key-node.false, c.if-node-key.false))) c.fork-2.ensures.tree

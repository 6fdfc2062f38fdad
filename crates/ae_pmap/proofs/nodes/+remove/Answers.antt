use Rattle.std.proofs.Common.{◌≡◌, ◌∙◌, ap, arith, refl}
use Rattle.std.proofs.lemmas.Result.{IfOk-weaker}
use Rattle.ae_pmap.specs.Trees.{pairs}
use Rattle.ae_pmap.specs.Nodes.{tree_at}
use Rattle.ae_pmap.proofs.Tables.{tree_at-zero}
use Rattle.ae_pmap.proofs.Opened.{opened_at}
use Rattle.ae_pmap.proofs.Searches.{parts, out_less, out_more, out_same}
use Rattle.ae_pmap.proofs.nodes.+remove.Goals as goal

pub returns-then-place-eq0-clause-entries : goal.returns-then-place-eq0-clause-entries
returns-then-place-eq0-clause-entries t c =
    let n = tree_at-zero c.args.nodes.now.items in
    let e = c.if-place-eq0.true in
    rw (e, n) refl

pub remove-requires : goal.remove-requires
remove-requires t c =
    let o = opened_at c.args.nodes.now.items c.args.place c.index-node.result.now c.index-node.ensures c.requires.sound (omega (arith, c.if-place-eq0.false)) c.requires.place in
    (omega (arith, o.left, c.decreases), (c.requires.sound, (omega (arith, o.left, c.requires.place), (parts c.args.nodes.now.items c.args.place c.index-node.result.now o c.requires.rises).first)))

pub remove-requires-then-node-key : goal.remove-requires-then-node-key
remove-requires-then-node-key t c =
    let o = opened_at c.args.nodes.now.items c.args.place c.index-node.result.now c.index-node.ensures c.requires.sound (omega (arith, c.if-place-eq0.false)) c.requires.place in
    (omega (arith, o.right, c.decreases), (c.requires.sound, (omega (arith, o.right, c.requires.place), (parts c.args.nodes.now.items c.args.place c.index-node.result.now o c.requires.rises).second)))

pub returns-then-key-node-clause-entries : goal.returns-then-key-node-clause-entries
returns-then-key-node-clause-entries t c =
    let nodes = c.args.nodes.now.items in
    let n = c.index-node.result.now in
    let o = opened_at nodes c.args.place n c.index-node.ensures c.requires.sound (omega (arith, c.if-place-eq0.false)) c.requires.place in
    let k : pairs (tree_at c.remove.new.nodes.items n.right) ≡ pairs (tree_at nodes n.right) = ap pairs (c.in_ok-left.ensures.keeps.trees n.right (omega (arith, o.right, c.requires.place))) in
    IfOk-weaker c.join.result _ _ (λ p h. h.entries ∙ rw (c.in_ok-left.ensures.entries, k) (out_less nodes c.args.place n o c.requires.rises c.args.key c.if-key-node.true)) c.join.ensures.joined

pub returns-then-node-key-clause-entries : goal.returns-then-node-key-clause-entries
returns-then-node-key-clause-entries t c =
    let nodes = c.args.nodes.now.items in
    let n = c.index-node.result.now in
    let o = opened_at nodes c.args.place n c.index-node.ensures c.requires.sound (omega (arith, c.if-place-eq0.false)) c.requires.place in
    let k : pairs (tree_at c.remove-then-node-key.new.nodes.items n.left) ≡ pairs (tree_at nodes n.left) = ap pairs (c.in_ok-right.ensures.keeps.trees n.left (omega (arith, o.left, c.requires.place))) in
    IfOk-weaker c.join-then-node-key.result _ _ (λ p h. h.entries ∙ rw (c.in_ok-right.ensures.entries, k) (out_more nodes c.args.place n o c.requires.rises c.args.key c.if-node-key.true)) c.join-then-node-key.ensures.joined

pub returns-clause-entries : goal.returns-clause-entries
returns-clause-entries t c =
    let o = opened_at c.args.nodes.now.items c.args.place c.index-node.result.now c.index-node.ensures c.requires.sound (omega (arith, c.if-place-eq0.false)) c.requires.place in
    IfOk-weaker c.append.result _ _ (λ p h. h ∙ out_same c.args.nodes.now.items c.args.place c.index-node.result.now o c.requires.rises c.args.key (omega (arith, c.if-key-node.false, c.if-node-key.false))) c.append.ensures.entries

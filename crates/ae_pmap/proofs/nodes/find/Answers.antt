use Rattle.std.proofs.Common.{◌≡◌, sym, ◌∙◌, ap, arith}
use Rattle.ae_pmap.specs.declared.nodes.Node.{Node}
use Rattle.ae_pmap.specs.Pairs.{found}
use Rattle.ae_pmap.specs.Trees.{Tree, pairs}
use Rattle.ae_pmap.specs.Nodes.{tree_at}
use Rattle.ae_pmap.proofs.Tables.{tree_at-zero}
use Rattle.ae_pmap.proofs.Opened.{opened}
use Rattle.ae_pmap.proofs.Searches.{parts, go_left, go_right, stop_here}
use Rattle.ae_pmap.proofs.nodes.find.Goals as goal

abbrev blank : Node
blank = record { key = 0; value = 0; left = 0; right = 0; height = 0 }

pub loop-place-preserved-then-key-node : goal.loop-place-preserved-then-key-node
loop-place-preserved-then-key-node c =
    let o = opened c.args.nodes.now c.loop-place.place blank c.requires.sound (omega arith) (omega arith) in
    let i = c.loop-place.invariant in
    record {
      inside = omega (arith, o.left);
      rises = (parts c.args.nodes.now c.loop-place.place _ o i.rises).first;
      same = go_left c.args.nodes.now c.loop-place.place _ o i.rises c.args.key c.if-key-node.true ∙ i.same;
    }

pub loop-place-preserved : goal.loop-place-preserved
loop-place-preserved c =
    let o = opened c.args.nodes.now c.loop-place.place blank c.requires.sound (omega arith) (omega arith) in
    let i = c.loop-place.invariant in
    record {
      inside = omega (arith, o.right);
      rises = (parts c.args.nodes.now c.loop-place.place _ o i.rises).second;
      same = go_right c.args.nodes.now c.loop-place.place _ o i.rises c.args.key c.if-node-key.true ∙ i.same;
    }

pub returns-else-node-key : goal.returns-else-node-key
returns-else-node-key c =
    let o = opened c.args.nodes.now c.loop-place.place blank c.requires.sound (omega arith) (omega arith) in
    let i = c.loop-place.invariant in
    stop_here c.args.nodes.now c.loop-place.place _ o i.rises c.args.key (omega (arith, c.if-key-node.false, c.if-node-key.false)) ∙ i.same

pub returns : goal.returns
returns c =
    let z : c.loop-place.place ≡ 0 = omega (arith, c.loop-place-test.false) in
    sym (ap (λ (t : Tree). found (pairs t) c.args.key) (ap (tree_at c.args.nodes.now) z ∙ tree_at-zero c.args.nodes.now)) ∙ c.loop-place.invariant.same

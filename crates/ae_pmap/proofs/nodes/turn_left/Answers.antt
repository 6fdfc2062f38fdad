use Rattle.std.proofs.Common.{◌≡◌, ◌<◌, ◌≤◌, List, length, arith, ap, ◌∙◌}
use Rattle.std.proofs.lemmas.Result.{IfOk-weaker}
use Rattle.ae_pmap.specs.declared.nodes.Node.{Node}
use Rattle.ae_pmap.specs.Trees.{levels}
use Rattle.ae_pmap.specs.Nodes.{tree_at}
use Rattle.ae_pmap.proofs.Tables.{at_place}
use Rattle.ae_pmap.proofs.Opened.{Opened, opened_at}
use Rattle.ae_pmap.proofs.Turns.{turned_left, turned_left_twice}
use Rattle.ae_pmap.proofs.nodes.turn_left.Goals as goal

pub overflow_sub-right : goal.overflow_sub-right
overflow_sub-right c = omega (arith, (at_place c.args.nodes.now.items c.args.right c.requires.sound c.requires.right).0, c.requires.higher)

pub returns-then-inner-outer-clause-joined : goal.returns-then-inner-outer-clause-joined
returns-then-inner-outer-clause-joined c =
    let nodes = c.args.nodes.now.items in
    let top = c.index-top.result.now in
    let at = at_place nodes c.args.right c.requires.sound c.requires.right in
    let o : Opened nodes c.args.right top = opened_at nodes c.args.right top c.index-top.ensures c.requires.sound (omega (arith, at.0, c.requires.higher)) c.requires.right in
    let inner : c.height-inner.result ≡ levels (tree_at nodes top.left) = c.height-inner.ensures ∙ ap (λ (w : List Node). levels (tree_at w top.left)) c.deref.ensures.value in
    let outer : c.height-outer.result ≡ levels (tree_at nodes top.right) = c.height-outer.ensures ∙ ap (λ (w : List Node). levels (tree_at w top.right)) c.deref-2.ensures.value in
    IfOk-weaker c.fork-then-inner-outer.result _ _ (λ p h.
    turned_left nodes c.fork.new.nodes.items c.fork-then-inner-outer.new.nodes.items c.args.key c.args.value top p
    c.args.left c.args.right c.in_ok-below.below o at.1 c.requires.right c.requires.higher (omega (arith, outer, inner, c.if-inner-outer.true))
    c.in_ok-below.ensures.keeps c.in_ok-below.ensures.tree h) c.fork-then-inner-outer.ensures.tree

pub returns-clause-joined : goal.returns-clause-joined
returns-clause-joined c =
    let nodes = c.args.nodes.now.items in
    let top = c.index-top.result.now in
    let middle = c.index-middle.result.now in
    let at = at_place nodes c.args.right c.requires.sound c.requires.right in
    let o : Opened nodes c.args.right top = opened_at nodes c.args.right top c.index-top.ensures c.requires.sound (omega (arith, at.0, c.requires.higher)) c.requires.right in
    let inner : c.height-inner.result ≡ levels (tree_at nodes top.left) = c.height-inner.ensures ∙ ap (λ (w : List Node). levels (tree_at w top.left)) c.deref.ensures.value in
    let outer : c.height-outer.result ≡ levels (tree_at nodes top.right) = c.height-outer.ensures ∙ ap (λ (w : List Node). levels (tree_at w top.right)) c.deref-2.ensures.value in
    let within : top.left ≤ length nodes = omega (arith, o.left, c.requires.right) in
    let taller : levels (tree_at nodes top.right) < levels (tree_at nodes top.left) = omega (arith, outer, inner, c.if-inner-outer.false) in
    let i : Opened nodes top.left middle = opened_at nodes top.left middle c.index-middle.ensures c.requires.sound (omega (arith, taller, (at_place nodes top.left c.requires.sound within).0)) within in
    IfOk-weaker c.fork-4.result _ _ (λ p h.
    turned_left_twice nodes c.fork-2.new.nodes.items c.fork-3.new.nodes.items c.fork-4.new.nodes.items c.args.key c.args.value top middle p
    c.in_ok-first.first c.in_ok-second.second c.args.left c.args.right o i at.1 c.requires.left c.requires.right c.requires.higher taller
    c.in_ok-first.ensures.keeps c.in_ok-first.ensures.place c.in_ok-first.ensures.tree c.in_ok-second.ensures.keeps c.in_ok-second.ensures.tree h) c.fork-4.ensures.tree

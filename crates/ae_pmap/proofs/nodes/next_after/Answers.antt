use Rattle.std.proofs.Common.{◌≡◌, sym, ◌∙◌, ap, arith, ℕ, refl, true, false, Option}
use Rattle.ae_pmap.specs.declared.nodes.Node.{Node}
use Rattle.ae_pmap.specs.Trees.{Tree, pairs}
use Rattle.ae_pmap.specs.Nodes.{tree_at}
use Rattle.ae_pmap.proofs.Tables.{tree_at-zero}
use Rattle.ae_pmap.proofs.Opened.{opened}
use Rattle.ae_pmap.proofs.Searches.{parts}
use Rattle.ae_pmap.proofs.Walks.{first_or, next_pair, walk_left, walk_right, none_next}
use Rattle.ae_pmap.proofs.nodes.next_after.Goals as goal

abbrev blank : Node
blank = record { key = 0; value = 0; left = 0; right = 0; height = 0 }

pub loop-place-preserved-then-is_past : goal.loop-place-preserved-then-is_past
loop-place-preserved-then-is_past c =
    let o = opened c.args.nodes.now c.loop-place.place blank c.requires.sound (omega arith) (omega arith) in
    let i = c.loop-place.invariant in
    record {
      inside = omega (arith, o.left);
      rises = (parts c.args.nodes.now c.loop-place.place _ o i.rises).first;
      same = walk_left c.args.nodes.now c.loop-place.place _ o i.rises c.args.last c.loop-place.best (c.if-is_past.ensures.0 refl) ∙ i.same;
    }

pub loop-place-preserved : goal.loop-place-preserved
loop-place-preserved c =
    let o = opened c.args.nodes.now c.loop-place.place blank c.requires.sound (omega arith) (omega arith) in
    let i = c.loop-place.invariant in
    record {
      inside = omega (arith, o.right);
      rises = (parts c.args.nodes.now c.loop-place.place _ o i.rises).second;
      same = walk_right c.args.nodes.now c.loop-place.place _ o i.rises c.args.last c.loop-place.best (λ h. let e : false ≡ true = c.if-is_past.ensures.1 h in cc) ∙ i.same;
    }

pub returns : goal.returns
returns c =
    let z : c.loop-place.place ≡ 0 = omega (arith, c.loop-place-test.false) in
    sym (ap (λ (t : Tree). first_or (next_pair c.args.last (pairs t)) c.loop-place.best) (ap (tree_at c.args.nodes.now) z ∙ tree_at-zero c.args.nodes.now)
    ∙ ap (λ (p : Option (ℕ × ℕ)). first_or p c.loop-place.best) (none_next c.args.last)) ∙ c.loop-place.invariant.same

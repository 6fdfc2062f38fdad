use Rattle.std.proofs.Common.{inl, inr, sym, ◌∙◌, subst, arith, ap, ◌<◌, length}
use Rattle.ae_types.specs.Inner.Graphs.{slots_of}
use Rattle.ae_types.specs.Inner.Walks.{IsFresh, mark_at}
use Rattle.ae_types.proofs.GraphLaws.{slots_length}
use Rattle.ae_types.proofs.WalkLaws.{fresh_walks, walk_settles}
use Rattle.ae_types.proofs.EnterLaws.{inside}
use Rattle.ae_types.proofs.cycles.settle.Goals as goal

pub loop-place-init : goal.loop-place-init
loop-place-init c =
    let s = slots_of c.args.nodes.now c.args.classes.now in
    record {
      walking = fresh_walks s c.in_ok-walk.walk (subst (λ n. IsFresh n c.in_ok-walk.walk) (sym (slots_length c.args.nodes.now c.args.classes.now)) c.in_ok-walk.ensures);
      path = c.in_ok-walk.ensures.path;
      seen = λ i h. absurd (omega arith);
    }

pub loop-place-preserved : goal.loop-place-preserved
loop-place-preserved c =
    let s = slots_of c.args.nodes.now c.args.classes.now in
    let i = c.loop-place.invariant in
    let l = slots_length c.args.nodes.now c.args.classes.now in
    let v = c.in_ok-visit.ensures.ok in
    let a : c.loop-place.place < length s = omega (arith, c.loop-place-test.true, l) in
    record {
      walking = v.descends.walking;
      path = v.descends.path;
      seen = λ k h. elim (inside k c.loop-place.place h) [
        | inl b ↦ v.descends.keeps k (i.seen k b)
        | inr e ↦ λ n. v.seen a (ap (mark_at c.visit.new.walk.marks) (sym e) ∙ n)
      ];
    }

pub returns-clause-ok : goal.returns-clause-ok
returns-clause-ok c =
    let s = slots_of c.args.nodes.now c.args.classes.now in
    let i = c.loop-place.invariant in
    let l = slots_length c.args.nodes.now c.args.classes.now in
    walk_settles s c.loop-place.walk i.walking i.path (λ k a. i.seen k (omega (arith, c.loop-place-test.false, l)))

use Rattle.std.proofs.Common.{inl, inr, sym, ◌∙◌, subst, arith, ap, ◌<◌, length, get_or}
use Rattle.ae_types.specs.Inner.Graphs.{slots_of}
use Rattle.ae_types.specs.Inner.Walks.{mark_at}
use Rattle.ae_types.proofs.WalkLaws.{notes_same, notes_trans}
use Rattle.ae_types.proofs.EnterLaws.{inside}
use Rattle.ae_types.proofs.cycles.visit_all.Goals as goal

pub loop-place-init : goal.loop-place-init
loop-place-init c = record {
  walking = c.requires.walking;
  path = c.requires.path;
  seen = λ k h. absurd (omega arith);
  notes = notes_same c.args.walk.now.marks c.args.seen.now;
}

pub loop-place-preserved : goal.loop-place-preserved
loop-place-preserved c =
    let i = c.loop-place.invariant in
    let v = c.in_ok-visit.ensures.ok in
    record {
      walking = v.descends.walking;
      path = v.descends.path;
      seen = λ k h a. elim (inside k c.loop-place.place-index h) [
        | inl b ↦ v.descends.keeps (get_or c.args.places.now k 0) (i.seen k b a)
        | inr e ↦ λ n.
            (let x = ap (λ j. get_or c.args.places.now j 0) e in
            v.seen (subst (λ j. j < length (slots_of c.args.nodes.now c.args.classes.now)) x a) (ap (mark_at c.visit.new.walk.marks) (sym x) ∙ n))
      ];
      notes = notes_trans c.args.walk.now.marks c.loop-place.walk.marks c.visit.new.walk.marks c.args.seen.now c.loop-place.seen c.visit.new.seen i.notes c.in_ok-visit.ensures.notes;
    }

pub returns-in_err-visit-clause-notes : goal.returns-in_err-visit-clause-notes
returns-in_err-visit-clause-notes c =
    notes_trans c.args.walk.now.marks c.loop-place.walk.marks c.visit.new.walk.marks c.args.seen.now c.loop-place.seen c.visit.new.seen c.loop-place.invariant.notes c.in_err-visit.ensures.notes

pub returns-clause-ok : goal.returns-clause-ok
returns-clause-ok c =
    let i = c.loop-place.invariant in
    record {
      walking = i.walking;
      path = i.path;
      seen = λ k h. i.seen k (omega (arith, c.loop-place-test.false, h));
    }

use Rattle.std.proofs.Common.{◌<◌, ◌+◌, length, slice_get, ap, sym, ◌∙◌, subst, arith}
use Rattle.ae_types.specs.declared.cycles.Mark.TheVariants.{Open, Done}
use Rattle.ae_types.specs.declared.cycles.Walk.{Walk}
use Rattle.ae_types.specs.Inner.Graphs.{slot_at, slots_of}
use Rattle.ae_types.specs.Inner.Walks.{refs, Walking, IsCycle, left, level_of}
use Rattle.ae_types.proofs.GraphLaws.{graph_slots, slot_at_class, slots_length}
use Rattle.ae_types.proofs.WalkLaws.{walk_leaves, walk_advances, walk_opens, walk_cycles, left_leaves, left_advances, left_opens, keeps_set, part_within, last_leads, last_open, last_within, not_got, notes_same, notes_set, notes_trans, got}
use Rattle.ae_types.proofs.cycles.descend.Goals as goal

pub loop-frame-smaller-in-None : goal.loop-frame-smaller-in-None
loop-frame-smaller-in-None c =
    let s = slots_of c.args.nodes.now c.args.classes.now in
    subst (λ m. left s (record { marks = m; path = c.pop.new.self; done = c.loop-frame.walk.done + 1 }) < left s c.loop-frame.walk) (sym c.set.ensures)
    (left_leaves s c.loop-frame.walk c.pop.new.self c.in-Some.frame 0 c.loop-frame.invariant.walking c.in-Some.ensures)

pub loop-frame-preserved-in-None : goal.loop-frame-preserved-in-None
loop-frame-preserved-in-None c =
    let s = slots_of c.args.nodes.now c.args.classes.now in
    let i = c.loop-frame.invariant in
    let l = slots_length c.args.nodes.now c.args.classes.now in
    let a = last_within s c.loop-frame.walk c.pop.new.self c.in-Some.frame 0 i.walking c.in-Some.ensures in
    let e = slot_at_class c.args.nodes.now c.args.classes.now c.in-Some.frame.place (omega arith) in
    let few = not_got (refs (slot_at s c.in-Some.frame.place)) c.in-Some.frame.next (ap (λ x. slice_get (refs x) c.in-Some.frame.next) e ∙ sym c.in-None.ensures.part) in
    record {
      walking = subst (λ m. Walking s (record { marks = m; path = c.pop.new.self; done = c.loop-frame.walk.done + 1 })) (sym c.set.ensures)
          (walk_leaves s c.loop-frame.walk c.pop.new.self c.in-Some.frame 0 i.walking c.in-Some.ensures (graph_slots c.args.nodes.now c.args.classes.now c.requires.well) few);
      keeps = keeps_set c.args.walk.now.marks c.loop-frame.walk.marks c.set.new.self c.in-Some.frame.place (Done c.loop-frame.walk.done) (let m = i.walking.marks in omega arith) (λ x. cc) c.set.ensures i.keeps;
      notes = notes_trans c.args.walk.now.marks c.loop-frame.walk.marks c.set.new.self c.args.seen.now c.loop-frame.seen c.loop-frame.seen i.notes
          (notes_set c.loop-frame.walk.marks c.set.new.self c.loop-frame.seen c.in-Some.frame.place (Done c.loop-frame.walk.done)
          (last_open s c.loop-frame.walk c.pop.new.self c.in-Some.frame 0 i.walking c.in-Some.ensures) c.set.ensures);
    }

pub mark_of-requires : goal.mark_of-requires
mark_of-requires c =
    let s = slots_of c.args.nodes.now c.args.classes.now in
    let i = c.loop-frame.invariant in
    let l = slots_length c.args.nodes.now c.args.classes.now in
    let a = last_within s c.loop-frame.walk c.pop.new.self c.in-Some.frame 0 i.walking c.in-Some.ensures in
    let e = slot_at_class c.args.nodes.now c.args.classes.now c.in-Some.frame.place (omega arith) in
    let m = i.walking.marks in
    let b = part_within s c.in-Some.frame.place c.in-Some.frame.next c.in-Some-part_at.child (graph_slots c.args.nodes.now c.args.classes.now c.requires.well) a
    (ap (λ x. slice_get (refs x) c.in-Some.frame.next) e ∙ sym c.in-Some-part_at.ensures.part) in
    omega arith

pub open-requires : goal.open-requires
open-requires c =
    let s = slots_of c.args.nodes.now c.args.classes.now in
    let i = c.loop-frame.invariant in
    let l = slots_length c.args.nodes.now c.args.classes.now in
    let a = last_within s c.loop-frame.walk c.pop.new.self c.in-Some.frame 0 i.walking c.in-Some.ensures in
    let e = slot_at_class c.args.nodes.now c.args.classes.now c.in-Some.frame.place (omega arith) in
    let m = i.walking.marks in
    let b = part_within s c.in-Some.frame.place c.in-Some.frame.next c.in-Some-part_at.child (graph_slots c.args.nodes.now c.args.classes.now c.requires.well) a
    (ap (λ x. slice_get (refs x) c.in-Some.frame.next) e ∙ sym c.in-Some-part_at.ensures.part) in
    omega arith

pub loop-frame-smaller-in_ok-open-in-New : goal.loop-frame-smaller-in_ok-open-in-New
loop-frame-smaller-in_ok-open-in-New c =
    let s = slots_of c.args.nodes.now c.args.classes.now in
    let i = c.loop-frame.invariant in
    let l = slots_length c.args.nodes.now c.args.classes.now in
    let a = last_within s c.loop-frame.walk c.pop.new.self c.in-Some.frame 0 i.walking c.in-Some.ensures in
    let e = slot_at_class c.args.nodes.now c.args.classes.now c.in-Some.frame.place (omega arith) in
    let b = part_within s c.in-Some.frame.place c.in-Some.frame.next c.in-Some-part_at.child (graph_slots c.args.nodes.now c.args.classes.now c.requires.well) a
    (ap (λ x. slice_get (refs x) c.in-Some.frame.next) e ∙ sym c.in-Some-part_at.ensures.part) in
    let p = c.in_ok-push-in-New.ensures.ok ∙ sym c.in-Some.ensures in
    subst (λ x. left s c.open.new.walk < left s (record { marks = c.loop-frame.walk.marks; path = x; done = c.loop-frame.walk.done })) p
    (left_opens s (record { marks = c.loop-frame.walk.marks; path = c.push.new.self; done = c.loop-frame.walk.done }) c.open.new.walk c.in-Some-part_at.child i.walking.marks
    (sym c.mark_of.ensures ∙ c.in-New.is) b c.in_ok-open-in-New.ensures.opens)

pub loop-frame-preserved-in_ok-open-in-New : goal.loop-frame-preserved-in_ok-open-in-New
loop-frame-preserved-in_ok-open-in-New c =
    let s = slots_of c.args.nodes.now c.args.classes.now in
    let i = c.loop-frame.invariant in
    let l = slots_length c.args.nodes.now c.args.classes.now in
    let a = last_within s c.loop-frame.walk c.pop.new.self c.in-Some.frame 0 i.walking c.in-Some.ensures in
    let e = slot_at_class c.args.nodes.now c.args.classes.now c.in-Some.frame.place (omega arith) in
    let g = ap (λ x. slice_get (refs x) c.in-Some.frame.next) e ∙ sym c.in-Some-part_at.ensures.part in
    let b = part_within s c.in-Some.frame.place c.in-Some.frame.next c.in-Some-part_at.child (graph_slots c.args.nodes.now c.args.classes.now c.requires.well) a g in
    let p = c.in_ok-push-in-New.ensures.ok ∙ sym c.in-Some.ensures in
    let w : Walk = record { marks = c.loop-frame.walk.marks; path = c.push.new.self; done = c.loop-frame.walk.done } in
    record {
      walking = walk_opens s w c.open.new.walk c.in-Some-part_at.child
          (subst (λ x. Walking s (record { marks = c.loop-frame.walk.marks; path = x; done = c.loop-frame.walk.done })) (sym p) i.walking)
          (sym c.mark_of.ensures ∙ c.in-New.is) b
          (last_leads s c.push.new.self c.pop.new.self c.in-Some.frame c.in-Some-part_at.child c.in_ok-push-in-New.ensures.ok g)
          c.in_ok-open-in-New.ensures.opens;
      keeps = keeps_set c.args.walk.now.marks c.loop-frame.walk.marks c.open.new.walk.marks c.in-Some-part_at.child (Open (length c.push.new.self)) (let m = i.walking.marks in omega arith) (λ x. cc)
          c.in_ok-open-in-New.ensures.opens.marks i.keeps;
      notes = notes_trans c.args.walk.now.marks c.loop-frame.walk.marks c.open.new.walk.marks c.args.seen.now c.loop-frame.seen c.open.new.seen i.notes c.in_ok-open-in-New.ensures.notes;
    }

pub cycle-requires-clause-cycle : goal.cycle-requires-clause-cycle
cycle-requires-clause-cycle c =
    let s = slots_of c.args.nodes.now c.args.classes.now in
    let i = c.loop-frame.invariant in
    let l = slots_length c.args.nodes.now c.args.classes.now in
    let a = last_within s c.loop-frame.walk c.pop.new.self c.in-Some.frame 0 i.walking c.in-Some.ensures in
    let e = slot_at_class c.args.nodes.now c.args.classes.now c.in-Some.frame.place (omega arith) in
    let g = ap (λ x. slice_get (refs x) c.in-Some.frame.next) e ∙ sym c.in-Some-part_at.ensures.part in
    let b = part_within s c.in-Some.frame.place c.in-Some.frame.next c.in-Some-part_at.child (graph_slots c.args.nodes.now c.args.classes.now c.requires.well) a g in
    subst (λ p. IsCycle s p c.in-Open.depth) (sym (c.as_slice.ensures ∙ c.in_ok-push-in-Open.ensures.ok ∙ sym c.in-Some.ensures))
    (walk_cycles s c.loop-frame.walk c.pop.new.self c.in-Some.frame c.in-Some-part_at.child c.in-Open.depth i.walking c.in-Some.ensures g b (sym c.mark_of.ensures ∙ c.in-Open.is))

pub loop-frame-smaller : goal.loop-frame-smaller
loop-frame-smaller c =
    let s = slots_of c.args.nodes.now c.args.classes.now in
    let i = c.loop-frame.invariant in
    let l = slots_length c.args.nodes.now c.args.classes.now in
    let a = last_within s c.loop-frame.walk c.pop.new.self c.in-Some.frame 0 i.walking c.in-Some.ensures in
    let e = slot_at_class c.args.nodes.now c.args.classes.now c.in-Some.frame.place (omega arith) in
    let g = got (refs (slot_at s c.in-Some.frame.place)) c.in-Some.frame.next c.in-Some-part_at.child (ap (λ x. slice_get (refs x) c.in-Some.frame.next) e ∙ sym c.in-Some-part_at.ensures.part) in
    subst (λ x. left s (record { marks = c.loop-frame.walk.marks; path = x; done = c.loop-frame.walk.done }) < left s c.loop-frame.walk) (sym c.in_ok-push-in-Done.ensures.ok)
    (left_advances s c.loop-frame.walk c.pop.new.self c.in-Some.frame c.in-Some-part_at.child i.walking c.in-Some.ensures g.0)

pub loop-frame-preserved : goal.loop-frame-preserved
loop-frame-preserved c =
    let s = slots_of c.args.nodes.now c.args.classes.now in
    let i = c.loop-frame.invariant in
    let l = slots_length c.args.nodes.now c.args.classes.now in
    let a = last_within s c.loop-frame.walk c.pop.new.self c.in-Some.frame 0 i.walking c.in-Some.ensures in
    let e = slot_at_class c.args.nodes.now c.args.classes.now c.in-Some.frame.place (omega arith) in
    let g = ap (λ x. slice_get (refs x) c.in-Some.frame.next) e ∙ sym c.in-Some-part_at.ensures.part in
    let b = part_within s c.in-Some.frame.place c.in-Some.frame.next c.in-Some-part_at.child (graph_slots c.args.nodes.now c.args.classes.now c.requires.well) a g in
    let m = ap level_of (sym c.mark_of.ensures ∙ c.in-Done.is) in
    record {
      walking = subst (λ x. Walking s (record { marks = c.loop-frame.walk.marks; path = x; done = c.loop-frame.walk.done })) (sym c.in_ok-push-in-Done.ensures.ok)
          (walk_advances s c.loop-frame.walk c.pop.new.self c.in-Some.frame c.in-Some-part_at.child i.walking c.in-Some.ensures g (omega arith) b);
      keeps = i.keeps;
      notes = i.notes;
    }

pub loop-frame-init : goal.loop-frame-init
loop-frame-init c = record {
  walking = c.requires.walking;
  keeps = λ i h. h;
  notes = notes_same c.args.walk.now.marks c.args.seen.now;
}

pub returns-in_err-open-in-New-clause-notes : goal.returns-in_err-open-in-New-clause-notes
returns-in_err-open-in-New-clause-notes c =
    notes_trans c.args.walk.now.marks c.loop-frame.walk.marks c.open.new.walk.marks c.args.seen.now c.loop-frame.seen c.open.new.seen c.loop-frame.invariant.notes c.in_err-open-in-New.ensures.notes

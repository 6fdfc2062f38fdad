use Rattle.std.proofs.Common.{◌≡◌, ◌<◌, length, sym, ◌∙◌, ap, arith, get_or-set_same}
use Rattle.ae_types.specs.declared.cycles.Mark.TheVariants.{New, Open}
use Rattle.ae_types.specs.Inner.Graphs.{slots_of}
use Rattle.ae_types.specs.Inner.Walks.{mark_at}
use Rattle.ae_types.proofs.GraphLaws.{slots_length}
use Rattle.ae_types.proofs.WalkLaws.{keeps_set, notes_same, notes_trans, walk_opens}
use Rattle.ae_types.proofs.cycles.visit.Goals as goal

pub returns-then-place-classes-clause-ok : goal.returns-then-place-classes-clause-ok
returns-then-place-classes-clause-ok c =
    let l = slots_length c.args.nodes.now c.args.classes.now in
    record {
      descends = record { walking = c.requires.walking; path = c.requires.path; keeps = λ i h. h };
      seen = λ a. absurd (omega (arith, a, l, c.if-place-classes.true));
    }

pub returns-then-place-classes-clause-notes : goal.returns-then-place-classes-clause-notes
returns-then-place-classes-clause-notes c = notes_same c.args.walk.now.marks c.args.seen.now

pub mark_of-requires : goal.mark_of-requires
mark_of-requires c =
    let l = slots_length c.args.nodes.now c.args.classes.now in
    omega (arith, l, c.requires.walking.marks, c.if-place-classes.false)

pub open-requires : goal.open-requires
open-requires c =
    let l = slots_length c.args.nodes.now c.args.classes.now in
    omega (arith, l, c.requires.walking.marks, c.if-place-classes.false)

pub descend-requires-clause-walking : goal.descend-requires-clause-walking
descend-requires-clause-walking c =
    let s = slots_of c.args.nodes.now c.args.classes.now in
    let l = slots_length c.args.nodes.now c.args.classes.now in
    walk_opens s c.args.walk.now c.open.new.walk c.args.place c.requires.walking (sym c.mark_of.ensures ∙ c.in-New.is) (omega (arith, c.if-place-classes.false, l))
    (λ k e. absurd (let q = ap length c.requires.path in omega arith)) c.in_ok-open-in-New.ensures.opens

pub returns-in_ok-descend-in-New-clause-ok : goal.returns-in_ok-descend-in-New-clause-ok
returns-in_ok-descend-in-New-clause-ok c =
    let s = slots_of c.args.nodes.now c.args.classes.now in
    let l = slots_length c.args.nodes.now c.args.classes.now in
    let p : c.args.place < length s = omega (arith, c.if-place-classes.false, l) in
    let m = c.requires.walking.marks in
    let o = c.in_ok-open-in-New.ensures.opens in
    let d = c.in_ok-descend-in-New.ensures.ok in
    let w = c.args.walk.now in
    record {
      descends = record {
        walking = d.walking;
        path = d.path;
        keeps = λ i h. d.keeps i (keeps_set w.marks w.marks c.open.new.walk.marks c.args.place (Open (length w.path)) (omega (arith, m, p)) (λ x. cc) o.marks (λ k y. y) i h);
      };
      seen = λ a. d.keeps c.args.place (λ n. (let x : Open (length w.path) ≡ New = sym (get_or-set_same w.marks c.args.place (Open (length w.path)) New (omega (arith, m, p)))
          ∙ ap (λ ms. mark_at ms c.args.place) (sym o.marks) ∙ n in cc));
    }

pub returns-in_err-descend-in-New-clause-notes : goal.returns-in_err-descend-in-New-clause-notes
returns-in_err-descend-in-New-clause-notes c =
    notes_trans c.args.walk.now.marks c.open.new.walk.marks c.descend.new.walk.marks c.args.seen.now c.open.new.seen c.descend.new.seen c.in_ok-open-in-New.ensures.notes c.in_err-descend-in-New.ensures.notes

pub returns-in_ok-descend-in-New-clause-notes : goal.returns-in_ok-descend-in-New-clause-notes
returns-in_ok-descend-in-New-clause-notes c =
    notes_trans c.args.walk.now.marks c.open.new.walk.marks c.descend.new.walk.marks c.args.seen.now c.open.new.seen c.descend.new.seen c.in_ok-open-in-New.ensures.notes c.in_ok-descend-in-New.ensures.notes

pub returns-in_default-clause-ok : goal.returns-in_default-clause-ok
returns-in_default-clause-ok c = record {
  descends = record { walking = c.requires.walking; path = c.requires.path; keeps = λ i h. h };
  seen = λ a n. c.in_default.not-New (c.mark_of.ensures ∙ n);
}

pub returns-in_default-clause-notes : goal.returns-in_default-clause-notes
returns-in_default-clause-notes c = notes_same c.args.walk.now.marks c.args.seen.now

use Rattle.std.proofs.Common.{rules, ◌≡◌, ◌∙◌, sym, arith, false}
use Rattle.ae_explain.specs.Inner.Marks.{marked}
use Rattle.ae_explain.proofs.Marking.{one_kept_more, room_left}
use Rattle.ae_explain.proofs.marks.keep_place.Goals as goal

pub prove-unreachable-requires : goal.prove-unreachable-requires
prove-unreachable-requires c =
    let u : marked c.args.marks.now c.args.place ≡ false = search rules in
    let room = room_left c.args.trail.now.assigned c.args.marks.now c.args.level c.args.place c.requires.within c.requires.len u in
    absurd (omega (arith, room, c.requires.count, c.requires.len, c.if-prove.true))

pub returns-then-level_at-level-clause-count : goal.returns-then-level_at-level-clause-count
returns-then-level_at-level-clause-count c =
    let u : marked c.args.marks.now c.args.place ≡ false = search rules in
    omega (arith, c.requires.count, one_kept_more c.args.trail.now.assigned c.args.marks.now c.args.level c.args.place c.requires.within c.requires.len u (sym c.level_at.ensures ∙ c.if-level_at-level.true))

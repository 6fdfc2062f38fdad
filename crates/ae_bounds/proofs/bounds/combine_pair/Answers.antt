use Rattle.std.specs.Prelude.{Ok}
use Rattle.std.proofs.Common.{arith, ap, ◌∙◌}
use Rattle.ae_bounds.proofs.Closing.{extended_on, longer, pair_down, pair_more}
use Rattle.ae_bounds.proofs.Stopping.{stops_on}
use Rattle.ae_bounds.proofs.bounds.combine_pair.Goals as goal

pub combine_and_look-requires-2-clause-lower : goal.combine_and_look-requires-2-clause-lower
combine_and_look-requires-2-clause-lower c =
    let h = longer c.args.rows.now c.combine_and_look.new.rows c.args.journal.now.lines c.combine_and_look.new.journal.lines c.combine_and_look.ensures.extended in
    let p = c.requires.other in
    omega (arith, h, p)

pub combine_and_look-requires-2-clause-upper : goal.combine_and_look-requires-2-clause-upper
combine_and_look-requires-2-clause-upper c =
    let h = longer c.args.rows.now c.combine_and_look.new.rows c.args.journal.now.lines c.combine_and_look.new.journal.lines c.combine_and_look.ensures.extended in
    let p = c.requires.place in
    omega (arith, h, p)

pub combine_and_look-requires-2-clause-possible : goal.combine_and_look-requires-2-clause-possible
combine_and_look-requires-2-clause-possible c = c.in_ok-refuted.ensures.possible (ap Ok c.if-refuted.false)

pub returns-then-refuted-clause-refuted : goal.returns-then-refuted-clause-refuted
returns-then-refuted-clause-refuted c = λ e. c.in_ok-refuted.ensures.refuted (ap Ok c.if-refuted.true)

pub returns-clause-done : goal.returns-clause-done
returns-clause-done c = λ e.
    let one = c.combine_and_look.ensures in
    let two = c.combine_and_look-2.ensures in
    let rows = c.args.rows.now in
    let mid = c.combine_and_look.new.rows in
    let now = c.combine_and_look-2.new.rows in
    let ms = c.combine_and_look.new.journal.lines in (
      pair_more rows c.args.place c.args.other mid now ms c.combine_and_look-2.new.journal.lines two.extended (c.in_ok-refuted.ensures.done (ap Ok c.if-refuted.false)),
      pair_down rows mid c.args.journal.now.lines ms c.args.other c.args.place now one.extended (two.done e),
    )

pub returns-clause-stops : goal.returns-clause-stops
returns-clause-stops c =
    stops_on c.args.rows.now c.combine_and_look.new.rows c.combine_and_look-2.new.rows c.combine_and_look.new.journal.lines c.combine_and_look-2.new.journal.lines c.combine_and_look-2.ensures.extended
    c.combine_and_look.ensures.stops c.combine_and_look-2.ensures.stops

pub returns-clause-extended : goal.returns-clause-extended
returns-clause-extended c =
    extended_on c.args.rows.now c.args.journal.now.lines c.combine_and_look.new.rows c.combine_and_look.new.journal.lines c.combine_and_look-2.new.rows c.combine_and_look-2.new.journal.lines c.combine_and_look.ensures.extended
    c.combine_and_look-2.ensures.extended

pub returns-clause-limit : goal.returns-clause-limit
returns-clause-limit c = c.combine_and_look-2.ensures.limit ∙ c.combine_and_look.ensures.limit

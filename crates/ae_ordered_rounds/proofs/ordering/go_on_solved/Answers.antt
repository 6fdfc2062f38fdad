use Rattle.std.proofs.Common.{sym, subst}
use Rattle.ae_ordered_rounds.proofs.Rows.{rows_orderable}
use Rattle.ae_ordered_rounds.specs.Inner.Orderable.{AreOrderableRows}
use Rattle.ae_ordered_rounds.specs.Orders.{AreOrdersOf}
use Rattle.ae_propagation.specs.Settled.{last_level}
use Rattle.ae_ordered_rounds.proofs.ordering.go_on_solved.Goals as goal

pub point_or_meeting-requires-clause-between : goal.point_or_meeting-requires-clause-between
point_or_meeting-requires-clause-between v c = c.requires.between

pub point_or_meeting-requires-clause-is_open : goal.point_or_meeting-requires-clause-is_open
point_or_meeting-requires-clause-is_open v c = c.requires.is_open

pub point_or_meeting-requires-clause-inequal : goal.point_or_meeting-requires-clause-inequal
point_or_meeting-requires-clause-inequal v c = c.requires.inequal

pub point_or_meeting-requires-clause-point : goal.point_or_meeting-requires-clause-point
point_or_meeting-requires-clause-point v c = c.requires.solved.point c.in-Point.made c.in-Point.is

pub point_or_meeting-requires-clause-stand : goal.point_or_meeting-requires-clause-stand
point_or_meeting-requires-clause-stand v c = c.requires.solved.stand c.in-Point.made c.in-Point.is

pub point_or_meeting-requires-clause-orders : goal.point_or_meeting-requires-clause-orders
point_or_meeting-requires-clause-orders v c =
    let k = c.args.task in
    subst (AreOrdersOf k.problem.now k.goal c.args.search.now) (sym c.keep.ensures) c.requires.solved.orders

pub returns-in-Point-clause-comes : goal.returns-in-Point-clause-comes
returns-in-Point-clause-comes v c = c.point_or_meeting.ensures.comes

pub learn-requires-clause-between : goal.learn-requires-clause-between
learn-requires-clause-between v c = c.requires.between

pub learn-requires-clause-found : goal.learn-requires-clause-found
learn-requires-clause-found v c = c.requires.solved.contradiction c.in-Contradiction.explained c.in-Contradiction.is

pub returns-in-Contradiction-clause-comes : goal.returns-in-Contradiction-clause-comes
returns-in-Contradiction-clause-comes v c =
    let k = c.args.task in
    c.learn.ensures.comes c.keep.new.self (subst (AreOrdersOf k.problem.now k.goal c.args.search.now) (sym c.keep.ensures) c.requires.solved.orders)

pub remember_tight-requires-clause-between : goal.remember_tight-requires-clause-between
remember_tight-requires-clause-between v c = c.requires.between

pub remember_tight-requires-clause-is_open : goal.remember_tight-requires-clause-is_open
remember_tight-requires-clause-is_open v c = c.requires.is_open

pub remember_tight-requires-clause-rows : goal.remember_tight-requires-clause-rows
remember_tight-requires-clause-rows v c =
    let k = c.args.task in
    let o = c.args.search.now in
    subst (AreOrderableRows k.problem.now k.goal o) (sym c.as_slice.ensures)
    (rows_orderable k.problem.now k.goal k.generations o c.requires.between c.requires.is_open c.args.solved c.requires.solved c.requires.inequal
    (λ x told. c.trail_stands.ensures.may k.problem.now k.goal k.generations (last_level o.solver.propagation.trail) o.store o.blocks.opened o.lines.items o.journal.lines c.requires.between.searching x told)
    c.whole_rows_stand.ensures c.sides_are_kept.ensures c.sides_are_ordered.ensures c.sides_are_whole.ensures c.in-Tight.rows c.in-Tight.is)

pub remember_tight-requires-clause-orders : goal.remember_tight-requires-clause-orders
remember_tight-requires-clause-orders v c =
    let k = c.args.task in
    subst (AreOrdersOf k.problem.now k.goal c.args.search.now) (sym c.keep.ensures) c.requires.solved.orders

pub returns-in-Tight-clause-comes : goal.returns-in-Tight-clause-comes
returns-in-Tight-clause-comes v c = c.remember_tight.ensures.comes

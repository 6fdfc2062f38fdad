use Rattle.ae_ordered_rounds.proofs.Steps.{passed_on}
use Rattle.ae_theory.specs.declared.theory.Fail.TheVariants.{Memory}
use Rattle.ae_ordered_rounds.proofs.ordering.point_or_meeting.Goals as goal

pub meetings-requires-clause-fits : goal.meetings-requires-clause-fits
meetings-requires-clause-fits v c = c.requires.between.searching.alive.fits_store

pub meetings-requires-clause-complete : goal.meetings-requires-clause-complete
meetings-requires-clause-complete v c = c.requires.is_open.complete.0

pub returns-in_err-met-clause-comes : goal.returns-in_err-met-clause-comes
returns-in_err-met-clause-comes v c = passed_on c.args.task.problem.now c.args.task.goal c.args.task.generations c.args.search.now c.args.search.now c.args.orders.now c.from_residual.result
    (Memory c.in_err-met.field-0.0) c.from_residual.ensures.1 tt

pub point_or_met-requires-clause-between : goal.point_or_met-requires-clause-between
point_or_met-requires-clause-between v c = c.requires.between

pub point_or_met-requires-clause-is_open : goal.point_or_met-requires-clause-is_open
point_or_met-requires-clause-is_open v c = c.requires.is_open

pub point_or_met-requires-clause-inequal : goal.point_or_met-requires-clause-inequal
point_or_met-requires-clause-inequal v c = c.requires.inequal

pub point_or_met-requires-clause-orders : goal.point_or_met-requires-clause-orders
point_or_met-requires-clause-orders v c = c.requires.orders

pub point_or_met-requires-clause-point : goal.point_or_met-requires-clause-point
point_or_met-requires-clause-point v c = c.requires.point

pub point_or_met-requires-clause-stand : goal.point_or_met-requires-clause-stand
point_or_met-requires-clause-stand v c = c.requires.stand

pub returns-clause-comes : goal.returns-clause-comes
returns-clause-comes v c = c.point_or_met.ensures.comes

use Rattle.std.specs.Prelude.{List}
use Rattle.std.proofs.Common.{sym, subst}
use Rattle.ae_explain.specs.declared.trail.Assigned.{Assigned}
use Rattle.ae_ordered_rounds.proofs.Denied.{denied_orderable, met_ones}
use Rattle.ae_ordered_rounds.proofs.Steps.{passed_on}
use Rattle.ae_ordered_rounds.specs.Inner.Meeting.{IsMeeting}
use Rattle.ae_ordered_rounds.specs.Orders.{AreOrdersOf}
use Rattle.ae_theory.specs.declared.theory.Fail.TheVariants.{Memory}
use Rattle.ae_ordered_rounds.proofs.ordering.add_denied.Goals as goal

pub returns-in_err-found-clause-comes : goal.returns-in_err-found-clause-comes
returns-in_err-found-clause-comes v c = passed_on c.args.task.problem.now c.args.task.goal c.args.task.generations c.args.search.now c.args.search.now c.args.orders.now c.from_residual.result
    (Memory c.in_err-found.field-0.0) c.from_residual.ensures.1 tt

pub solve_round-requires-clause-between : goal.solve_round-requires-clause-between
solve_round-requires-clause-between v c = c.requires.between

pub solve_round-requires-clause-is_open : goal.solve_round-requires-clause-is_open
solve_round-requires-clause-is_open v c = c.requires.is_open

pub solve_round-requires-clause-served : goal.solve_round-requires-clause-served
solve_round-requires-clause-served v c = c.requires.served

pub solve_round-requires-clause-ordered : goal.solve_round-requires-clause-ordered
solve_round-requires-clause-ordered v c = c.requires.ordered

pub solve_round-requires-clause-orders : goal.solve_round-requires-clause-orders
solve_round-requires-clause-orders v c =
    let k = c.args.task in
    subst (AreOrdersOf k.problem.now k.goal c.args.search.now) (sym c.forget.ensures) c.requires.orders

pub solve_round-requires-clause-inequal : goal.solve_round-requires-clause-inequal
solve_round-requires-clause-inequal v c = c.requires.inequal

pub returns-in-None-clause-comes : goal.returns-in-None-clause-comes
returns-in-None-clause-comes v c = c.solve_round.ensures.comes

pub add_sides-requires-clause-between : goal.add_sides-requires-clause-between
add_sides-requires-clause-between v c = c.requires.between

pub add_sides-requires-clause-orderable : goal.add_sides-requires-clause-orderable
add_sides-requires-clause-orderable v c =
    let k = c.args.task in
    let o = c.args.search.now in
    let both = c.in-Some.both in
    let sig = k.problem.now.signature in
    let w = subst (λ (t : List Assigned). IsMeeting sig t both) c.trail.ensures (met_ones sig c.trail.result.now.assigned c.in_ok-found.found both c.in-Some.is c.in_ok-found.ensures) in
    denied_orderable k.problem.now k.goal k.generations o c.requires.between c.requires.is_open c.requires.inequal both w.0

pub add_sides-requires-clause-order_open : goal.add_sides-requires-clause-order_open
add_sides-requires-clause-order_open v c =
    let both = c.in-Some.both in
    let sig = c.args.task.problem.now.signature in
    (subst (λ (t : List Assigned). IsMeeting sig t both) c.trail.ensures (met_ones sig c.trail.result.now.assigned c.in_ok-found.found both c.in-Some.is c.in_ok-found.ensures)).1

pub returns-in-Some-clause-comes : goal.returns-in-Some-clause-comes
returns-in-Some-clause-comes v c = c.add_sides.ensures.comes c.args.orders.now c.requires.orders

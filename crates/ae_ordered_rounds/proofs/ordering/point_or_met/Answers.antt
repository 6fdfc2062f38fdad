use Rattle.std.specs.Prelude.{◌<◌, ◌^◌, List}
use Rattle.std.specs.List.{AllByRecursion}
use Rattle.std.proofs.Common.{arith, sym, subst}
use Rattle.ae_explain.specs.declared.trail.Assigned.{Assigned}
use Rattle.ae_journal.specs.declared.systems.PointAt.{PointAt}
use Rattle.ae_ordered_rounds.proofs.Denied.{denied_orderable, met_ones}
use Rattle.ae_ordered_rounds.proofs.Fractions.{points_stand}
use Rattle.ae_ordered_rounds.proofs.Steps.{passed_on, same_itself}
use Rattle.ae_ordered_rounds.specs.Inner.Meeting.{IsMeeting}
use Rattle.ae_ordered_rounds.specs.Orders.{AreOrdersOf}
use Rattle.ae_theory.specs.declared.theory.Fail.TheVariants.{Memory}
use Rattle.ae_ordered_rounds.proofs.ordering.point_or_met.Goals as goal

pub returns-in_err-found-clause-comes : goal.returns-in_err-found-clause-comes
returns-in_err-found-clause-comes v c = passed_on c.args.task.problem.now c.args.task.goal c.args.task.generations c.args.search.now c.args.search.now c.args.orders.now c.from_residual.result
    (Memory c.in_err-found.field-0.0) c.from_residual.ensures.1 tt

pub returns-in-None-clause-comes : goal.returns-in-None-clause-comes
returns-in-None-clause-comes v c = record {
  between = c.requires.between;
  is_open = c.requires.is_open;
  point = c.requires.point;
  orders = c.requires.orders;
  written = points_stand c.args.made (subst (AllByRecursion (λ (q : PointAt). q.name < 2 ^ 64)) c.as_slice-in-None.ensures c.names_fit.ensures) c.requires.stand;
  same = same_itself c.args.search.now;
  counted = omega arith;
}

pub add_sides-requires-clause-between : goal.add_sides-requires-clause-between
add_sides-requires-clause-between v c = c.requires.between

pub add_sides-requires-clause-orderable : goal.add_sides-requires-clause-orderable
add_sides-requires-clause-orderable v c =
    let k = c.args.task in
    let o = c.args.search.now in
    let both = c.in-Some.both in
    let sig = k.problem.now.signature in
    let w = subst (λ (t : List Assigned). IsMeeting sig t both) c.trail.ensures (met_ones sig c.trail.result.now.assigned c.in_ok-found.found both c.in-Some.is c.in_ok-found.ensures) in
    denied_orderable k.problem.now k.goal k.generations o c.requires.between c.requires.is_open c.requires.inequal both w.0

pub add_sides-requires-clause-order_open : goal.add_sides-requires-clause-order_open
add_sides-requires-clause-order_open v c =
    let both = c.in-Some.both in
    let sig = c.args.task.problem.now.signature in
    (subst (λ (t : List Assigned). IsMeeting sig t both) c.trail.ensures (met_ones sig c.trail.result.now.assigned c.in_ok-found.found both c.in-Some.is c.in_ok-found.ensures)).1

pub returns-in-Some-clause-comes : goal.returns-in-Some-clause-comes
returns-in-Some-clause-comes v c =
    let k = c.args.task in
    c.add_sides.ensures.comes c.remember.new.self (subst (AreOrdersOf k.problem.now k.goal c.args.search.now) (sym c.remember.ensures) c.requires.orders)

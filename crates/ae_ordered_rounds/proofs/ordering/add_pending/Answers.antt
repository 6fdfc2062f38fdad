use Rattle.std.specs.Prelude.{List}
use Rattle.std.proofs.Common.{subst}
use Rattle.ae_explain.specs.declared.trail.Assigned.{Assigned}
use Rattle.ae_ordered_rounds.proofs.Asking.{AreOpenIn, open_ones}
use Rattle.ae_ordered_rounds.proofs.Orderable.{literal_orderable}
use Rattle.ae_ordered_rounds.proofs.Steps.{passed_on}
use Rattle.ae_theory.specs.declared.theory.Fail.TheVariants.{Memory}
use Rattle.ae_ordered_rounds.proofs.ordering.add_pending.Goals as goal

pub returns-in_err-found-clause-comes : goal.returns-in_err-found-clause-comes
returns-in_err-found-clause-comes v c = passed_on c.args.task.problem.now c.args.task.goal c.args.task.generations c.args.search.now c.args.search.now c.args.orders.now c.from_residual.result
    (Memory c.in_err-found.field-0.0) c.from_residual.ensures.1 tt

pub add_denied-requires-clause-between : goal.add_denied-requires-clause-between
add_denied-requires-clause-between v c = c.requires.between

pub add_denied-requires-clause-is_open : goal.add_denied-requires-clause-is_open
add_denied-requires-clause-is_open v c = c.requires.is_open

pub add_denied-requires-clause-served : goal.add_denied-requires-clause-served
add_denied-requires-clause-served v c = c.requires.served

pub add_denied-requires-clause-ordered : goal.add_denied-requires-clause-ordered
add_denied-requires-clause-ordered v c = c.requires.ordered

pub add_denied-requires-clause-orders : goal.add_denied-requires-clause-orders
add_denied-requires-clause-orders v c = c.requires.orders

pub add_denied-requires-clause-inequal : goal.add_denied-requires-clause-inequal
add_denied-requires-clause-inequal v c = c.requires.inequal

pub returns-in-None-clause-comes : goal.returns-in-None-clause-comes
returns-in-None-clause-comes v c = c.add_denied.ensures.comes

pub add_sides-requires-clause-between : goal.add_sides-requires-clause-between
add_sides-requires-clause-between v c = c.requires.between

pub add_sides-requires-clause-orderable : goal.add_sides-requires-clause-orderable
add_sides-requires-clause-orderable v c =
    let k = c.args.task in
    let both = c.in-Some.both in
    let w = (subst (λ (t : List Assigned). AreOpenIn t both) c.trail.ensures (open_ones c.trail.result.now.assigned c.in_ok-found.found both c.in-Some.is c.in_ok-found.ensures)).0 in
    literal_orderable k.problem.now k.goal k.generations c.args.search.now c.requires.between c.requires.is_open w.literal both.right both.left w.strict w.holds w.is

pub add_sides-requires-clause-order_open : goal.add_sides-requires-clause-order_open
add_sides-requires-clause-order_open v c =
    let both = c.in-Some.both in
    (subst (λ (t : List Assigned). AreOpenIn t both) c.trail.ensures (open_ones c.trail.result.now.assigned c.in_ok-found.found both c.in-Some.is c.in_ok-found.ensures)).1

pub returns-in-Some-clause-comes : goal.returns-in-Some-clause-comes
returns-in-Some-clause-comes v c = c.add_sides.ensures.comes c.args.orders.now c.requires.orders

use Rattle.std.specs.Prelude.{List}
use Rattle.std.proofs.Common.{subst}
use Rattle.ae_explain.specs.declared.trail.Assigned.{Assigned}
use Rattle.ae_order_counts.specs.Counts.{IsOrderOpen}
use Rattle.ae_ordered_rounds.proofs.Asking.{where_false}
use Rattle.ae_ordered_rounds.proofs.Steps.{passed_on}
use Rattle.ae_theory.specs.declared.theory.Fail.TheVariants.{Memory}
use Rattle.ae_ordered_rounds.proofs.ordering.add_pair.Goals as goal

pub returns-in_err-ordered-clause-comes : goal.returns-in_err-ordered-clause-comes
returns-in_err-ordered-clause-comes v c = λ k h. passed_on c.args.task.problem.now c.args.task.goal c.args.task.generations c.args.search.now c.args.search.now k c.from_residual.result
    (Memory c.in_err-ordered.field-0.0) c.from_residual.ensures.1 tt

pub learn_strict-requires-clause-between : goal.learn_strict-requires-clause-between
learn_strict-requires-clause-between v c = c.requires.between

pub learn_strict-requires-clause-is_open : goal.learn_strict-requires-clause-is_open
learn_strict-requires-clause-is_open v c = c.requires.is_open

pub returns-then-ordered-clause-comes : goal.returns-then-ordered-clause-comes
returns-then-ordered-clause-comes v c k h = c.learn_strict.ensures.comes k h

pub add_sides-requires-clause-between : goal.add_sides-requires-clause-between
add_sides-requires-clause-between v c = c.requires.between

pub add_sides-requires-clause-orderable : goal.add_sides-requires-clause-orderable
add_sides-requires-clause-orderable v c = c.requires.orderable

pub add_sides-requires-clause-order_open : goal.add_sides-requires-clause-order_open
add_sides-requires-clause-order_open v c =
    subst (λ (t : List Assigned). IsOrderOpen t c.args.left.now c.args.right.now) c.trail.ensures (where_false _ _ c.in_ok-ordered.ordered c.if-ordered.false c.in_ok-ordered.ensures)

pub returns-clause-comes : goal.returns-clause-comes
returns-clause-comes v c k h = c.add_sides.ensures.comes k h

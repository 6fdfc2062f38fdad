use Rattle.std.specs.Prelude.{List, Option, MatchOption}
use Rattle.std.proofs.Common.{subst}
use Rattle.ae_explain.specs.declared.trail.Assigned.{Assigned}
use Rattle.ae_ordered_rounds.proofs.Orderable.{pair_orderable}
use Rattle.ae_ordered_rounds.proofs.Steps.{passed_on}
use Rattle.ae_solved_orders.specs.Passed.{AreOrdered}
use Rattle.ae_theory.specs.declared.theory.Fail.TheVariants.{Memory}
use Rattle.ae_unordered.specs.Unordered.{IsOpenPair}
use Rattle.ae_unordered.specs.declared.pairs.Pair.{Pair}
use Rattle.ae_ordered_rounds.proofs.ordering.order_round.Goals as goal

pub returns-in_err-found-clause-comes : goal.returns-in_err-found-clause-comes
returns-in_err-found-clause-comes v c = passed_on c.args.task.problem.now c.args.task.goal c.args.task.generations c.args.search.now c.args.search.now c.args.orders.now c.from_residual.result
    (Memory c.in_err-found.field-0.0) c.from_residual.ensures.1 tt

pub point_or_round-requires-clause-between : goal.point_or_round-requires-clause-between
point_or_round-requires-clause-between v c = c.requires.between

pub point_or_round-requires-clause-is_open : goal.point_or_round-requires-clause-is_open
point_or_round-requires-clause-is_open v c = c.requires.is_open

pub point_or_round-requires-clause-served : goal.point_or_round-requires-clause-served
point_or_round-requires-clause-served v c = c.requires.served

pub point_or_round-requires-clause-ordered : goal.point_or_round-requires-clause-ordered
point_or_round-requires-clause-ordered v c =
    subst AreOrdered c.trail.ensures
    (subst (λ (found : Option Pair). MatchOption found (AreOrdered c.trail.result.now.assigned) (IsOpenPair c.trail.result.now.assigned)) c.in-None.is c.in_ok-found.ensures)

pub point_or_round-requires-clause-orders : goal.point_or_round-requires-clause-orders
point_or_round-requires-clause-orders v c = c.requires.orders

pub add_pair-requires-clause-between : goal.add_pair-requires-clause-between
add_pair-requires-clause-between v c = c.requires.between

pub add_pair-requires-clause-is_open : goal.add_pair-requires-clause-is_open
add_pair-requires-clause-is_open v c = c.requires.is_open

pub add_pair-requires-clause-orderable : goal.add_pair-requires-clause-orderable
add_pair-requires-clause-orderable v c =
    let k = c.args.task in
    let pair = c.in-Some.pair in
    pair_orderable k.problem.now k.goal k.generations c.args.search.now c.requires.between c.requires.is_open pair.left pair.right
    (subst (λ (t : List Assigned). IsOpenPair t pair) c.trail.ensures
    (subst (λ (found : Option Pair). MatchOption found (AreOrdered c.trail.result.now.assigned) (IsOpenPair c.trail.result.now.assigned)) c.in-Some.is c.in_ok-found.ensures))

pub returns-in-None-clause-comes : goal.returns-in-None-clause-comes
returns-in-None-clause-comes v c = c.point_or_round.ensures.comes

pub returns-in-Some-clause-comes : goal.returns-in-Some-clause-comes
returns-in-Some-clause-comes v c = c.add_pair.ensures.comes c.args.orders.now c.requires.orders

use Rattle.std.specs.Prelude.{Err}
use Rattle.std.proofs.Common.{sym, ap, ◌∙◌, subst}
use Rattle.ae_ordered_rounds.proofs.Solving.{is_solved}
use Rattle.ae_ordered_rounds.proofs.Steps.{failed_by, later, more_counted}
use Rattle.ae_ordered_rounds.proofs.Stopping.{stopped_between}
use Rattle.ae_ordered_rounds.specs.Inner.Orderable.{HasInequality}
use Rattle.ae_solved_orders.specs.Passed.{AreOrdersOf}
use Rattle.ae_theory.specs.declared.theory.Fail.{Fail}
use Rattle.ae_ordered_rounds.proofs.ordering.solve_round.Goals as goal

pub solve_orders-requires-clause-between : goal.solve_orders-requires-clause-between
solve_orders-requires-clause-between v c = c.requires.between

pub solve_orders-requires-clause-is_open : goal.solve_orders-requires-clause-is_open
solve_orders-requires-clause-is_open v c = c.requires.is_open

pub solve_orders-requires-clause-served : goal.solve_orders-requires-clause-served
solve_orders-requires-clause-served v c = c.requires.served

pub solve_orders-requires-clause-ordered : goal.solve_orders-requires-clause-ordered
solve_orders-requires-clause-ordered v c = c.requires.ordered

pub solve_orders-requires-clause-orders : goal.solve_orders-requires-clause-orders
solve_orders-requires-clause-orders v c = subst (AreOrdersOf c.args.task.problem.now c.args.task.goal c.args.search.now) (sym c.take-kept.ensures) c.requires.orders

pub go_on_solved-requires-clause-between : goal.go_on_solved-requires-clause-between
go_on_solved-requires-clause-between v c = c.solve_orders.ensures.between

pub go_on_solved-requires-clause-is_open : goal.go_on_solved-requires-clause-is_open
go_on_solved-requires-clause-is_open v c = c.solve_orders.ensures.is_open

pub go_on_solved-requires-clause-solved : goal.go_on_solved-requires-clause-solved
go_on_solved-requires-clause-solved v c =
    let e = c.solve_orders.ensures in
    is_solved c.args.task.problem.now c.args.task.goal c.args.search.now c.solve_orders.new.search e.same c.in-Ok.solved c.in-Ok.ensures.lines c.in-Ok.ensures.orders
    (λ made i. e.point c.in-Ok.solved made c.in-Ok.is i) (λ made i. e.stand c.in-Ok.solved made c.in-Ok.is i) (λ x i. e.contradiction c.in-Ok.solved x c.in-Ok.is i) (λ x i. e.built c.in-Ok.solved x c.in-Ok.is i) (λ rows i. e.tight c.in-Ok.solved rows c.in-Ok.is i)

pub go_on_solved-requires-clause-inequal : goal.go_on_solved-requires-clause-inequal
go_on_solved-requires-clause-inequal v c = subst HasInequality (sym (ap (λ w. w.propagation.trail) c.solve_orders.ensures.same.solver)) c.requires.inequal

pub returns-in-Ok-clause-comes : goal.returns-in-Ok-clause-comes
returns-in-Ok-clause-comes v c =
    let k = c.args.task in
    later k.problem.now k.goal k.generations c.args.search.now c.solve_orders.new.search c.go_on_solved.new.search c.go_on_solved.new.orders c.go_on_solved.result c.solve_orders.ensures.same
    (more_counted c.args.search.now.journal.lines c.solve_orders.new.search.journal.lines c.solve_orders.ensures.combines.0 c.solve_orders.ensures.combines.1) c.go_on_solved.ensures.comes

pub returns-in-Ok-clause-limit : goal.returns-in-Ok-clause-limit
returns-in-Ok-clause-limit v c = c.go_on_solved.ensures.limit ∙ c.solve_orders.ensures.limit

pub returns-in-Err-clause-comes : goal.returns-in-Err-clause-comes
returns-in-Err-clause-comes v c =
    let k = c.args.task in
    let e = c.solve_orders.ensures in
    let n = c.solve_orders.new.search in
    let stopped = stopped_between k.problem.now k.goal k.generations n e.between in
    failed_by k.problem.now k.goal k.generations c.args.search.now n c.take-kept.new.self c.in-Err.fail (λ i. (stopped, e.steps (c.in-Err.is ∙ ap (λ (f : Fail). Err f) i)))
    (λ wide i. (stopped, e.number wide (c.in-Err.is ∙ ap (λ (f : Fail). Err f) i)))

pub returns-in-Err-clause-limit : goal.returns-in-Err-clause-limit
returns-in-Err-clause-limit v c = c.solve_orders.ensures.limit

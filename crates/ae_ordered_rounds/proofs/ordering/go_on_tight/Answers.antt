use Rattle.std.specs.Prelude.{Option, IfSome}
use Rattle.std.proofs.Common.{subst}
use Rattle.ae_ordered_rounds.proofs.Steps.{passed_on}
use Rattle.ae_strict_rows.specs.Found.{IsFoundIn}
use Rattle.ae_theory.specs.declared.theory.Explained.{Explained}
use Rattle.ae_theory.specs.declared.theory.Fail.TheVariants.{Memory}
use Rattle.ae_ordered_rounds.proofs.ordering.go_on_tight.Goals as goal

pub strict_found-requires-clause-between : goal.strict_found-requires-clause-between
strict_found-requires-clause-between v c = c.requires.between

pub strict_found-requires-clause-is_open : goal.strict_found-requires-clause-is_open
strict_found-requires-clause-is_open v c = c.requires.is_open

pub strict_found-requires-clause-fine : goal.strict_found-requires-clause-fine
strict_found-requires-clause-fine v c = c.requires.rows.fine

pub returns-in_err-found-clause-comes : goal.returns-in_err-found-clause-comes
returns-in_err-found-clause-comes v c = λ k h. passed_on c.args.task.problem.now c.args.task.goal c.args.task.generations c.args.search.now c.args.search.now k c.from_residual.result
    (Memory c.in_err-found.field-0.0) c.from_residual.ensures.1 tt

pub add_unordered-requires-clause-between : goal.add_unordered-requires-clause-between
add_unordered-requires-clause-between v c = c.requires.between

pub add_unordered-requires-clause-rows : goal.add_unordered-requires-clause-rows
add_unordered-requires-clause-rows v c = c.requires.rows

pub add_unordered-requires-clause-is_open : goal.add_unordered-requires-clause-is_open
add_unordered-requires-clause-is_open v c = c.requires.is_open

pub returns-in-None-clause-comes : goal.returns-in-None-clause-comes
returns-in-None-clause-comes v c k h = c.add_unordered.ensures.comes k h

pub learn-requires-clause-between : goal.learn-requires-clause-between
learn-requires-clause-between v c = c.requires.between

pub learn-requires-clause-found : goal.learn-requires-clause-found
learn-requires-clause-found v c =
    let o = c.args.search.now in
    subst (λ (found : Option Explained). IfSome found (IsFoundIn o.store o.solver.propagation.trail)) c.in-Some.is c.in_ok-found.ensures

pub returns-in-Some-clause-comes : goal.returns-in-Some-clause-comes
returns-in-Some-clause-comes v c k h = c.learn.ensures.comes k h

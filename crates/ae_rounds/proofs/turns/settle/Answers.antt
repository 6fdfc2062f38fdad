use Rattle.std.specs.Prelude.{Ok, Result}
use Rattle.std.proofs.Common.{ap, ◌∙◌, subst, arith}
use Rattle.ae_rounds.proofs.Failing.{passed_on}
use Rattle.ae_rounds.proofs.Turning.{turn_from}
use Rattle.ae_rounds.specs.Ended.{HasRun}
use Rattle.ae_rounds.specs.Turns.{HasTurned}
use Rattle.ae_rounds.specs.declared.progress.Progress.{Progress}
use Rattle.ae_sat.specs.declared.run.SatEnd.{SatEnd}
use Rattle.ae_theory.specs.declared.theory.Fail.{Fail}
use Rattle.ae_rounds.proofs.turns.settle.Goals as goal

pub run_solver-requires : goal.run_solver-requires
run_solver-requires g c = record { between = c.requires.between }

pub returns-in_err-run_solver : goal.returns-in_err-run_solver
returns-in_err-run_solver g c = record {
  turned = λ first known was same stepped.
      passed_on (λ (r : Result Progress Fail). HasTurned c.args.task.problem.now c.args.task.goal c.args.task.generations first c.run_solver.new.search c.args.orders.now r) c.from_residual.result
      c.in_err-run_solver.field-0.0 c.from_residual.ensures.1
      (subst (λ (r : Result SatEnd Fail). HasRun c.args.task.problem.now c.args.task.goal c.args.task.generations c.args.search.now c.run_solver.new.search r) c.in_err-run_solver.was c.run_solver.ensures.run);
  limit = c.run_solver.ensures.limit;
}

pub returns-in-Refuted : goal.returns-in-Refuted
returns-in-Refuted g c = record {
  turned = λ first known was same stepped.
      subst (λ (r : Result SatEnd Fail). HasRun c.args.task.problem.now c.args.task.goal c.args.task.generations c.args.search.now c.run_solver.new.search r)
      (c.in_ok-run_solver.was ∙ ap (λ (x : SatEnd). Ok x) c.in-Refuted.is) c.run_solver.ensures.run;
  limit = c.run_solver.ensures.limit;
}

pub returns-in-Open : goal.returns-in-Open
returns-in-Open g c =
    let p = c.args.task.problem.now in
    let k = c.args.task.goal in
    let b = c.args.task.generations in
    let new = c.run_solver.new.search in
    let w = subst (λ (r : Result SatEnd Fail). HasRun p k b c.args.search.now new r) (c.in_ok-run_solver.was ∙ ap (λ (x : SatEnd). Ok x) c.in-Open.is) c.run_solver.ensures.run in
    record {
      turned = λ first known was same stepped.
          turn_from p k b first c.args.search.now new known c.args.orders.now was w c.args.added c.added_since-now.result c.args.orders.now stepped
          (c.orders_stay.ensures p k c.args.search.now new c.args.orders.now w.passes stepped.orders) (λ lt. c.added_since-now.ensures.lines (omega (arith, lt, same)))
          (λ ge. c.added_since-now.ensures.same (omega (arith, ge, same)));
      limit = c.run_solver.ensures.limit;
    }

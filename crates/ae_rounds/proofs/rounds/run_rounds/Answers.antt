use Rattle.std.specs.Prelude.{Ok, Result}
use Rattle.std.proofs.Common.{ap, ◌∙◌, subst}
use Rattle.ae_rounds.proofs.Failing.{passed_on}
use Rattle.ae_rounds.specs.Ended.{HasEnded, HasRun}
use Rattle.ae_rounds.specs.declared.progress.End.{End}
use Rattle.ae_sat.specs.declared.run.SatEnd.{SatEnd}
use Rattle.ae_theory.specs.declared.theory.Fail.{Fail}
use Rattle.ae_rounds.proofs.rounds.run_rounds.Goals as goal

pub run_solver-requires : goal.run_solver-requires
run_solver-requires g c = record { between = c.requires.between }

pub returns-in_err-run_solver : goal.returns-in_err-run_solver
returns-in_err-run_solver g c = record {
  ended = passed_on (λ (r : Result End Fail). HasEnded c.args.task.problem.now c.args.task.goal c.args.task.generations c.run_solver.new.search r) c.from_residual.result c.in_err-run_solver.field-0.0
      c.from_residual.ensures.1
      (subst (λ (r : Result SatEnd Fail). HasRun c.args.task.problem.now c.args.task.goal c.args.task.generations c.args.search.now c.run_solver.new.search r) c.in_err-run_solver.was c.run_solver.ensures.run);
  limit = c.run_solver.ensures.limit;
}

pub returns-in-Refuted : goal.returns-in-Refuted
returns-in-Refuted g c = record {
  ended = subst (λ (r : Result SatEnd Fail). HasRun c.args.task.problem.now c.args.task.goal c.args.task.generations c.args.search.now c.run_solver.new.search r)
      (c.in_ok-run_solver.was ∙ ap (λ (x : SatEnd). Ok x) c.in-Refuted.is) c.run_solver.ensures.run;
  limit = c.run_solver.ensures.limit;
}

pub run_turns-requires : goal.run_turns-requires
run_turns-requires g c =
    let p = c.args.task.problem.now in
    let k = c.args.task.goal in
    let b = c.args.task.generations in
    let new = c.run_solver.new.search in
    let w = subst (λ (r : Result SatEnd Fail). HasRun p k b c.args.search.now new r) (c.in_ok-run_solver.was ∙ ap (λ (x : SatEnd). Ok x) c.in-Open.is) c.run_solver.ensures.run in
    record {
      lawful = c.requires.lawful;
      turns = record { between = w.between; is_open = w.is_open; orders = c.orders_stay.ensures p k c.args.search.now new c.args.orders.now w.passes c.requires.orders };
      limit = c.run_solver.ensures.limit ∙ c.requires.limit;
    }

pub returns-in-Open : goal.returns-in-Open
returns-in-Open g c = record { ended = c.run_turns.ensures.ended; limit = c.run_turns.ensures.limit ∙ c.run_solver.ensures.limit }

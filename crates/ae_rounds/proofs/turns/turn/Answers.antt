use Rattle.std.specs.Prelude.{Ok, Result}
use Rattle.std.proofs.Common.{ap, ◌∙◌, subst}
use Rattle.ae_rounds.proofs.Failing.{passed_on}
use Rattle.ae_rounds.specs.Turns.{HasStepped, HasTurned}
use Rattle.ae_rounds.specs.declared.progress.Progress.{Progress}
use Rattle.ae_theory.specs.declared.theory.Fail.{Fail}
use Rattle.ae_rounds.proofs.turns.turn.Goals as goal

pub step-requires : goal.step-requires
step-requires g c = record { lawful = c.requires.lawful; turns = c.requires.turns; limit = c.requires.limit }

pub returns-in_err-end : goal.returns-in_err-end
returns-in_err-end g c = record {
  turned = passed_on (λ (r : Result Progress Fail). HasTurned c.args.task.problem.now c.args.task.goal c.args.task.generations c.args.search.now c.step.new.search c.step.new.orders r) c.from_residual.result
      c.in_err-end.field-0.0 c.from_residual.ensures.1
      (subst (λ (r : Result Progress Fail). HasStepped c.args.task.problem.now c.args.task.goal c.args.task.generations c.args.search.now c.step.new.search c.step.new.orders r) c.in_err-end.was c.step.ensures.stepped);
  limit = c.step.ensures.limit;
}

pub returns-in-Ended : goal.returns-in-Ended
returns-in-Ended g c = record {
  turned = subst (λ (r : Result Progress Fail). HasStepped c.args.task.problem.now c.args.task.goal c.args.task.generations c.args.search.now c.step.new.search c.step.new.orders r)
      (c.in_ok-end.was ∙ ap (λ (x : Progress). Ok x) c.in-Ended.is) c.step.ensures.stepped;
  limit = c.step.ensures.limit;
}

pub settle-requires : goal.settle-requires
settle-requires g c =
    let w = subst (λ (r : Result Progress Fail). HasStepped c.args.task.problem.now c.args.task.goal c.args.task.generations c.args.search.now c.step.new.search c.step.new.orders r)
    (c.in_ok-end.was ∙ ap (λ (x : Progress). Ok x) c.in-Added.is) c.step.ensures.stepped in
    record { between = w.between }

pub returns-in-Added : goal.returns-in-Added
returns-in-Added g c =
    let w = subst (λ (r : Result Progress Fail). HasStepped c.args.task.problem.now c.args.task.goal c.args.task.generations c.args.search.now c.step.new.search c.step.new.orders r)
    (c.in_ok-end.was ∙ ap (λ (x : Progress). Ok x) c.in-Added.is) c.step.ensures.stepped in
    record { turned = c.settle.ensures.turned c.args.search.now c.args.orders.now c.requires.turns c.counted-before.ensures.count w; limit = c.settle.ensures.limit ∙ c.step.ensures.limit }

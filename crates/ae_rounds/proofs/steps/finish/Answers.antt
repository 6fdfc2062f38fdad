use Rattle.std.specs.Prelude.{Bool, Ok, Result}
use Rattle.std.proofs.Common.{ap, ◌∙◌, subst}
use Rattle.ae_rounds.proofs.Failing.{passed_on}
use Rattle.ae_rounds.proofs.Stepping.{settled_from}
use Rattle.ae_rounds.specs.Ended.{HasMade}
use Rattle.ae_rounds.specs.Turns.{HasFinished}
use Rattle.ae_rounds.specs.declared.progress.Progress.{Progress}
use Rattle.ae_theory.specs.declared.theory.Fail.{Fail}
use Rattle.ae_rounds.proofs.steps.finish.Goals as goal

pub instantiate-requires : goal.instantiate-requires
instantiate-requires g c = record { lawful = c.requires.lawful; between = c.requires.between; limit = c.requires.limit; is_open = c.requires.is_open }

pub returns-in_err-instantiate : goal.returns-in_err-instantiate
returns-in_err-instantiate g c = record {
  finished = λ known h. passed_on (λ (r : Result Progress Fail). HasFinished c.args.task.problem.now c.args.task.goal c.args.task.generations c.args.search.now c.instantiate.new.search known r)
      c.from_residual.result c.in_err-instantiate.field-0.0 c.from_residual.ensures.1
      (subst (λ (r : Result Bool Fail). HasMade c.args.task.problem.now c.args.task.goal c.args.task.generations c.args.search.now c.instantiate.new.search r) c.in_err-instantiate.was c.instantiate.ensures.made);
  limit = c.instantiate.ensures.limit;
}

pub returns-then-branch : goal.returns-then-branch
returns-then-branch g c =
    let p = c.args.task.problem.now in
    let k = c.args.task.goal in
    let b = c.args.task.generations in
    let m = subst (λ (r : Result Bool Fail). HasMade p k b c.args.search.now c.instantiate.new.search r) (c.in_ok-instantiate.was ∙ ap (λ (x : Bool). Ok x) c.if-branch.true) c.instantiate.ensures.made in
    record {
      finished = λ known h. record { between = m.0; orders = c.orders_stay.ensures p k c.args.search.now c.instantiate.new.search known m.2 h; lines = m.1; added = m.3 };
      limit = c.instantiate.ensures.limit;
    }

pub returns-else-branch : goal.returns-else-branch
returns-else-branch g c =
    let p = c.args.task.problem.now in
    let k = c.args.task.goal in
    let b = c.args.task.generations in
    let m = subst (λ (r : Result Bool Fail). HasMade p k b c.args.search.now c.instantiate.new.search r) (c.in_ok-instantiate.was ∙ ap (λ (x : Bool). Ok x) c.if-branch.false) c.instantiate.ensures.made in
    record {
      finished = λ known h. settled_from p k b c.args.search.now c.instantiate.new.search c.args.point c.requires.served c.requires.point c.requires.written m;
      limit = c.instantiate.ensures.limit;
    }

use Rattle.std.specs.Prelude.{Ok, Option, Result}
use Rattle.std.proofs.Common.{refl, ap, ◌∙◌, subst, arith, inl, inr}
use Rattle.ae_rounds.proofs.Failing.{passed_on}
use Rattle.ae_rounds.specs.Turns.{HasGoneOn, HasTurned}
use Rattle.ae_rounds.specs.declared.progress.Added.{Added}
use Rattle.ae_rounds.specs.declared.progress.End.{End}
use Rattle.ae_rounds.specs.declared.progress.Progress.{Progress}
use Rattle.ae_rounds.specs.declared.progress.Progress.TheVariants as progress
use Rattle.ae_theory.specs.declared.theory.Fail.{Fail}
use Rattle.ae_rounds.proofs.turns.turns_of_orders.Goals as goal

pub orders-init : goal.orders-init
orders-init g c = record { turns = c.requires.turns; limit = refl; as_many = refl; no_more = omega arith }

pub turn-requires : goal.turn-requires
turn-requires g c = record { lawful = c.requires.lawful; turns = c.orders.invariant.turns; limit = c.orders.invariant.limit ∙ c.requires.limit }

pub returns-in_err-end : goal.returns-in_err-end
returns-in_err-end g c = record {
  gone_on = passed_on (λ (r : Result (Option End) Fail). HasGoneOn c.args.task.problem.now c.args.task.goal c.args.task.generations c.args.search.now c.turn.new.search c.turn.new.orders r) c.from_residual.result
      c.in_err-end.field-0.0 c.from_residual.ensures.1
      (subst (λ (r : Result Progress Fail). HasTurned c.args.task.problem.now c.args.task.goal c.args.task.generations c.orders.search c.turn.new.search c.turn.new.orders r) c.in_err-end.was c.turn.ensures.turned);
  limit = c.turn.ensures.limit ∙ c.orders.invariant.limit;
}

pub returns-in-Ended : goal.returns-in-Ended
returns-in-Ended g c = record {
  gone_on = subst (λ (r : Result Progress Fail). HasTurned c.args.task.problem.now c.args.task.goal c.args.task.generations c.orders.search c.turn.new.search c.turn.new.orders r)
      (c.in_ok-end.was ∙ ap (λ (x : Progress). Ok x) c.in-Ended.is) c.turn.ensures.turned;
  limit = c.turn.ensures.limit ∙ c.orders.invariant.limit;
}

pub returns-in-Lines : goal.returns-in-Lines
returns-in-Lines g c =
    let w = subst (λ (r : Result Progress Fail). HasTurned c.args.task.problem.now c.args.task.goal c.args.task.generations c.orders.search c.turn.new.search c.turn.new.orders r)
    (c.in_ok-end.was ∙ ap (λ (x : Progress). Ok x) (c.in-Added.is ∙ ap (λ (x : Added). progress.Added x) c.in-Lines.is)) c.turn.ensures.turned in
    let more = w.advanced in
    let same = c.orders.invariant.as_many in
    record { gone_on = (w.turns, inl (omega (arith, more, same))); limit = c.turn.ensures.limit ∙ c.orders.invariant.limit }

pub returns-in-Blocks : goal.returns-in-Blocks
returns-in-Blocks g c =
    let w = subst (λ (r : Result Progress Fail). HasTurned c.args.task.problem.now c.args.task.goal c.args.task.generations c.orders.search c.turn.new.search c.turn.new.orders r)
    (c.in_ok-end.was ∙ ap (λ (x : Progress). Ok x) (c.in-Added.is ∙ ap (λ (x : Added). progress.Added x) c.in-Blocks.is)) c.turn.ensures.turned in
    let fewer = w.advanced.1 in
    let within = c.orders.invariant.no_more in
    record { gone_on = (w.turns, inr (w.advanced.0 ∙ c.orders.invariant.as_many, omega (arith, fewer, within))); limit = c.turn.ensures.limit ∙ c.orders.invariant.limit }

pub orders-preserved : goal.orders-preserved
orders-preserved g c =
    let w = subst (λ (r : Result Progress Fail). HasTurned c.args.task.problem.now c.args.task.goal c.args.task.generations c.orders.search c.turn.new.search c.turn.new.orders r)
    (c.in_ok-end.was ∙ ap (λ (x : Progress). Ok x) (c.in-Added.is ∙ ap (λ (x : Added). progress.Added x) c.in-Order.is)) c.turn.ensures.turned in
    let fewer = w.advanced.1 in
    let within = c.orders.invariant.no_more in
    record { turns = w.turns; limit = c.turn.ensures.limit ∙ c.orders.invariant.limit; as_many = w.advanced.0 ∙ c.orders.invariant.as_many; no_more = omega (arith, fewer, within) }

pub orders-smaller : goal.orders-smaller
orders-smaller g c =
    let w = subst (λ (r : Result Progress Fail). HasTurned c.args.task.problem.now c.args.task.goal c.args.task.generations c.orders.search c.turn.new.search c.turn.new.orders r)
    (c.in_ok-end.was ∙ ap (λ (x : Progress). Ok x) (c.in-Added.is ∙ ap (λ (x : Added). progress.Added x) c.in-Order.is)) c.turn.ensures.turned in
    w.advanced.2

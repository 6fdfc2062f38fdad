use Rattle.std.specs.Prelude.{Ok, Option, Result}
use Rattle.std.proofs.Common.{refl, ap, ◌∙◌, subst, arith}
use Rattle.ae_rounds.proofs.Failing.{passed_on}
use Rattle.ae_rounds.specs.Ended.{HasEnded}
use Rattle.ae_rounds.specs.Turns.{HasCounted}
use Rattle.ae_rounds.specs.declared.progress.End.{End}
use Rattle.ae_theory.specs.declared.theory.Fail.{Fail}
use Rattle.ae_rounds.proofs.turns.run_turns.Goals as goal

pub counting-init : goal.counting-init
counting-init g c = record { turns = c.requires.turns; limit = refl }

pub turns_of_blocks-requires : goal.turns_of_blocks-requires
turns_of_blocks-requires g c = record { lawful = c.requires.lawful; turns = c.counting.invariant.turns; limit = c.counting.invariant.limit ∙ c.requires.limit }

pub returns-in_err-ended : goal.returns-in_err-ended
returns-in_err-ended g c = record {
  ended = passed_on (λ (r : Result End Fail). HasEnded c.args.task.problem.now c.args.task.goal c.args.task.generations c.turns_of_blocks.new.search r) c.from_residual.result
      c.in_err-ended.field-0.0 c.from_residual.ensures.1
      (subst (λ (r : Result (Option End) Fail). HasCounted c.args.task.problem.now c.args.task.goal c.args.task.generations c.counting.search c.turns_of_blocks.new.search c.turns_of_blocks.new.orders r) c.in_err-ended.was
      c.turns_of_blocks.ensures.counted);
  limit = c.turns_of_blocks.ensures.limit ∙ c.counting.invariant.limit;
}

pub returns-in-Some : goal.returns-in-Some
returns-in-Some g c = record {
  ended = subst (λ (r : Result (Option End) Fail). HasCounted c.args.task.problem.now c.args.task.goal c.args.task.generations c.counting.search c.turns_of_blocks.new.search c.turns_of_blocks.new.orders r)
      (c.in_ok-ended.was ∙ ap (λ (x : Option End). Ok x) c.in-Some.is) c.turns_of_blocks.ensures.counted;
  limit = c.turns_of_blocks.ensures.limit ∙ c.counting.invariant.limit;
}

pub counting-preserved : goal.counting-preserved
counting-preserved g c =
    let w = subst (λ (r : Result (Option End) Fail). HasCounted c.args.task.problem.now c.args.task.goal c.args.task.generations c.counting.search c.turns_of_blocks.new.search c.turns_of_blocks.new.orders r)
    (c.in_ok-ended.was ∙ ap (λ (x : Option End). Ok x) c.in-None.is) c.turns_of_blocks.ensures.counted in
    record { turns = w.0; limit = c.turns_of_blocks.ensures.limit ∙ c.counting.invariant.limit }

pub counting-smaller : goal.counting-smaller
counting-smaller g c =
    let w = subst (λ (r : Result (Option End) Fail). HasCounted c.args.task.problem.now c.args.task.goal c.args.task.generations c.counting.search c.turns_of_blocks.new.search c.turns_of_blocks.new.orders r)
    (c.in_ok-ended.was ∙ ap (λ (x : Option End). Ok x) c.in-None.is) c.turns_of_blocks.ensures.counted in
    let more = w.1 in
    omega (arith, more, c.turns_of_blocks.ensures.limit, c.counted-counted.ensures.count, c.counted-counted.ensures.within)

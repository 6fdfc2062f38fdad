use Rattle.std.specs.Prelude.{◌<◌, Ok, Option, Result}
use Rattle.std.proofs.Common.{refl, ap, ◌∙◌, subst, arith}
use Rattle.ae_rounds.proofs.Failing.{passed_on}
use Rattle.ae_rounds.proofs.Turning.{fewer_quantifiers}
use Rattle.ae_rounds.specs.Turns.{counted, quantifiers_to_open, HasCounted, HasGoneOn}
use Rattle.ae_rounds.specs.declared.progress.End.{End}
use Rattle.ae_theory.specs.declared.theory.Fail.{Fail}
use Rattle.ae_rounds.proofs.turns.turns_of_blocks.Goals as goal

pub openings-init : goal.openings-init
openings-init g c = record { turns = c.requires.turns; limit = refl; as_many = refl }

pub turns_of_orders-requires : goal.turns_of_orders-requires
turns_of_orders-requires g c = record { lawful = c.requires.lawful; turns = c.openings.invariant.turns; limit = c.openings.invariant.limit ∙ c.requires.limit }

pub returns-in_err-ended : goal.returns-in_err-ended
returns-in_err-ended g c = record {
  counted = passed_on (λ (r : Result (Option End) Fail). HasCounted c.args.task.problem.now c.args.task.goal c.args.task.generations c.args.search.now c.turns_of_orders.new.search c.turns_of_orders.new.orders r)
      c.from_residual.result c.in_err-ended.field-0.0 c.from_residual.ensures.1
      (subst (λ (r : Result (Option End) Fail). HasGoneOn c.args.task.problem.now c.args.task.goal c.args.task.generations c.openings.search c.turns_of_orders.new.search c.turns_of_orders.new.orders r) c.in_err-ended.was
      c.turns_of_orders.ensures.gone_on);
  limit = c.turns_of_orders.ensures.limit ∙ c.openings.invariant.limit;
}

pub returns-in-Some : goal.returns-in-Some
returns-in-Some g c = record {
  counted = subst (λ (r : Result (Option End) Fail). HasGoneOn c.args.task.problem.now c.args.task.goal c.args.task.generations c.openings.search c.turns_of_orders.new.search c.turns_of_orders.new.orders r)
      (c.in_ok-ended.was ∙ ap (λ (x : Option End). Ok x) c.in-Some.is) c.turns_of_orders.ensures.gone_on;
  limit = c.turns_of_orders.ensures.limit ∙ c.openings.invariant.limit;
}

pub returns-then-counted-before : goal.returns-then-counted-before
returns-then-counted-before g c =
    let w = subst (λ (r : Result (Option End) Fail). HasGoneOn c.args.task.problem.now c.args.task.goal c.args.task.generations c.openings.search c.turns_of_orders.new.search c.turns_of_orders.new.orders r)
    (c.in_ok-ended.was ∙ ap (λ (x : Option End). Ok x) c.in-None.is) c.turns_of_orders.ensures.gone_on in
    let more : counted c.args.search.now < counted c.turns_of_orders.new.search =
    omega (arith, c.if-counted-before.true, c.counted-before.ensures.count, c.counted.ensures.count, c.openings.invariant.as_many) in
    record { counted = (w.0, more); limit = c.turns_of_orders.ensures.limit ∙ c.openings.invariant.limit }

pub openings-preserved : goal.openings-preserved
openings-preserved g c =
    let w = subst (λ (r : Result (Option End) Fail). HasGoneOn c.args.task.problem.now c.args.task.goal c.args.task.generations c.openings.search c.turns_of_orders.new.search c.turns_of_orders.new.orders r)
    (c.in_ok-ended.was ∙ ap (λ (x : Option End). Ok x) c.in-None.is) c.turns_of_orders.ensures.gone_on in
    record {
      turns = w.0;
      limit = c.turns_of_orders.ensures.limit ∙ c.openings.invariant.limit;
      as_many = (fewer_quantifiers (counted c.openings.search) (counted c.turns_of_orders.new.search) (quantifiers_to_open c.openings.search) (quantifiers_to_open c.turns_of_orders.new.search) w.1
          (omega (arith, c.if-counted-before.false, c.counted-before.ensures.count, c.counted.ensures.count))).0 ∙ c.openings.invariant.as_many;
    }

pub openings-smaller : goal.openings-smaller
openings-smaller g c =
    let w = subst (λ (r : Result (Option End) Fail). HasGoneOn c.args.task.problem.now c.args.task.goal c.args.task.generations c.openings.search c.turns_of_orders.new.search c.turns_of_orders.new.orders r)
    (c.in_ok-ended.was ∙ ap (λ (x : Option End). Ok x) c.in-None.is) c.turns_of_orders.ensures.gone_on in
    (fewer_quantifiers (counted c.openings.search) (counted c.turns_of_orders.new.search) (quantifiers_to_open c.openings.search) (quantifiers_to_open c.turns_of_orders.new.search) w.1
    (omega (arith, c.if-counted-before.false, c.counted-before.ensures.count, c.counted.ensures.count))).1

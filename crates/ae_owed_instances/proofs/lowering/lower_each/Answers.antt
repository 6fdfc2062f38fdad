use Rattle.std.proofs.Common.{◌<◌, Ok, false, ap, arith}
use Rattle.ae_owed_instances.proofs.Lower.{fallen_further, pass_least, pass_less, rest_further, same_truth}
use Rattle.ae_owed_instances.proofs.lowering.lower_each.Goals as goal

pub loop-place-preserved : goal.loop-place-preserved
loop-place-preserved c =
    let p = c.args.task.problem.now in
    let g = c.args.task.goal in
    let n = c.args.task.generations in
    let o = c.args.search.now in
    let a = c.loop-place.search in
    let e = c.lower_at.new.search in
    let i = c.loop-place.invariant in
    let now = c.in_ok-now.ensures in (
      fallen_further p g n o a e i.0 now.fallen,
      pass_less p g n o a e c.loop-place.fell c.in_ok-now.now c.either-fell.result c.loop-place.place i.0 now.fallen c.either-fell.ensures
          i.1 (λ t. now.less (ap Ok t)),
      pass_least p g n o a e c.loop-place.fell c.in_ok-now.now c.either-fell.result c.loop-place.place i.0 now.fallen c.either-fell.ensures
          (λ t. now.still (ap Ok t)) i.2 (λ t. now.least (ap Ok t)),
      rest_further o a e i.3 now.rest,
    )

pub returns-clause-least : goal.returns-clause-least
returns-clause-least c = λ f k l.
    let i = c.loop-place.invariant in
    let many = i.0.many in
    let past = c.loop-place-test.false in
    let end = c.len-place-end.ensures in
    let within : k < c.loop-place.place = omega (arith, many, past, end, l) in
    i.2 (same_truth c.loop-place.fell false f) k within

use Rattle.std.proofs.lemmas.Result.{IfOk-weaker}
use Rattle.ae_sat_tests.proofs.tests.either.Goals as goal

pub returns : goal.returns
returns c =
    let s = c.args.store.now in
    IfOk-weaker c.or.result _ _ (λ f h. h s c.in_ok-left.ensures c.in_ok-right.ensures) c.or.ensures

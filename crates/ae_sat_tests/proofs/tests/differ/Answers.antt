use Rattle.std.proofs.lemmas.Result.{IfOk-weaker}
use Rattle.ae_sat_tests.proofs.tests.differ.Goals as goal

pub returns : goal.returns
returns c =
    let s = c.args.store.now in
    IfOk-weaker c.not.result _ _ (λ f h. h s c.in_ok-part.ensures) c.not.ensures

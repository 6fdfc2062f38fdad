use Rattle.std.proofs.lemmas.Result.{IfOk-weaker}
use Rattle.ae_sat_tests.proofs.tests.in_two_holes.Goals as goal

pub returns : goal.returns
returns c = IfOk-weaker c.unit.result _ _ (λ d h. h c.args.store.now c.in_ok-equation.ensures) c.unit.ensures

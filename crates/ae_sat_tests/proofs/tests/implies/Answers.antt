use Rattle.std.proofs.lemmas.Result.{IfOk-weaker}
use Rattle.ae_sat_tests.proofs.tests.implies.Goals as goal

pub returns : goal.returns
returns c = IfOk-weaker c.or.result _ _ (λ f h s i j. h s (c.in_ok-premise.ensures s i) j) c.or.ensures

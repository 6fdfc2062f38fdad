use Rattle.ae_sat_tests.proofs.Named.{named_lit}
use Rattle.ae_sat_tests.proofs.tests.push_lit.Goals as goal

pub returns : goal.returns
returns c s h i = named_lit s _ _ _ c.in_ok-push.ensures.ok h i

use Rattle.ae_sat.proofs.Attaching.{named_add}
use Rattle.ae_sat_tests.proofs.tests.push_clause.Goals as goal

pub returns : goal.returns
returns c s h i = named_add s _ _ _ c.in_ok-push.ensures.ok h i

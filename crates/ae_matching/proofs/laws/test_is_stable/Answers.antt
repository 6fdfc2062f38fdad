use Rattle.ae_matching.proofs.Stable.{test_stable}
use Rattle.ae_matching.proofs.laws.test_is_stable.Goals as goal

pub returns : goal.returns
returns c = test_stable

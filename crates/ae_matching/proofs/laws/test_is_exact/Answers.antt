use Rattle.ae_matching.proofs.Exact.{test_exact}
use Rattle.ae_matching.proofs.laws.test_is_exact.Goals as goal

pub returns : goal.returns
returns c = test_exact

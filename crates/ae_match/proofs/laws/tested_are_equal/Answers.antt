use Rattle.ae_match.proofs.MatchLaws.{tested_equal, equal_tested}
use Rattle.ae_match.proofs.laws.tested_are_equal.Goals as goal

pub returns : goal.returns
returns c = λ sig ns alike below sorts values s w ps. (tested_equal sig ns alike below sorts values s w ps, equal_tested sig ns alike below sorts values s w ps)

use Rattle.ae_match.proofs.MatchLaws.{found}
use Rattle.ae_match.proofs.laws.matches_are_found.Goals as goal

pub returns : goal.returns
returns c = λ sig ns alike below sorts values s q w ps occur a. found sig ns alike below sorts values s w q ps occur a

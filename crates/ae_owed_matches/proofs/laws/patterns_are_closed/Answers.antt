use Rattle.ae_owed_matches.proofs.Closed.{patterns_are_closed}
use Rattle.ae_owed_matches.proofs.laws.patterns_are_closed.Goals as goal

pub returns : goal.returns
returns c = patterns_are_closed

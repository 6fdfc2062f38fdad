use Rattle.ae_owed_matches.proofs.FoundLaws.{literal_patterns_are_closed}
use Rattle.ae_owed_matches.proofs.laws.literal_patterns_are_closed.Goals as goal

pub returns : goal.returns
returns c = literal_patterns_are_closed

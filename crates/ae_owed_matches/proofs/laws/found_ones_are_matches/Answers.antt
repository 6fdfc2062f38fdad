use Rattle.ae_owed_matches.proofs.FoundLaws.{found_ones_are_matches}
use Rattle.ae_owed_matches.proofs.laws.found_ones_are_matches.Goals as goal

pub returns : goal.returns
returns c = found_ones_are_matches

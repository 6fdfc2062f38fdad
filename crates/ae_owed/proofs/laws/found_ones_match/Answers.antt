use Rattle.ae_owed.proofs.Recording.{found_ones_match}
use Rattle.ae_owed.proofs.laws.found_ones_match.Goals as goal

pub returns : goal.returns
returns c = found_ones_match

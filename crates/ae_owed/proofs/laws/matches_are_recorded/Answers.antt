use Rattle.ae_owed.proofs.Recording.{matches_are_recorded}
use Rattle.ae_owed.proofs.laws.matches_are_recorded.Goals as goal

pub returns : goal.returns
returns c = matches_are_recorded

use Rattle.ae_owed.proofs.Recording.{matches_may_be_noted}
use Rattle.ae_owed.proofs.laws.matches_may_be_noted.Goals as goal

pub returns : goal.returns
returns c = matches_may_be_noted

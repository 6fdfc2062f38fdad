use Rattle.ae_owed.proofs.Recording.{matches_grow}
use Rattle.ae_owed.proofs.laws.matches_grow.Goals as goal

pub returns : goal.returns
returns c = matches_grow

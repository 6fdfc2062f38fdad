use Rattle.ae_owed_matches.proofs.NoneOwed.{nothing_between}
use Rattle.ae_owed_matches.proofs.laws.nothing_between.Goals as goal

pub returns : goal.returns
returns c = nothing_between

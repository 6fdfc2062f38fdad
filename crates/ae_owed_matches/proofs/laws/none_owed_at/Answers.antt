use Rattle.ae_owed_matches.proofs.NoneOwed.{none_owed_at}
use Rattle.ae_owed_matches.proofs.laws.none_owed_at.Goals as goal

pub returns : goal.returns
returns c = none_owed_at

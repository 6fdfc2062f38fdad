use Rattle.ae_owed.proofs.Saturated.{none_is_owed}
use Rattle.ae_owed.proofs.laws.none_is_owed.Goals as goal

pub returns : goal.returns
returns c = none_is_owed

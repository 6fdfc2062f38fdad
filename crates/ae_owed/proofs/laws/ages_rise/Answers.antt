use Rattle.ae_owed.proofs.Ages.{ages_rise}
use Rattle.ae_owed.proofs.laws.ages_rise.Goals as goal

pub returns : goal.returns
returns c = ages_rise

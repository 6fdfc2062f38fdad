use Rattle.ae_owed.proofs.Ages.{generations_rise_to}
use Rattle.ae_owed.proofs.laws.generations_rise_to.Goals as goal

pub returns : goal.returns
returns c = generations_rise_to

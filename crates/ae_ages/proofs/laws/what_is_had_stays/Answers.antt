use Rattle.ae_ages.proofs.Having.{what_is_had_stays}
use Rattle.ae_ages.proofs.laws.what_is_had_stays.Goals as goal

pub returns : goal.returns
returns c = what_is_had_stays

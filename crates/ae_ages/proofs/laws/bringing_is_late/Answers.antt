use Rattle.ae_ages.proofs.Having.{bringing_is_late}
use Rattle.ae_ages.proofs.laws.bringing_is_late.Goals as goal

pub returns : goal.returns
returns c = bringing_is_late

use Rattle.ae_ages.proofs.Justifying.{bringing_justifies}
use Rattle.ae_ages.proofs.laws.bringing_justifies.Goals as goal

pub returns : goal.returns
returns c = bringing_justifies

use Rattle.ae_name_licences.proofs.Now.{stores_are_in_step}
use Rattle.ae_name_licences.proofs.laws.stores_are_in_step.Goals as goal

pub returns : goal.returns
returns c = stores_are_in_step

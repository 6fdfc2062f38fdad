use Rattle.ae_driver.proofs.Checked.{one_asked}
use Rattle.ae_driver.proofs.laws.one_task.Goals as goal

pub returns : goal.returns
returns c = one_asked

use Rattle.ae_driver.proofs.Checked.{one_input, one_checked, input_not_refused}
use Rattle.ae_driver.proofs.laws.one_check.Goals as goal

pub returns : goal.returns
returns c = record { input = one_input; lines = one_checked; refusal = input_not_refused }

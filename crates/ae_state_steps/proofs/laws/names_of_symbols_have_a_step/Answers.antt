use Rattle.ae_state_steps.proofs.Many.{name_step}
use Rattle.ae_state_steps.proofs.laws.names_of_symbols_have_a_step.Goals as goal

pub returns : goal.returns
returns c = name_step

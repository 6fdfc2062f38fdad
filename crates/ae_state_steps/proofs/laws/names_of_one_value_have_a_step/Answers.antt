use Rattle.ae_state_steps.proofs.Changes.{alike_step}
use Rattle.ae_state_steps.proofs.laws.names_of_one_value_have_a_step.Goals as goal

pub returns : goal.returns
returns c = alike_step

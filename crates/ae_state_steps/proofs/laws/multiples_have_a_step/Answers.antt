use Rattle.ae_state_steps.proofs.Changes.{multiple_step}
use Rattle.ae_state_steps.proofs.laws.multiples_have_a_step.Goals as goal

pub returns : goal.returns
returns c = multiple_step

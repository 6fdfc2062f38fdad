use Rattle.ae_state_steps.proofs.Changes.{covered_step}
use Rattle.ae_state_steps.proofs.laws.covered_names_have_a_step.Goals as goal

pub returns : goal.returns
returns c = covered_step

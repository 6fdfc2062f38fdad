use Rattle.ae_state_steps.proofs.Changes.{put_step}
use Rattle.ae_state_steps.proofs.laws.changed_values_have_a_step.Goals as goal

pub returns : goal.returns
returns c = put_step

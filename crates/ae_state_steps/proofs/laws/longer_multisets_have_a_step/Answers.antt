use Rattle.ae_state_steps.proofs.Many.{extend_step}
use Rattle.ae_state_steps.proofs.laws.longer_multisets_have_a_step.Goals as goal

pub returns : goal.returns
returns c = extend_step

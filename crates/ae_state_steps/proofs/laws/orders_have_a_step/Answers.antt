use Rattle.ae_state_steps.proofs.Many.{order_step}
use Rattle.ae_state_steps.proofs.laws.orders_have_a_step.Goals as goal

pub returns : goal.returns
returns c = order_step

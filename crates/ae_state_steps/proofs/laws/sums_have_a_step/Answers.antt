use Rattle.ae_state_steps.proofs.Changes.{sum_step, difference_step}
use Rattle.ae_state_steps.proofs.laws.sums_have_a_step.Goals as goal

pub returns-clause-sum : goal.returns-clause-sum
returns-clause-sum c = sum_step

pub returns-clause-difference : goal.returns-clause-difference
returns-clause-difference c = difference_step

use Rattle.ae_state_steps.proofs.Changes.{numeral_step, leaf_step}
use Rattle.ae_state_steps.proofs.laws.first_values_have_a_step.Goals as goal

pub returns-clause-numeral : goal.returns-clause-numeral
returns-clause-numeral c = numeral_step

pub returns-clause-leaf : goal.returns-clause-leaf
returns-clause-leaf c = leaf_step

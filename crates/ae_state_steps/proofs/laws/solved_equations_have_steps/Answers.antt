use Rattle.ae_state_steps.proofs.Changes.{apart_step, solved_step}
use Rattle.ae_state_steps.proofs.laws.solved_equations_have_steps.Goals as goal

pub returns-clause-apart : goal.returns-clause-apart
returns-clause-apart c = apart_step

pub returns-clause-solved : goal.returns-clause-solved
returns-clause-solved c = solved_step

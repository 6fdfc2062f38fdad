use Rattle.ae_name_lines.proofs.Putting.{put_numbers_are_in_step, put_leaves_are_in_step}
use Rattle.ae_name_lines.proofs.laws.put_values_are_in_step.Goals as goal

pub returns-clause-numbers : goal.returns-clause-numbers
returns-clause-numbers c = put_numbers_are_in_step

pub returns-clause-leaves : goal.returns-clause-leaves
returns-clause-leaves c = put_leaves_are_in_step

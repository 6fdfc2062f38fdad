use Rattle.ae_name_lines.proofs.Solving.{other_lines_keep_values, other_lines_keep_step}
use Rattle.ae_name_lines.proofs.laws.other_lines_change_no_value.Goals as goal

pub returns-clause-values : goal.returns-clause-values
returns-clause-values c = other_lines_keep_values

pub returns-clause-step : goal.returns-clause-step
returns-clause-step c = other_lines_keep_step

use Rattle.ae_name_lines.proofs.MoreNames.{terms_keep_values, least_names_stay, values_stay_in_step}
use Rattle.ae_name_lines.proofs.laws.more_names_change_nothing.Goals as goal

pub returns-clause-values : goal.returns-clause-values
returns-clause-values c = terms_keep_values

pub returns-clause-least : goal.returns-clause-least
returns-clause-least c = least_names_stay

pub returns-clause-step : goal.returns-clause-step
returns-clause-step c = values_stay_in_step

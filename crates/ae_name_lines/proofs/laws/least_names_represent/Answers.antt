use Rattle.ae_name_lines.proofs.Representing.{least_names_represent, least_names_represent_now, other_names_represent_nothing}
use Rattle.ae_name_lines.proofs.laws.least_names_represent.Goals as goal

pub returns-clause-least : goal.returns-clause-least
returns-clause-least c = least_names_represent

pub returns-clause-now : goal.returns-clause-now
returns-clause-now c = least_names_represent_now

pub returns-clause-others : goal.returns-clause-others
returns-clause-others c = other_names_represent_nothing

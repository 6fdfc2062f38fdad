use Rattle.ae_name_lines.proofs.NewNames.{new_names_are_in_step}
use Rattle.ae_name_lines.proofs.laws.new_names_are_in_step.Goals as goal

pub returns : goal.returns
returns c = new_names_are_in_step c.values_have_shapes.ensures.records

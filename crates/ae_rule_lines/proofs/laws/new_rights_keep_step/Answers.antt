use Rattle.ae_rule_lines.proofs.NewSides.{new_rights_keep}
use Rattle.ae_rule_lines.proofs.laws.new_rights_keep_step.Goals as goal

pub returns : goal.returns
returns c = new_rights_keep

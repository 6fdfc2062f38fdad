use Rattle.ae_rule_lines.proofs.NewSides.{descents_of_lines}
use Rattle.ae_rule_lines.proofs.laws.descents_are_of_lines.Goals as goal

pub returns : goal.returns
returns c = descents_of_lines

use Rattle.ae_rule_lines.proofs.OtherLines.{nothing_in_step}
use Rattle.ae_rule_lines.proofs.laws.nothing_is_in_step.Goals as goal

pub returns : goal.returns
returns c = nothing_in_step

use Rattle.ae_rule_lines.proofs.Entered.{rules_keep}
use Rattle.ae_rule_lines.proofs.laws.rules_keep_step.Goals as goal

pub returns : goal.returns
returns c = rules_keep

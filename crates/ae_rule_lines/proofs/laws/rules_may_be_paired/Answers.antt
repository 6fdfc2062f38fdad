use Rattle.ae_rule_lines.proofs.Legality.{rules_paired}
use Rattle.ae_rule_lines.proofs.laws.rules_may_be_paired.Goals as goal

pub returns : goal.returns
returns c = rules_paired

use Rattle.ae_rule_lines.proofs.Legality.{rule_may_come}
use Rattle.ae_rule_lines.proofs.laws.rule_may_come.Goals as goal

pub returns : goal.returns
returns c = rule_may_come

use Rattle.ae_rule_lines.proofs.Dropped.{drops_keep}
use Rattle.ae_rule_lines.proofs.laws.drops_keep_step.Goals as goal

pub returns : goal.returns
returns c = drops_keep

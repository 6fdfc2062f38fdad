use Rattle.ae_rule_lines.proofs.Coupled.{pairs_keep}
use Rattle.ae_rule_lines.proofs.laws.pairs_keep_step.Goals as goal

pub returns : goal.returns
returns c = pairs_keep

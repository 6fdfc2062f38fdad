use Rattle.ae_rule_passes.proofs.Chains.{passes_keep}
use Rattle.ae_rule_passes.proofs.laws.passes_keep_step.Goals as goal

pub returns : goal.returns
returns c = passes_keep

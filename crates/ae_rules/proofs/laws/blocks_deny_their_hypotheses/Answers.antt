use Rattle.ae_rules.proofs.Propagation.{opposites_deny}
use Rattle.ae_rules.proofs.laws.blocks_deny_their_hypotheses.Goals as goal

pub returns : goal.returns
returns c v = opposites_deny v

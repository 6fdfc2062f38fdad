use Rattle.ae_rules.proofs.Propagation.{refuted}
use Rattle.ae_rules.proofs.laws.propagation_is_sound.Goals as goal

pub returns : goal.returns
returns c v = refuted v

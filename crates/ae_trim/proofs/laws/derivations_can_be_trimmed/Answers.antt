use Rattle.ae_trim.proofs.Deriving.{derivation_trims}
use Rattle.ae_trim.proofs.laws.derivations_can_be_trimmed.Goals as goal

pub returns : goal.returns
returns c = derivation_trims

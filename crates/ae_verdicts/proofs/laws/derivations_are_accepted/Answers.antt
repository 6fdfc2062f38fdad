use Rattle.ae_verdicts.proofs.OneVerdict.{derivation_accepted}
use Rattle.ae_verdicts.proofs.laws.derivations_are_accepted.Goals as goal

pub returns : goal.returns
returns c = derivation_accepted

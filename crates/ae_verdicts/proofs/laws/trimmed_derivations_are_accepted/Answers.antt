use Rattle.ae_verdicts.proofs.OneVerdict.{trimmed_accepted}
use Rattle.ae_verdicts.proofs.laws.trimmed_derivations_are_accepted.Goals as goal

pub returns : goal.returns
returns c = trimmed_accepted

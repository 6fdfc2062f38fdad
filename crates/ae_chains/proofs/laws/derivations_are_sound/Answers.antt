use Rattle.ae_chains.proofs.Countermodels.{sound}
use Rattle.ae_chains.proofs.laws.derivations_are_sound.Goals as goal

pub returns : goal.returns
returns c = sound

use Rattle.ae_printed.proofs.ReadingBack.{state_read_back}
use Rattle.ae_printed.proofs.laws.states_are_read_back.Goals as goal

pub returns : goal.returns
returns c = state_read_back

use Rattle.ae_journal.proofs.Refusals.{no_second_pair}
use Rattle.ae_journal.proofs.laws.no_second_pair.Goals as goal

pub returns : goal.returns
returns c = no_second_pair

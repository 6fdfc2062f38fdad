use Rattle.ae_journal.proofs.Refusals.{some_pair}
use Rattle.ae_journal.proofs.laws.some_pair.Goals as goal

pub returns : goal.returns
returns c = some_pair

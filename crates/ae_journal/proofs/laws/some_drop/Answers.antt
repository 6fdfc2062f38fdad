use Rattle.ae_journal.proofs.Refusals.{some_drop}
use Rattle.ae_journal.proofs.laws.some_drop.Goals as goal

pub returns : goal.returns
returns c = some_drop

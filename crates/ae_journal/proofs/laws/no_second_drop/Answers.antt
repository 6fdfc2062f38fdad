use Rattle.ae_journal.proofs.Refusals.{no_second_drop}
use Rattle.ae_journal.proofs.laws.no_second_drop.Goals as goal

pub returns : goal.returns
returns c = no_second_drop

use Rattle.ae_journal.proofs.Representatives.{represents_itself}
use Rattle.ae_journal.proofs.laws.represents_itself.Goals as goal

pub returns : goal.returns
returns c = represents_itself

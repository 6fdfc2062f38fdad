use Rattle.ae_journal.proofs.Refusals.{no_pair_with_itself}
use Rattle.ae_journal.proofs.laws.no_pair_with_itself.Goals as goal

pub returns : goal.returns
returns c = no_pair_with_itself

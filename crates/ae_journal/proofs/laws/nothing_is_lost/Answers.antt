use Rattle.ae_journal.proofs.Growing.{nothing_is_lost}
use Rattle.ae_journal.proofs.laws.nothing_is_lost.Goals as goal

pub returns : goal.returns
returns c = nothing_is_lost

use Rattle.ae_journal.proofs.Living.{back_restores}
use Rattle.ae_journal.proofs.laws.back_restores.Goals as goal

pub returns : goal.returns
returns c = back_restores

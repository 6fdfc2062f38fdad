use Rattle.ae_journal.proofs.Living.{back_after_learn}
use Rattle.ae_journal.proofs.laws.back_after_learn.Goals as goal

pub returns : goal.returns
returns c = back_after_learn

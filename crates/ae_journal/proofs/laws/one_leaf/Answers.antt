use Rattle.ae_journal.proofs.Representatives.{one_leaf}
use Rattle.ae_journal.proofs.laws.one_leaf.Goals as goal

pub returns : goal.returns
returns c = one_leaf

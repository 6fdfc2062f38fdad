use Rattle.ae_journal.proofs.Representatives.{leaf_representative}
use Rattle.ae_journal.proofs.laws.leaf_representative.Goals as goal

pub returns : goal.returns
returns c = leaf_representative

use Rattle.ae_journal.proofs.Representatives.{one_representative}
use Rattle.ae_journal.proofs.laws.one_representative.Goals as goal

pub returns : goal.returns
returns c = one_representative

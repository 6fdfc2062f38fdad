use Rattle.ae_journal.proofs.Representatives.{one_representative_now}
use Rattle.ae_journal.proofs.laws.one_representative_now.Goals as goal

pub returns : goal.returns
returns c = one_representative_now

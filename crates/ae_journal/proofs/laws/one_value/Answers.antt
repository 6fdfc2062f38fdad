use Rattle.ae_journal.proofs.Representatives.{one_value}
use Rattle.ae_journal.proofs.laws.one_value.Goals as goal

pub returns : goal.returns
returns c = one_value

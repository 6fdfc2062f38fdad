use Rattle.ae_journal.proofs.Refusals.{back_undoes}
use Rattle.ae_journal.proofs.laws.back_undoes.Goals as goal

pub returns : goal.returns
returns c = back_undoes

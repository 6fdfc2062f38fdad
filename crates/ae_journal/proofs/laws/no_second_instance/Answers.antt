use Rattle.ae_journal.proofs.Refusals.{no_second_instance}
use Rattle.ae_journal.proofs.laws.no_second_instance.Goals as goal

pub returns : goal.returns
returns c = no_second_instance

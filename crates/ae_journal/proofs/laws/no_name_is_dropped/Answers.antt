use Rattle.ae_journal.proofs.Refusals.{no_name_is_dropped}
use Rattle.ae_journal.proofs.laws.no_name_is_dropped.Goals as goal

pub returns : goal.returns
returns c = no_name_is_dropped

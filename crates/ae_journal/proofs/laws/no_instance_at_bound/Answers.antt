use Rattle.ae_journal.proofs.Refusals.{no_instance_at_bound}
use Rattle.ae_journal.proofs.laws.no_instance_at_bound.Goals as goal

pub returns : goal.returns
returns c = no_instance_at_bound

use Rattle.ae_journal_checks.proofs.InstanceLine.{one_instance_may_come}
use Rattle.ae_journal_checks.proofs.laws.one_instance_may_come.Goals as goal

pub returns : goal.returns
returns c = one_instance_may_come

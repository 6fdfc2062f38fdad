use Rattle.ae_system_checks.proofs.Completed.{overlapping_completed}
use Rattle.ae_system_checks.proofs.laws.rules_may_overlap.Goals as goal

pub returns : goal.returns
returns c = overlapping_completed

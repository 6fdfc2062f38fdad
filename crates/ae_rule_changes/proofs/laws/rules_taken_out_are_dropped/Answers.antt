use Rattle.ae_rule_changes.proofs.TakenOut.{stale_dropped, reducible_dropped}
use Rattle.ae_rule_changes.proofs.laws.rules_taken_out_are_dropped.Goals as goal

pub returns-clause-stale : goal.returns-clause-stale
returns-clause-stale c = stale_dropped

pub returns-clause-reducible : goal.returns-clause-reducible
returns-clause-reducible c = reducible_dropped

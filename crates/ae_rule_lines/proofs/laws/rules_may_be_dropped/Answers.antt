use Rattle.ae_rule_lines.proofs.Legality.{reducible_dropped, stale_dropped}
use Rattle.ae_rule_lines.proofs.laws.rules_may_be_dropped.Goals as goal

pub returns-clause-reducible : goal.returns-clause-reducible
returns-clause-reducible c = reducible_dropped

pub returns-clause-stale : goal.returns-clause-stale
returns-clause-stale c = stale_dropped

use Rattle.ae_rule_passes.proofs.Reasons.{stale_go, reducible_go}
use Rattle.ae_rule_passes.proofs.laws.rules_may_go.Goals as goal

pub returns-clause-stale : goal.returns-clause-stale
returns-clause-stale c = stale_go

pub returns-clause-reducible : goal.returns-clause-reducible
returns-clause-reducible c = reducible_go

use Rattle.ae_rule_changes.proofs.Turned.{oriented_entered}
use Rattle.ae_rule_changes.proofs.laws.oriented_rules_are_entered.Goals as goal

pub returns : goal.returns
returns c = oriented_entered

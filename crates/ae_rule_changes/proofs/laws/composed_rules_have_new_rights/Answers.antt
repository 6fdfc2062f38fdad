use Rattle.ae_rule_changes.proofs.Turned.{composed_new}
use Rattle.ae_rule_changes.proofs.laws.composed_rules_have_new_rights.Goals as goal

pub returns : goal.returns
returns c = composed_new

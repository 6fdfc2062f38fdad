use Rattle.ae_rule_changes.proofs.Turned.{kept_descend}
use Rattle.ae_rule_changes.proofs.laws.kept_rules_descend.Goals as goal

pub returns : goal.returns
returns c = kept_descend

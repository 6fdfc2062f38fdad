use Rattle.ae_rising_rules.proofs.Written.{rules_writable}
use Rattle.ae_rising_rules.proofs.laws.held_rules_are_writable.Goals as goal

pub returns : goal.returns
returns c = rules_writable

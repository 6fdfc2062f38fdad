use Rattle.ae_journal_checks.proofs.RuleJournal.{falling_rule_is_refused}
use Rattle.ae_journal_checks.proofs.laws.falling_rule_is_refused.Goals as goal

pub returns : goal.returns
returns c = falling_rule_is_refused

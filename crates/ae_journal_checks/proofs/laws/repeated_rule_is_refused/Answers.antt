use Rattle.ae_journal_checks.proofs.RuleJournal.{repeated_rule_is_refused}
use Rattle.ae_journal_checks.proofs.laws.repeated_rule_is_refused.Goals as goal

pub returns : goal.returns
returns c = repeated_rule_is_refused

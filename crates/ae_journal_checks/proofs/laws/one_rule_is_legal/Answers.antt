use Rattle.ae_journal_checks.proofs.RuleJournal.{one_rule_is_legal}
use Rattle.ae_journal_checks.proofs.laws.one_rule_is_legal.Goals as goal

pub returns : goal.returns
returns c = one_rule_is_legal

use Rattle.ae_journal_checks.proofs.RuleJournal.{four_lines_are_legal}
use Rattle.ae_journal_checks.proofs.laws.four_lines_are_legal.Goals as goal

pub returns : goal.returns
returns c = four_lines_are_legal

use Rattle.ae_journal_checks.proofs.RuleJournal.{nothing_is_counted}
use Rattle.ae_journal_checks.proofs.laws.nothing_is_counted.Goals as goal

pub returns : goal.returns
returns c = nothing_is_counted

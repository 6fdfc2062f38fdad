use Rattle.ae_journal_checks.proofs.DecisionJournal.{one_decision_is_legal}
use Rattle.ae_journal_checks.proofs.laws.one_decision_is_legal.Goals as goal

pub returns : goal.returns
returns c = one_decision_is_legal

use Rattle.ae_journal_checks.proofs.LearntJournal.{one_learnt_clause_is_legal}
use Rattle.ae_journal_checks.proofs.laws.one_learnt_clause_is_legal.Goals as goal

pub returns : goal.returns
returns c = one_learnt_clause_is_legal

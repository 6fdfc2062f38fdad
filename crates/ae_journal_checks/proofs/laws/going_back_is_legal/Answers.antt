use Rattle.ae_journal_checks.proofs.BackJournal.{going_back_is_legal}
use Rattle.ae_journal_checks.proofs.laws.going_back_is_legal.Goals as goal

pub returns : goal.returns
returns c = going_back_is_legal

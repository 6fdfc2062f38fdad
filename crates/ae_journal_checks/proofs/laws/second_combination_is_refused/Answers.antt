use Rattle.ae_journal_checks.proofs.RefusedLines.{no_second_combination}
use Rattle.ae_journal_checks.proofs.laws.second_combination_is_refused.Goals as goal

pub returns : goal.returns
returns c = no_second_combination

use Rattle.ae_journal.proofs.LegalRows.{rows_are_of_names}
use Rattle.ae_journal.proofs.laws.rows_are_of_names.Goals as goal

pub returns : goal.returns
returns c = rows_are_of_names

use Rattle.ae_journal.proofs.LegalRows.{literals_are_formulas}
use Rattle.ae_journal.proofs.laws.literals_are_formulas.Goals as goal

pub returns : goal.returns
returns c = literals_are_formulas

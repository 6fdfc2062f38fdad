use Rattle.ae_journal.proofs.LegalFronts.{fronts_are_legal}
use Rattle.ae_journal.proofs.laws.fronts_are_legal.Goals as goal

pub returns : goal.returns
returns c = fronts_are_legal

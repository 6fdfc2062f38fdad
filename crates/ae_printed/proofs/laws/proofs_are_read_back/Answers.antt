use Rattle.ae_printed.proofs.ReadingBack.{proof_read_back}
use Rattle.ae_printed.proofs.laws.proofs_are_read_back.Goals as goal

pub returns : goal.returns
returns c = proof_read_back

use Rattle.ae_separator.proofs.Scanning as proof
use Rattle.ae_separator.proofs.laws.one_parting.Goals as goal

pub returns : goal.returns
returns c = proof.one_parting

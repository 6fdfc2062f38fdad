use Rattle.ae_verdicts.proofs.OneVerdict.{accepted_derives}
use Rattle.ae_verdicts.proofs.laws.accepted_proofs_derive.Goals as goal

pub returns : goal.returns
returns c = accepted_derives

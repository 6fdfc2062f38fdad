use Rattle.ae_verdicts.proofs.OneVerdict as lemmas
use Rattle.ae_verdicts.proofs.laws.one_verdict.Goals as goal

pub returns : goal.returns
returns c = lemmas.one_verdict

use Rattle.ae_finished_rounds.proofs.Saturated.{saturated}
use Rattle.ae_finished_rounds.proofs.laws.finished_rounds_are_saturated.Goals as goal

pub returns : goal.returns
returns c = saturated

use Rattle.ae_kept_runs.proofs.Running.{runs_keep_rounds}
use Rattle.ae_kept_runs.proofs.laws.runs_keep_rounds.Goals as goal

pub returns : goal.returns
returns c = runs_keep_rounds

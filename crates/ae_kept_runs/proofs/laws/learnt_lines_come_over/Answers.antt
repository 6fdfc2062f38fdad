use Rattle.ae_kept_runs.proofs.Learnt.{learnt_lines_come_over}
use Rattle.ae_kept_runs.proofs.laws.learnt_lines_come_over.Goals as goal

pub returns : goal.returns
returns c = learnt_lines_come_over

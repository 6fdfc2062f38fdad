use Rattle.ae_owed_matches.proofs.NoneOwed.{passes_leave_none}
use Rattle.ae_owed_matches.proofs.laws.passes_leave_none.Goals as goal

pub returns : goal.returns
returns c = passes_leave_none

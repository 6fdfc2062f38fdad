use Rattle.ae_decide.proofs.NineClauses.{nine_clauses}
use Rattle.ae_decide.proofs.laws.completed_by_nine_clauses.Goals as goal

pub returns : goal.returns
returns c = nine_clauses

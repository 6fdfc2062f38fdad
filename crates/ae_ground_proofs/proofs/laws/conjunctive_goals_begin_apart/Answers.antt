use Rattle.ae_ground_proofs.proofs.Conjunctive.{begin_apart}
use Rattle.ae_ground_proofs.proofs.laws.conjunctive_goals_begin_apart.Goals as goal

pub returns : goal.returns
returns c = λ p g firsts first old before s lines clauses apart none begun same empty n adds. begin_apart p g firsts first begun old before same empty n none s lines clauses adds apart

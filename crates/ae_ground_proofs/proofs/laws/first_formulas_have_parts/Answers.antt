use Rattle.ae_ground_proofs.proofs.Formulas.{with_parts}
use Rattle.ae_ground_proofs.proofs.laws.first_formulas_have_parts.Goals as goal

pub returns : goal.returns
returns c = λ p g firsts first old before s lines clauses law reach ground begun same empty n adds. with_parts p g reach ground law firsts first begun old before same empty n s lines clauses adds

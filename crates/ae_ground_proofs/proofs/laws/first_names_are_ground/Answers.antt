use Rattle.ae_ground_proofs.proofs.Chosen.{occurs_or_is_choice, names_ground}
use Rattle.ae_ground_proofs.proofs.laws.first_names_are_ground.Goals as goal

pub returns-clause-occur : goal.returns-clause-occur
returns-clause-occur c = λ p g firsts first old before s lines clauses begun same empty n adds t h. occurs_or_is_choice p g firsts first begun old before same empty n s lines clauses adds t h

pub returns-clause-ground : goal.returns-clause-ground
returns-clause-ground c = λ p g firsts first old before s lines clauses law reach ground begun same empty n adds.
    names_ground p g firsts first begun old before same empty n s lines clauses adds law reach ground

use Rattle.ae_evaluation.proofs.ClosedItems.{closed_items}
use Rattle.ae_evaluation.proofs.GroundProofs.{clauses_true, no_ground_proof}
use Rattle.ae_evaluation.proofs.laws.saturated_goals_have_no_ground_proof.Goals as goal

pub returns-clause-clauses : goal.returns-clause-clauses
returns-clause-clauses c =
    λ p g bound st lawful saturated ground.
    clauses_true p g st saturated.0 bound lawful.signature saturated.1 ground (closed_items p g lawful ground)

pub returns-clause-none : goal.returns-clause-none
returns-clause-none c =
    λ p g bound st lawful saturated ground.
    no_ground_proof p g st saturated.0 bound lawful.signature saturated.1 ground (closed_items p g lawful ground)

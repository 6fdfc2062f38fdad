use Rattle.ae_evaluation.proofs.Literals.{true_literal}
use Rattle.ae_evaluation.proofs.laws.literals_are_true.Goals as goal

pub returns : goal.returns
returns c =
    λ p g bound st lawful saturated way f sign simple ok stands. true_literal p g st saturated.0 bound lawful saturated.1 way f simple ok sign stands

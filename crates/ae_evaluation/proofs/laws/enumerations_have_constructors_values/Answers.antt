use Rattle.ae_evaluation.proofs.Constructed.{terms_are_constructors, constructors_differ}
use Rattle.ae_evaluation.proofs.laws.enumerations_have_constructors_values.Goals as goal

pub returns-clause-exhausted : goal.returns-clause-exhausted
returns-clause-exhausted c = λ p g bound st lawful saturated. terms_are_constructors p g st saturated.0 bound lawful saturated.1

pub returns-clause-apart : goal.returns-clause-apart
returns-clause-apart c = λ p g bound st lawful saturated. constructors_differ p g st saturated.0 bound lawful saturated.1

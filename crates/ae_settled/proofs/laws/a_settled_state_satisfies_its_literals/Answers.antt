use Rattle.ae_settled.proofs.Satisfied.{satisfied}
use Rattle.ae_settled.proofs.laws.a_settled_state_satisfies_its_literals.Goals as goal

pub returns : goal.returns
returns c = λ x settled ls met. satisfied x settled ls met

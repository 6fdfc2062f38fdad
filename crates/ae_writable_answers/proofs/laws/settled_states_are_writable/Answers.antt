use Rattle.ae_writable_answers.proofs.Settled.{state_writable}
use Rattle.ae_writable_answers.proofs.laws.settled_states_are_writable.Goals as goal

pub returns : goal.returns
returns c = λ p g firsts first s start low t clauses y settled same rules. state_writable p g low firsts first s start t clauses settled y same rules

use Rattle.ae_open_states.proofs.Saturated.{saturated}
use Rattle.ae_open_states.proofs.laws.finished_searches_are_saturated.Goals as goal

pub returns : goal.returns
returns c = λ p g s t clauses y done bound. saturated p g s t clauses y done bound

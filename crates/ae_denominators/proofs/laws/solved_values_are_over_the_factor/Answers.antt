use Rattle.ae_denominators.proofs.Solved.{solved_denominator}
use Rattle.ae_denominators.proofs.laws.solved_values_are_over_the_factor.Goals as goal

pub returns : goal.returns
returns c = solved_denominator

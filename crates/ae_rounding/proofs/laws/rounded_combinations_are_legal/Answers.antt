use Rattle.ae_rounding.proofs.Legal.{rounded_legal}
use Rattle.ae_rounding.proofs.laws.rounded_combinations_are_legal.Goals as goal

pub returns : goal.returns
returns c = λ x js n s t p q h r o nh same whole nr rounded none. rounded_legal x js n s t p q h r o nh same whole nr rounded none

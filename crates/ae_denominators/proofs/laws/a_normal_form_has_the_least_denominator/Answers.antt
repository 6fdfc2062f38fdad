use Rattle.ae_denominators.proofs.Least.{least}
use Rattle.ae_denominators.proofs.laws.a_normal_form_has_the_least_denominator.Goals as goal

pub returns : goal.returns
returns c = least

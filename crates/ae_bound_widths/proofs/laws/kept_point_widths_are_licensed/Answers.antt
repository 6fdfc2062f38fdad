use Rattle.ae_bound_widths.proofs.Kept.{kept_licensed}
use Rattle.ae_bound_widths.proofs.laws.kept_point_widths_are_licensed.Goals as goal

pub returns : goal.returns
returns c = λ x js rows w normal st all none p. kept_licensed x js rows normal w st all none p

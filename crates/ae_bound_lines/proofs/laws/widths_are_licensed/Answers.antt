use Rattle.ae_bound_lines.proofs.Legal.{licensed}
use Rattle.ae_bound_lines.proofs.laws.widths_are_licensed.Goals as goal

pub returns : goal.returns
returns c = λ x rows js w st d. licensed x rows js w st d

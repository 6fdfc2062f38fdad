use Rattle.ae_row_differences.proofs.DifferenceWidths.{licensed}
use Rattle.ae_row_differences.proofs.laws.inequality_widths_are_licensed.Goals as goal

pub returns : goal.returns
returns c = licensed

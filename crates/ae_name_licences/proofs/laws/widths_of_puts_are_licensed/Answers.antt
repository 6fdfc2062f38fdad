use Rattle.ae_name_licences.proofs.Widths.{puts_are_licensed}
use Rattle.ae_name_licences.proofs.laws.widths_of_puts_are_licensed.Goals as goal

pub returns : goal.returns
returns c = puts_are_licensed

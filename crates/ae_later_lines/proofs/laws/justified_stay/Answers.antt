use Rattle.ae_later_lines.proofs.Later.{justified_stay}
use Rattle.ae_later_lines.proofs.laws.justified_stay.Goals as goal

pub returns : goal.returns
returns c = justified_stay

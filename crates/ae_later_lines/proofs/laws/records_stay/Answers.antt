use Rattle.ae_later_lines.proofs.Later.{records_stay}
use Rattle.ae_later_lines.proofs.laws.records_stay.Goals as goal

pub returns : goal.returns
returns c = records_stay

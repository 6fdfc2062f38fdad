use Rattle.ae_printed.proofs.ReadingBack.{right_passes}
use Rattle.ae_printed.proofs.laws.right_parts_pass.Goals as goal

pub returns : goal.returns
returns c = right_passes

use Rattle.ae_whole_lines.proofs.Parting.{parted}
use Rattle.ae_whole_lines.proofs.laws.inputs_are_parted.Goals as goal

pub returns : goal.returns
returns c = parted

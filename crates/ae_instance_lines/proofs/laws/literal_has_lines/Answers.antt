use Rattle.ae_instance_lines.proofs.Bringing.{literal_has_lines}
use Rattle.ae_instance_lines.proofs.laws.literal_has_lines.Goals as goal

pub returns : goal.returns
returns c = literal_has_lines

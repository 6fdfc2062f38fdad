use Rattle.ae_instance_lines.proofs.Bringing.{axiom_has_lines}
use Rattle.ae_instance_lines.proofs.laws.axiom_has_lines.Goals as goal

pub returns : goal.returns
returns c = axiom_has_lines

use Rattle.ae_ground_laws.proofs.Trims.{trimmed_ground}
use Rattle.ae_ground_laws.proofs.laws.trimmed_proofs_are_ground.Goals as goal

pub returns : goal.returns
returns c = λ p g proof trimmed i t. trimmed_ground p g proof trimmed i t

use Rattle.ae_ground_laws.proofs.Plain.{occurs_plain}
use Rattle.ae_ground_laws.proofs.laws.occurring_terms_are_plain.Goals as goal

pub returns : goal.returns
returns c = λ p g t ground o. occurs_plain p g ground t o

use Rattle.ae_models.proofs.Soundness.{nothing_false}
use Rattle.ae_models.proofs.laws.nothing_false_is_derived.Goals as goal

pub returns : goal.returns
returns g c = record { none = nothing_false }

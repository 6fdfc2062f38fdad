use Rattle.ae_value_changes.proofs.Mapping.{leaves_mapped}
use Rattle.ae_value_changes.proofs.laws.values_stay_values_when_leaves_are_mapped.Goals as goal

pub returns : goal.returns
returns c = leaves_mapped

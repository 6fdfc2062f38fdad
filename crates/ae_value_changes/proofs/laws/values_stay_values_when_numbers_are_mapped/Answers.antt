use Rattle.ae_value_changes.proofs.Mapping.{numbers_mapped}
use Rattle.ae_value_changes.proofs.laws.values_stay_values_when_numbers_are_mapped.Goals as goal

pub returns : goal.returns
returns c = numbers_mapped

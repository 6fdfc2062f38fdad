use Rattle.ae_value_changes.proofs.Puts.{numbers_put}
use Rattle.ae_value_changes.proofs.laws.values_stay_values_when_a_number_is_put.Goals as goal

pub returns : goal.returns
returns c = numbers_put

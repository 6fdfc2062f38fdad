use Rattle.ae_value_changes.proofs.Puts.{leaves_put}
use Rattle.ae_value_changes.proofs.laws.values_stay_values_when_a_name_is_put.Goals as goal

pub returns : goal.returns
returns c = leaves_put

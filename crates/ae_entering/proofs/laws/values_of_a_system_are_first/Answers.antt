use Rattle.ae_entering.proofs.OldValues.{are_first}
use Rattle.ae_entering.proofs.laws.values_of_a_system_are_first.Goals as goal

pub returns : goal.returns
returns c = λ sig nodes es number leaf store entries values. are_first sig nodes store es entries number leaf values

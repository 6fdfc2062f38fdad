use Rattle.ae_entering.proofs.NewValues.{are_values}
use Rattle.ae_entering.proofs.laws.first_values_of_all_names_are_a_systems.Goals as goal

pub returns : goal.returns
returns c = λ sig nodes es number leaf store entries all first. are_values sig nodes store es entries all number leaf first

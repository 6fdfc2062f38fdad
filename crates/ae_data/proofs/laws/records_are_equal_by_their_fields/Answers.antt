use Rattle.ae_rules.specs.Valuations.{Where}
use Rattle.ae_data.proofs.FieldEquations.{equal_by_fields}
use Rattle.ae_data.proofs.laws.records_are_equal_by_their_fields.Goals as goal

pub returns : goal.returns
returns c sig E n ss e fs s t law at kind sorted = equal_by_fields sig (Where E) n ss e fs s t law at kind sorted

use Rattle.ae_data.proofs.RecordLaws.{equation_is}
use Rattle.ae_data.proofs.laws.an_equation_of_records_is_those_of_its_fields.Goals as goal

pub returns : goal.returns
returns g c way ps = equation_is way ps

use Rattle.ae_just.proofs.ValueLaws.{apart_line}
use Rattle.ae_just.proofs.laws.differences_of_values_have_a_line.Goals as goal

pub returns : goal.returns
returns c = apart_line

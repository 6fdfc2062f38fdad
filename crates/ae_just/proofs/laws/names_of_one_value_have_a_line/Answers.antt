use Rattle.ae_just.proofs.ValueLaws.{alike_line}
use Rattle.ae_just.proofs.laws.names_of_one_value_have_a_line.Goals as goal

pub returns : goal.returns
returns c = alike_line

use Rattle.ae_just.proofs.ValueLaws.{multiple_line}
use Rattle.ae_just.proofs.laws.multiples_have_a_line.Goals as goal

pub returns : goal.returns
returns c = multiple_line

use Rattle.ae_just.proofs.ValueLaws.{difference_line}
use Rattle.ae_just.proofs.laws.differences_have_a_line.Goals as goal

pub returns : goal.returns
returns c = difference_line

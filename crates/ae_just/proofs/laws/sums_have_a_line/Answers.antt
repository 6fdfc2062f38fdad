use Rattle.ae_just.proofs.ValueLaws.{sum_line}
use Rattle.ae_just.proofs.laws.sums_have_a_line.Goals as goal

pub returns : goal.returns
returns c = sum_line

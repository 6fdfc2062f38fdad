use Rattle.ae_just.proofs.ValueLaws.{covered_line}
use Rattle.ae_just.proofs.laws.covered_names_have_a_line.Goals as goal

pub returns : goal.returns
returns c = covered_line

use Rattle.ae_just.proofs.ValueLaws.{solved_line}
use Rattle.ae_just.proofs.laws.solved_names_have_a_line.Goals as goal

pub returns : goal.returns
returns c = solved_line

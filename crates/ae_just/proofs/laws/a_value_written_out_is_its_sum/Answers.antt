use Rattle.ae_just.proofs.ValueLaws.{written_out}
use Rattle.ae_just.proofs.laws.a_value_written_out_is_its_sum.Goals as goal

pub returns : goal.returns
returns c = written_out

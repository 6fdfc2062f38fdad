use Rattle.ae_just.proofs.ValueLaws.{value_written}
use Rattle.ae_just.proofs.laws.a_value_equation_says_the_value.Goals as goal

pub returns : goal.returns
returns c = value_written

use Rattle.ae_just.proofs.ValueLaws.{put_line}
use Rattle.ae_just.proofs.laws.substitutions_have_a_line.Goals as goal

pub returns : goal.returns
returns c = put_line

use Rattle.ae_total_typing.proofs.Answered.{file_answered}
use Rattle.ae_total_typing.proofs.laws.every_file_is_answered.Goals as goal

pub returns : goal.returns
returns c = file_answered

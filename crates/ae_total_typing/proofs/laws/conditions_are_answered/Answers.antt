use Rattle.ae_total_typing.proofs.MetConditions.{conditions_answered}
use Rattle.ae_total_typing.proofs.laws.conditions_are_answered.Goals as goal

pub returns : goal.returns
returns c = conditions_answered

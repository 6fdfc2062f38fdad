use Rattle.ae_goal_parts.proofs.Ground.{ground_part}
use Rattle.ae_goal_parts.proofs.laws.ground_parts.Goals as goal

pub returns : goal.returns
returns c = ground_part

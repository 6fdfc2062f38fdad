use Rattle.ae_just.proofs.OneNeeded.{needed_same}
use Rattle.ae_just.proofs.laws.needed_steps_are_one_list.Goals as goal

pub returns : goal.returns
returns c = needed_same

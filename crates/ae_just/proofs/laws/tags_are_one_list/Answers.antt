use Rattle.ae_just.proofs.OneNeeded.{tags_same}
use Rattle.ae_just.proofs.laws.tags_are_one_list.Goals as goal

pub returns : goal.returns
returns c = tags_same

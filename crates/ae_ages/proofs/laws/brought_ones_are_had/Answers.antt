use Rattle.ae_ages.proofs.Having.{brought_ones_are_had}
use Rattle.ae_ages.proofs.laws.brought_ones_are_had.Goals as goal

pub returns : goal.returns
returns c = brought_ones_are_had

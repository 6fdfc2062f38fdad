use Rattle.ae_row_sides.proofs.Whole.{sides_are_whole}
use Rattle.ae_row_sides.proofs.laws.sides_are_whole.Goals as goal

pub returns : goal.returns
returns c = sides_are_whole

use Rattle.ae_row_sides.proofs.Whole.{sides_are_ordered}
use Rattle.ae_row_sides.proofs.laws.sides_are_ordered.Goals as goal

pub returns : goal.returns
returns c = sides_are_ordered

use Rattle.ae_row_sides.proofs.Kept.{sides_are_kept}
use Rattle.ae_row_sides.proofs.laws.sides_are_kept.Goals as goal

pub returns : goal.returns
returns c = sides_are_kept

use Rattle.ae_bound_lines.proofs.Legal.{standing_assumed}
use Rattle.ae_bound_lines.proofs.laws.assumed_rows_stand.Goals as goal

pub returns : goal.returns
returns c = λ x js rows l strict integral tag r st n m a. standing_assumed x js rows st l strict integral tag r n m a

use Rattle.ae_agreed_rows.proofs.Points.{points_satisfy_literals}
use Rattle.ae_agreed_rows.proofs.laws.points_satisfy_literals.Goals as goal

pub returns : goal.returns
returns c = points_satisfy_literals

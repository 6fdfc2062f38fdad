use Rattle.ae_ineq.specs.Inner.Sets.{HasStage}
use Rattle.ae_point_widths.proofs.Steps.{licensed}
use Rattle.ae_point_widths.proofs.laws.point_widths_are_licensed.Goals as goal

pub returns : goal.returns
returns c = λ x js stages w rows none wide. licensed x js (HasStage stages) rows none w wide

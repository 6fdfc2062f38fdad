use Rattle.ae_bound_points.proofs.Closed.{positive_at, positive_before, zero_loose}
use Rattle.ae_bound_points.proofs.laws.open_rows_have_a_point.Goals as goal

pub returns : goal.returns
returns c = λ rows e closed was none loose point. record {
  each = λ r m z. positive_at rows closed was none loose e point r m z;
  before = λ r u m f. positive_before rows closed was none loose e point r u m f;
  loose = λ r m z. zero_loose rows closed was none loose r m z;
}

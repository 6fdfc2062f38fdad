use Rattle.ae_inequalities.proofs.More.{more_fit}
use Rattle.ae_inequalities.proofs.laws.fits_more.Goals as goal

pub returns : goal.returns
returns c = λ a b held e f. more_fit a b held e f

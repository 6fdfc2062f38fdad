use Rattle.ae_rounding.proofs.Lines.{rounds}
use Rattle.ae_rounding.proofs.laws.rounding_is_a_line.Goals as goal

pub returns : goal.returns
returns c = λ sig names strict f r from s t earlier k nf nr m rounded o e says_from says_to a b stated. (from, stated, rounds names strict f r from s t nf nr rounded o says_from says_to sig m e a b)

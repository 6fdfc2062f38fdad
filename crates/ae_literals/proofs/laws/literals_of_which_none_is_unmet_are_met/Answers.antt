use Rattle.ae_literals.proofs.Meeting.{are_met}
use Rattle.ae_literals.proofs.laws.literals_of_which_none_is_unmet_are_met.Goals as goal

pub returns : goal.returns
returns c = λ x said ls store names are none whole. are_met x said ls store names are none whole

use Rattle.ae_whole_values.proofs.Shown.{shown_whole}
use Rattle.ae_whole_values.proofs.laws.values_of_integers_are_whole.Goals as goal

pub returns : goal.returns
returns c = λ sig ts d known whole n t f e o v. shown_whole sig ts d known whole n t f e o v

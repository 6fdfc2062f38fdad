use Rattle.ae_whole_values.proofs.Held.{held_unsolvable}
use Rattle.ae_whole_values.proofs.laws.fractions_of_names_are_conflicts.Goals as goal

pub returns : goal.returns
returns c = λ sig ts now d steps assumed id keeps one arguments values said patterns rests f. held_unsolvable sig ts now d steps assumed keeps one arguments values said patterns id rests f

use Rattle.ae_whole_values.proofs.Unsolvable.{unsolvable}
use Rattle.ae_whole_values.proofs.laws.fractions_are_conflicts.Goals as goal

pub returns : goal.returns
returns c = λ sig ts y steps held n id f keeps one arguments values v fraction s rests. unsolvable sig ts y keeps one arguments values steps held n id f v fraction s rests

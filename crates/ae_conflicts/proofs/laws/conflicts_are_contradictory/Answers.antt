use Rattle.ae_conflicts.proofs.Contradictions.{contradictory}
use Rattle.ae_conflicts.proofs.laws.conflicts_are_contradictory.Goals as goal

pub returns : goal.returns
returns c = λ sig ts steps held x fits own. contradictory sig ts steps held fits x own

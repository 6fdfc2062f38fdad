use Rattle.std.proofs.Common.{[]}
use Rattle.ae_sizes.proofs.weights.leaf.Goals as goal

pub returns : goal.returns
returns c = c.round.ensures [] c.nothing.ensures

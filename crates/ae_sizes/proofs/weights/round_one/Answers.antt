use Rattle.std.proofs.Common.{◌∷◌, []}
use Rattle.ae_sizes.proofs.weights.round_one.Goals as goal

pub returns : goal.returns
returns c = λ s p. c.round.ensures (s ∷ []) (c.side_by_side.ensures [] s c.nothing.ensures p)

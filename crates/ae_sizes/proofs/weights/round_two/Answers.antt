use Rattle.std.proofs.Common.{◌∷◌, []}
use Rattle.ae_sizes.proofs.weights.round_two.Goals as goal

pub returns : goal.returns
returns c = λ s t p q. c.round.ensures (s ∷ t ∷ []) (c.side_by_side-2.ensures (s ∷ []) t (c.side_by_side.ensures [] s c.nothing.ensures p) q)

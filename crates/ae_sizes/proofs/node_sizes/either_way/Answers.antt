use Rattle.std.proofs.Common.{◌∷◌, []}
use Rattle.ae_elab.specs.Sizes.{round}
use Rattle.ae_sizes.proofs.node_sizes.either_way.Goals as goal

pub returns : goal.returns
returns c = λ d s t p q r.
    c.round_two-3.ensures (round (round (d ∷ []) ∷ s ∷ [])) (round (d ∷ t ∷ []))
    (c.round_two.ensures (round (d ∷ [])) s (c.round_one.ensures d p) q) (c.round_two-2.ensures d t p r)

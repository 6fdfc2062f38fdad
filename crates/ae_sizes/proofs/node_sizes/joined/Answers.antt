use Rattle.std.proofs.Common.{◌∙◌, ◌∷◌, [], sym, ap}
use Rattle.ae_elab.specs.Sizes.{round}
use Rattle.ae_sizes.specs.Inner.Counted.{counted}
use Rattle.ae_elab.specs.Nodes.{join_of}
use Rattle.ae_sizes.specs.Inner.Weights.{claim_size}
use Rattle.ae_sizes.proofs.node_sizes.joined.Goals as goal

pub returns-in-Implication : goal.returns-in-Implication
returns-in-Implication c = λ f a b p q.
    c.round_two-in-Implication.ensures (round (claim_size f a ∷ [])) (claim_size f b) (c.round_one.ensures (claim_size f a) p) q
    ∙ ap (λ j. counted (claim_size f (join_of j a b))) (sym c.in-Implication.is)

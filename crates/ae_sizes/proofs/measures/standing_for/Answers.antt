use Rattle.std.proofs.Common.{◌∷◌, [], refl}
use Rattle.ae_elab.specs.Sizes.{round}
use Rattle.ae_elab.specs.Weights as rule
use Rattle.ae_sizes.proofs.measures.standing_for.Goals as goal

pub returns : goal.returns
returns c = λ w p.
    let b = rule.beside (round [] ∷ []) w in
    c.size_of.ensures (rule.within 1 b) (c.within.ensures 1 b refl (c.beside.ensures (round [] ∷ []) w c.leaf.ensures p))

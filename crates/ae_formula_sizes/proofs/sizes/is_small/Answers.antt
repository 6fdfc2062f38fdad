use Rattle.ae_formula_sizes.proofs.FormulaSizes.{small_by, small_of}
use Rattle.ae_formula_sizes.proofs.sizes.is_small.Goals as goal

pub returns : goal.returns
returns c = (λ h. small_by _ _ c.size_of_formula.ensures (c.is_within.ensures.0 h), λ h. c.is_within.ensures.1 (small_of _ _ c.size_of_formula.ensures h))

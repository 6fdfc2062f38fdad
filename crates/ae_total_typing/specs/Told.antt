-- How large a formula is, told from its typed tree without the formula: node by node, as it is counted.
use Rattle.std.specs.Prelude.{ℕ}
use Rattle.ae_core.specs.declared.terms.Sort.{Sort}
use Rattle.ae_elab.specs.Sizes.{Size}
use Rattle.ae_elab.specs.Trees.{Claim}
use Rattle.ae_sizes.specs.Inner.Weights.{claim_size}

abbrev pub told_size : (ℕ → Sort) → Claim → Size
told_size f c = claim_size f c

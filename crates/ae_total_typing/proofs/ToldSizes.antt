-- The size that is told from a typed tree is that of its formula.
use Rattle.std.proofs.Common.{◌≡◌, ℕ, List}
use Rattle.ae_core.specs.declared.terms.Sort.{Sort}
use Rattle.ae_elab.specs.Elaboration.{formula_in}
use Rattle.ae_elab.specs.Sizes.{formula_size}
use Rattle.ae_elab.specs.Trees.{Claim}
use Rattle.ae_sizes.proofs.FormulaSizes.{claim_weighs}
use Rattle.ae_total_typing.specs.Told.{told_size}

pub sizes_told : (f : ℕ → Sort) (env : List ℕ) (c : Claim) → formula_size (formula_in f env c) ≡ told_size f c
sizes_told f env c = claim_weighs f c env

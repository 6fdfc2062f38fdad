-- Which formulas are within the limits of a declaration.
use Rattle.std.specs.Prelude.{ℕ, Bool, Some, []}
use Rattle.ae_core.specs.declared.terms.Sort.{Sort}
use Rattle.ae_elab.specs.Conditions.{shown}
use Rattle.ae_elab.specs.Elaboration.{formula_in}
use Rattle.ae_elab.specs.Nodes.{Entry, claim_in}
use Rattle.ae_elab.specs.Sizes.{formula_size, is_within}

-- the formula that stands at a place, with the sorts that are shown of a typing, is within the limits
abbrev pub is_small_entry : (ℕ → Sort) → Entry → Bool
is_small_entry m e = is_within (formula_size (formula_in (shown m) [] (claim_in (Some e))))

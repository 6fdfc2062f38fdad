-- Literals that say that one number is below another.
use Rattle.std.specs.Prelude.{Bool, true, false, ◌&&◌}
use Rattle.ae_core.specs.declared.formulas.Formula.{Formula, Formula-F, out-Formula}
use Rattle.ae_core.specs.declared.formulas.Formula.TheOpen as layer_of
use Rattle.ae_core.specs.declared.formulas.Lit.{Lit}
use Rattle.ae_core.specs.declared.formulas.Quant.{Quant}

abbrev pub is_below_of : Formula-F Formula Quant → Bool
is_below_of (layer_of.Lt s t) = true
is_below_of _ = false

-- the formula says that one number is below another
unfoldable pub is_below : Formula → Bool
is_below f = is_below_of (out-Formula f)

-- the literal says that one number is below another
abbrev pub is_strict : Lit → Bool
is_strict l = l.positive && is_below l.formula

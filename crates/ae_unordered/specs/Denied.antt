-- Literals that deny equations.
use Rattle.std.specs.Prelude.{Bool, true, false, Option, Some, None}
use Rattle.ae_core.specs.declared.formulas.Formula.{Formula, Formula-F, out-Formula}
use Rattle.ae_core.specs.declared.formulas.Formula.TheOpen as layer
use Rattle.ae_core.specs.declared.formulas.Lit.{Lit}
use Rattle.ae_core.specs.declared.formulas.Quant.{Quant}
use Rattle.ae_core.specs.declared.terms.Term.{Term}

abbrev pub equation_by : Formula-F Formula Quant → Option (Term × Term)
equation_by (layer.Eq s u) = Some (s, u)
equation_by _ = None

abbrev pub denied_by : Bool → Formula → Option (Term × Term)
denied_by true f = None
denied_by false f = equation_by (out-Formula f)

-- the sides of the equation that it denies
abbrev pub denied_equation : Lit → Option (Term × Term)
denied_equation l = denied_by l.positive l.formula

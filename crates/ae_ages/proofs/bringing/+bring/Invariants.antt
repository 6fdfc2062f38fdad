use Rattle.ae_core.specs.declared.formulas.Formula.{size-Formula}
use Rattle.ae_ages.proofs.bringing.+bring.Given as goal

abbrev pub decreases-bring : goal.decreases-bring
decreases-bring l = size-Formula l.formula.now

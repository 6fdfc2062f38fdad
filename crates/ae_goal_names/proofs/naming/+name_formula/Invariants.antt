use Rattle.ae_core.specs.declared.formulas.Formula.{size-Formula}
use Rattle.ae_goal_names.proofs.naming.+name_formula.Given as goal

abbrev pub decreases-name_formula : goal.decreases-name_formula
decreases-name_formula l = size-Formula l.formula.now

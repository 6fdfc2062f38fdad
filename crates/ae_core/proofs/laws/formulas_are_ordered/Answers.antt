use Rattle.ae_core.proofs.OrderLaws.{formula_total, formula_exact}
use Rattle.ae_core.proofs.laws.formulas_are_ordered.Goals as goal

pub returns-clause-total : goal.returns-clause-total
returns-clause-total c = formula_total

pub returns-clause-exact : goal.returns-clause-exact
returns-clause-exact c = formula_exact

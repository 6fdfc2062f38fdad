use Rattle.std.proofs.Common.{ap, ◌∙◌, length, arith}
use Rattle.ae_core.specs.declared.formulas.Formula.{Formula, Formula-F, out-Formula}
use Rattle.ae_core.specs.declared.formulas.Formula.TheVariants.{outs-All}
use Rattle.ae_core.specs.declared.formulas.Quant.{Quant}
use Rattle.ae_rules.specs.Instances.{block_sorts}
use Rattle.ae_first_clauses.proofs.beginning.count_variables.Goals as goal

pub returns-in-All : goal.returns-in-All
returns-in-All c = omega (arith, c.len-count, ap (λ (f : Formula). length (block_sorts (out-Formula f))) c.in-All.is ∙ ap (λ (o : Formula-F Formula Quant). length (block_sorts o)) (outs-All c.in-All.quant))

use Rattle.std.proofs.Common.{◌∙◌, sym}
use Rattle.ae_elab.specs.Weights as rule
use Rattle.ae_sizes.proofs.MeasureLaws.{formula_there}
use Rattle.ae_sizes.proofs.measures.formula_in.Goals as goal

pub returns-in-Formula : goal.returns-in-Formula
returns-in-Formula c = λ f e p.
    c.standing_for.ensures (rule.one_case 1) c.one_case.ensures ∙ formula_there f e c.in-Formula.size c.in-Formula.block (sym c.in-Formula.is ∙ p)

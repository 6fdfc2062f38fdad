use Rattle.std.proofs.Common.{◌∙◌, ap}
use Rattle.ae_core.specs.declared.formulas.Formula.{Formula, Or, Not}
use Rattle.ae_elaboration.proofs.elaboration.where_true.Goals as goal

pub returns : goal.returns
returns c =
    c.in_ok-held.ensures
    ∙ ap (λ (z : Formula). Or z c.in_ok-positive.positive) c.in_ok-denied.ensures
    ∙ ap (λ (z : Formula). Or (Not z) c.in_ok-positive.positive) c.in_ok-copy.ensures
    ∙ ap (Or (Not c.args.condition.now)) c.in_ok-positive.ensures

use Rattle.std.proofs.Common.{◌≡◌, ◌∙◌, ap}
use Rattle.std.proofs.lemmas.Result.{IfOk-at_ok}
use Rattle.ae_core.specs.declared.formulas.Formula.{Formula, Or, And, Not}
use Rattle.ae_elaboration.proofs.elaboration.either_way.Goals as goal

pub returns : goal.returns
returns c =
    let made = c.in_ok-first in
    ap (λ (z : Formula). And z made.second) (IfOk-at_ok {T = Formula} (λ b. b ≡ Or (Not c.args.condition) c.args.positive) made.ensures.first c.where_true-yes.ensures)
    ∙ ap (And (Or (Not c.args.condition) c.args.positive)) (IfOk-at_ok {T = Formula} (λ b. b ≡ Or c.args.condition c.args.negative) made.ensures.second c.where_false-no.ensures)

use Rattle.std.proofs.Common.{◌≡◌, ◌∙◌, ap}
use Rattle.std.proofs.lemmas.Result.{IfOk-at_ok}
use Rattle.ae_core.specs.declared.formulas.Formula.{Formula, Or, Not}
use Rattle.ae_elaboration.proofs.elaboration.implication.Goals as goal

pub returns : goal.returns
returns c =
    let made = c.in_ok-denied in
    ap (λ (z : Formula). Or z made.right) (IfOk-at_ok {T = Formula} (λ b. b ≡ Not c.args.left) made.ensures.first c.denial-first.ensures)
    ∙ ap (Or (Not c.args.left)) (IfOk-at_ok {T = Formula} (λ b. b ≡ c.args.right) made.ensures.second c.new-second.ensures)

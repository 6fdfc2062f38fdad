use Rattle.std.proofs.Common.{◌≡◌, ◌∙◌, ap}
use Rattle.std.proofs.lemmas.Result.{IfOk-at_ok}
use Rattle.ae_core.specs.declared.formulas.Formula.{Formula, Or}
use Rattle.ae_elaboration.proofs.elaboration.disjunction.Goals as goal

pub returns : goal.returns
returns c =
    let made = c.in_ok-left in
    ap (λ (z : Formula). Or z made.right) (IfOk-at_ok {T = Formula} (λ b. b ≡ c.args.left) made.ensures.first c.new-first.ensures)
    ∙ ap (Or c.args.left) (IfOk-at_ok {T = Formula} (λ b. b ≡ c.args.right) made.ensures.second c.new-second.ensures)

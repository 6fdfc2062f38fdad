use Rattle.std.proofs.Common.{ap, ◌∙◌}
use Rattle.std.proofs.lemmas.Option.{none-some, same_Some}
use Rattle.std.proofs.lemmas.Result.{IfOk-weaker}
use Rattle.ae_core.specs.Sorts.{formula_ok}
use Rattle.ae_conflicts.specs.declared.assumed.Assumed.{Assumed}
use Rattle.ae_unmet.proofs.saying.is_sorted_at.Goals as goal

pub returns-in-Some : goal.returns-in-Some
returns-in-Some c =
    IfOk-weaker c.formula_ok.result _ _
    (λ b h a e. h ∙ ap (λ (x : Assumed). formula_ok c.args.held.now.signature (x.lit).formula) (same_Some c.in-Some.assumed.now a (c.in-Some.ensures.value ∙ e))) c.formula_ok.ensures

pub returns-in-None : goal.returns-in-None
returns-in-None c a e = absurd (none-some a (c.in-None.ensures.value ∙ e))

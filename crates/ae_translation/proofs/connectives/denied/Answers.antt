use Rattle.std.proofs.Common.{◌≡◌, ap}
use Rattle.std.proofs.lemmas.Result.{IfOk-at_ok}
use Rattle.ae_core.specs.declared.formulas.Formula.{Formula, Not}
use Rattle.ae_translation.proofs.NodeRules.{same_answer}
use Rattle.ae_translation.proofs.connectives.denied.Goals as goal

pub returns-in-Ok : goal.returns-in-Ok
returns-in-Ok c f p = same_answer c.new.result _ _ (ap Not (IfOk-at_ok (λ (z : Formula). z ≡ f) c.in-Ok.is p)) c.new.ensures

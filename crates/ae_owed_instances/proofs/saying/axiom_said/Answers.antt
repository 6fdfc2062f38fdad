use Rattle.std.proofs.Common.{sym, ap, ◌∙◌}
use Rattle.std.proofs.lemmas.Result.{IfOk-weaker}
use Rattle.ae_core.specs.declared.formulas.Formula.{Formula, out-Formula}
use Rattle.ae_owed_instances.proofs.Said.{axiom_said, none_said}
use Rattle.ae_owed_instances.specs.Inner.Saying.{axiom_literals}
use Rattle.ae_owed_instances.proofs.saying.axiom_said.Goals as goal

pub returns-in-None : goal.returns-in-None
returns-in-None c =
    c.new.ensures ∙ none_said c.args.task.problem.now c.args.task.goal c.args.sorts.now c.args.terms.now c.args.place (sym c.in_ok-hypothesis.ensures ∙ c.in-None.is)

pub returns-in-Some : goal.returns-in-Some
returns-in-Some c =
    IfOk-weaker c.formula_said.result _ _
    (λ ls e. e ∙ ap (λ (f : Formula). axiom_literals c.args.terms.now f (out-Formula f)) c.get.ensures
    ∙ axiom_said c.args.task.problem.now c.args.task.goal c.args.sorts.now c.args.terms.now c.args.place c.in-Some.formula (sym c.in_ok-hypothesis.ensures ∙ c.in-Some.is))
    c.formula_said.ensures

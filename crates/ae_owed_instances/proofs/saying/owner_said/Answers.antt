use Rattle.std.proofs.Common.{ap, ◌∙◌}
use Rattle.std.proofs.lemmas.Result.{IfOk-weaker}
use Rattle.ae_core.specs.declared.formulas.Formula.{Formula, out-Formula}
use Rattle.ae_owed_instances.proofs.Said.{literal_said, place_said}
use Rattle.ae_owed_instances.specs.Inner.Saying.{block_literals}
use Rattle.ae_owed_instances.proofs.saying.owner_said.Goals as goal

pub returns-in-None : goal.returns-in-None
returns-in-None c =
    IfOk-weaker c.block_said.result _ _
    (λ ls e. e ∙ ap (λ (f : Formula). block_literals c.args.owner.now.positive c.args.terms.now (out-Formula f)) c.get.ensures
    ∙ literal_said c.args.task.problem.now c.args.task.goal c.args.sorts.now c.args.terms.now c.args.owner.now c.in-None.is)
    c.block_said.ensures

pub returns-in-Some : goal.returns-in-Some
returns-in-Some c =
    IfOk-weaker c.axiom_said.result _ _
    (λ ls e. e ∙ place_said c.args.task.problem.now c.args.task.goal c.args.sorts.now c.args.terms.now c.args.owner.now c.in-Some.place c.in-Some.is)
    c.axiom_said.ensures

use Rattle.std.proofs.Common.{◌≡◌, ◌∙◌, ap}
use Rattle.std.proofs.lemmas.Result.{IfOk-at_ok}
use Rattle.ae_core.specs.declared.formulas.Formula.{Formula}
use Rattle.ae_elab.specs.Elaboration.{either_way}
use Rattle.ae_lifting.specs.Inner.Answered.{AreOk}
use Rattle.ae_lifting.proofs.cases.either_of.Goals as goal

pub returns : goal.returns
returns c =
    let all = c.in_ok-kept in
    let same = c.into_inner-condition.ensures ∙ IfOk-at_ok {T = Formula} (λ b. b ≡ c.args.condition) all.ensures.0 c.new-kept.ensures in
    let formulas = IfOk-at_ok (λ v. AreOk c.args.positive c.args.negative v.0 v.1) all.ensures.1 c.both-formulas.ensures in (
      all.left,
      all.right,
      formulas,
      c.in_ok-whole.ensures ∙ ap (λ (z : Formula). either_way z all.left all.right) same,
    )

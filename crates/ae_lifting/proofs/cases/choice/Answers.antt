use Rattle.std.proofs.Common.{◌≡◌, ◌∙◌, ap}
use Rattle.std.proofs.lemmas.Result.{IfOk-at_ok}
use Rattle.ae_core.specs.declared.formulas.Formula.{Formula}
use Rattle.ae_elab.specs.Elaboration.{branch}
use Rattle.ae_lifting.specs.declared.cases.Cases as held
use Rattle.ae_lifting.specs.Inner.Answered.{AreOk}
use Rattle.ae_lifting.specs.Lifting.{cases_of}
use Rattle.ae_lifting.proofs.LiftingLaws.{cases_branch}
use Rattle.ae_lifting.proofs.cases.choice.Goals as goal

pub returns : goal.returns
returns c =
    let made = c.in_ok-kept in
    let parts = IfOk-at_ok (λ v. AreOk c.new-left.result c.new-right.result v.0 v.1) made.ensures.1 c.both-parts.ensures in
    let same = c.into_inner-condition.ensures ∙ IfOk-at_ok {T = Formula} (λ b. b ≡ c.args.condition) made.ensures.0 c.new-kept.ensures in
    cases_branch c.into_inner-condition.result made.positive made.negative
    ∙ ap (λ (z : Formula). branch z (cases_of made.positive) (cases_of made.negative)) same
    ∙ ap (λ (z : held.Cases). branch c.args.condition (cases_of z) (cases_of made.negative))
    (IfOk-at_ok {T = held.Cases} (λ b. b ≡ c.args.positive) parts.0 c.new-left.ensures)
    ∙ ap (λ (z : held.Cases). branch c.args.condition (cases_of c.args.positive) (cases_of z))
    (IfOk-at_ok {T = held.Cases} (λ b. b ≡ c.args.negative) parts.1 c.new-right.ensures)

use Rattle.std.proofs.Common.{refl, ap, Some, None}
use Rattle.ae_math.specs.Fractions.{◌+ℚ◌}
use Rattle.ae_num.specs.declared.forms.Lin.{Lin}
use Rattle.ae_journal.specs.Points.{half}
use Rattle.ae_journal.specs.declared.answers.NumStep.TheVariants.{Plus, Scale}
use Rattle.ae_ineq.specs.Inner.Points.{amount}
use Rattle.ae_ineq.specs.Inner.Steps.{IsChoiceStep}
use Rattle.ae_ineq.specs.Inner.Steps.IsChoiceStep.{add, halve}
use Rattle.ae_ineq.proofs.StepLaws.{wide_from, amount_is, same_fail}
use Rattle.ae_ineq.proofs.point.mean.Goals as goal

pub returns-in_err-sum-clause-wide : goal.returns-in_err-sum-clause-wide
returns-in_err-sum-clause-wide c =
    let l = c.args.low in
    let h = c.args.high in
    λ w e. wide_from (IsChoiceStep (Some l) (Some h)) Plus l None h w (c.in_err-sum.ensures.wide w (same_fail c.from_residual.result c.in_err-sum.field-0.0 w c.from_residual.ensures.1 e))
    (add l h l h (amount_is l (amount l) c.requires.low refl) (amount_is h (amount h) c.requires.high refl))

pub returns-clause-wide : goal.returns-clause-wide
returns-clause-wide c =
    let l = c.args.low in
    let h = c.args.high in
    let s = c.in_ok-sum.sum in
    let r = c.fraction.result in
    λ w e. wide_from (IsChoiceStep (Some l) (Some h)) Scale s None r w (c.multiplied.ensures.wide w e)
    (halve l h s r (amount_is s (amount l +ℚ amount h) c.in_ok-sum.ensures.number c.in_ok-sum.ensures.value)
    (amount_is r half (record { normal = c.fraction.ensures.normal; bare = ap (λ (f : Lin). f.parts) c.fraction.ensures.form }) c.fraction.ensures.meaning.constants))

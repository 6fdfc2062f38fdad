use Rattle.std.specs.Prelude.{◌≡◌, Some, None}
use Rattle.ae_math.specs.Forms.{plus, minus}
use Rattle.ae_num.specs.declared.forms.Lin.{Lin}
use Rattle.ae_num.specs.declared.numbers.Wide.{Wide}
use Rattle.ae_num.specs.declared.numbers.NumFail.{NumFail}
use Rattle.ae_num.specs.Forms.{meaning, SameMeaning, IsNormal, first_wide, IfWide, plus_steps, sum_of}
use Rattle.ae_num.proofs.StepLaws.{same_err}
use Rattle.ae_base.proofs.Results.{if_ok_both}
use Rattle.ae_rules.specs.Linear.{form}
use Rattle.ae_numeric.specs.Stated.{computed, subtracted, taken_down, minus_one}
use Rattle.ae_numeric.specs.Computing.{IsFormOf, IsResult, IsWideIn}
use Rattle.ae_numeric.specs.Inner.Rounding.{lowered}
use Rattle.ae_numeric.proofs.Computations.{if_err}
use Rattle.ae_numeric.proofs.RoundingSteps.{lowered_form, lowered_result, lowered_wide, taken_down_wide}
use Rattle.ae_numeric.proofs.rounding.gap_of.Goals as goal

pub returns-in_err-gap-clause-wide : goal.returns-in_err-gap-clause-wide
returns-in_err-gap-clause-wide c =
    let a = subtracted (computed c.args.right.now) (computed c.args.left.now) in
    let before = c.args.keys.now in
    same_err c.from_residual.result c.in_err-gap.field-0.0 (λ (w : Wide). first_wide (a before).steps ≡ Some w) (λ (w : Wide). first_wide ((taken_down c.args.relation a) before).steps ≡ Some w)
    c.from_residual.ensures.1 (taken_down_wide c.args.relation a before) c.in_err-gap.ensures.wide

pub returns-in-Below-clause-result : goal.returns-in-Below-clause-result
returns-in-Below-clause-result c =
    let a = subtracted (computed c.args.right.now) (computed c.args.left.now) in
    let before = c.args.keys.now in
    let after = c.difference.new.keys in
    let f = c.in_ok-gap.gap in
    if_ok_both c.less_one.result (λ h. h ≡ sum_of f minus_one) (λ h. first_wide (plus_steps f minus_one) ≡ None) (λ h. IsResult (taken_down c.args.relation a) before after h)
    (λ (h : Lin) e w. lowered_result c.args.relation a before after f h c.in-Below.is c.in_ok-gap.ensures.result e w) c.less_one.ensures.form c.less_one.ensures.fits

pub returns-in-Below-clause-meaning : goal.returns-in-Below-clause-meaning
returns-in-Below-clause-meaning c =
    let m = minus (form c.args.right.now) (form c.args.left.now) in
    let after = c.difference.new.keys in
    let f = c.in_ok-gap.gap in
    if_ok_both c.less_one.result (λ h. SameMeaning (meaning h) (plus (meaning f) (meaning minus_one))) IsNormal (λ h. IsFormOf after h (lowered c.args.relation m))
    (λ (h : Lin) s n. lowered_form c.args.relation after f h m c.in-Below.is c.in_ok-gap.ensures.meaning n s) c.less_one.ensures.meaning c.less_one.ensures.normal

pub returns-in-Below-clause-wide : goal.returns-in-Below-clause-wide
returns-in-Below-clause-wide c =
    let a = subtracted (computed c.args.right.now) (computed c.args.left.now) in
    let before = c.args.keys.now in
    let after = c.difference.new.keys in
    let f = c.in_ok-gap.gap in
    if_err c.less_one.result (λ e. IfWide e (λ w. first_wide (plus_steps f minus_one) ≡ Some w)) (λ e. IsWideIn (taken_down c.args.relation a) before e)
    (λ (e : NumFail) h. lowered_wide c.args.relation a before after f e c.in-Below.is c.in_ok-gap.ensures.result h) c.less_one.ensures.wide

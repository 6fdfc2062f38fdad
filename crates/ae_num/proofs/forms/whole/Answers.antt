use Rattle.std.specs.Prelude.{◌≡◌, Some}
use Rattle.std.proofs.Common.{◌∙◌}
use Rattle.ae_num.specs.declared.numbers.Wide.{Wide}
use Rattle.ae_num.specs.Forms.{first_wide}
use Rattle.ae_num.specs.Inner.Pairs.{pairs_of}
use Rattle.ae_num.specs.Inner.Reduction.{whole_steps}
use Rattle.ae_num.proofs.StepLaws.{wide_err, same_err}
use Rattle.ae_num.proofs.WholeLaws.{parts_wide, constant_wide, whole_fits}
use Rattle.ae_num.proofs.forms.whole.Goals as goal

pub returns-in_err-parts-clause-wide : goal.returns-in_err-parts-clause-wide
returns-in_err-parts-clause-wide c =
    let p = c.args.left.now in
    let q = c.args.right.now in
    let pairs = c.as_slice-3.ensures ∙ c.in_ok-pairs.ensures ∙ (λ i. pairs_of (c.as_slice.ensures i) (c.as_slice-2.ensures i)) in
    same_err c.from_residual-in_err-parts.result c.in_err-parts.field-0.0 _ (λ (w : Wide). first_wide (whole_steps c.args.rule p q) ≡ Some w) c.from_residual-in_err-parts.ensures.1
    (λ (w : Wide) h. parts_wide c.args.rule p q c.in_ok-den.ensures.fits c.as_slice-3.result.now w pairs h) c.in_err-parts.ensures.wide

pub returns-in_err-constant-clause-wide : goal.returns-in_err-constant-clause-wide
returns-in_err-constant-clause-wide c =
    let p = c.args.left.now in
    let q = c.args.right.now in
    let pairs = c.as_slice-3.ensures ∙ c.in_ok-pairs.ensures ∙ (λ i. pairs_of (c.as_slice.ensures i) (c.as_slice-2.ensures i)) in
    wide_err c.from_residual-in_err-constant.result c.in_err-constant.field-0.0 (λ (w : Wide). first_wide (whole_steps c.args.rule p q) ≡ Some w) c.from_residual-in_err-constant.ensures.1
    (constant_wide c.args.rule p q c.in_ok-den.ensures.fits c.as_slice-3.result.now c.constants.result c.in_err-constant.field-0.0 pairs c.in_ok-parts.ensures.fits c.constants.ensures c.in_err-constant.ensures.wide)

pub returns-clause-fits : goal.returns-clause-fits
returns-clause-fits c =
    let p = c.args.left.now in
    let q = c.args.right.now in
    let pairs = c.as_slice-3.ensures ∙ c.in_ok-pairs.ensures ∙ (λ i. pairs_of (c.as_slice.ensures i) (c.as_slice-2.ensures i)) in
    whole_fits c.args.rule p q c.in_ok-den.ensures.fits c.as_slice-3.result.now c.constants.result pairs c.in_ok-parts.ensures.fits c.constants.ensures c.in_ok-constant.ensures.fits

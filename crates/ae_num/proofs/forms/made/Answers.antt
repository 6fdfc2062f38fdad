use Rattle.std.specs.Prelude.{◌≡◌, Some}
use Rattle.std.proofs.Common.{subst, ap, ◌∙◌}
use Rattle.ae_num.specs.declared.numbers.Wide.{Wide}
use Rattle.ae_num.specs.declared.forms.Lin.{Lin}
use Rattle.ae_num.specs.Forms.{first_wide, lowest, Reduced}
use Rattle.ae_num.specs.Inner.Reduction.{whole_steps}
use Rattle.ae_num.proofs.StepLaws.{same_err}
use Rattle.ae_num.proofs.WholeLaws.{whole_rising, whole_nonzero, whole_small, whole_positive}
use Rattle.ae_num.proofs.forms.made.Goals as goal

pub returns-in_err-form-clause-wide : goal.returns-in_err-form-clause-wide
returns-in_err-form-clause-wide c =
    same_err c.from_residual.result c.in_err-form.field-0.0 _ (λ (w : Wide). first_wide (whole_steps c.args.rule c.args.left.now c.args.right.now) ≡ Some w) c.from_residual.ensures.1 (λ (w : Wide) h. h) c.in_err-form.ensures.wide

pub reduced-requires-clause-positive : goal.reduced-requires-clause-positive
reduced-requires-clause-positive c = whole_positive c.args.rule c.args.left.now c.args.right.now c.in_ok-form.form c.in_ok-form.ensures.exact c.requires.left_den c.requires.right_den

pub reduced-requires-clause-rising : goal.reduced-requires-clause-rising
reduced-requires-clause-rising c = whole_rising c.args.rule c.args.left.now c.args.right.now c.in_ok-form.form c.in_ok-form.ensures.exact c.requires.right

pub reduced-requires-clause-nonzero : goal.reduced-requires-clause-nonzero
reduced-requires-clause-nonzero c = whole_nonzero c.args.rule c.args.left.now c.args.right.now c.in_ok-form.form c.in_ok-form.ensures.exact

pub reduced-requires-clause-within : goal.reduced-requires-clause-within
reduced-requires-clause-within c = whole_small c.args.rule c.args.left.now c.args.right.now c.in_ok-form.form c.in_ok-form.ensures.exact c.in_ok-form.ensures.fits

pub returns-clause-exact : goal.returns-clause-exact
returns-clause-exact c = subst (λ (w : Lin). Reduced w c.in_ok-reduced.field-0) c.in_ok-form.ensures.exact c.in_ok-reduced.ensures.exact

pub returns-clause-form : goal.returns-clause-form
returns-clause-form c = c.in_ok-reduced.ensures.form ∙ ap lowest c.in_ok-form.ensures.exact

-- The products and sums of a difference, and of its solution, that leave the limits.
use Rattle.std.specs.Prelude.{◌≡◌, Some, None}
use Rattle.ae_num.specs.Forms.{IsNormal, first_wide, plus_steps, difference_steps, scale_steps}
use Rattle.ae_num.specs.declared.forms.Lin.{Lin}
use Rattle.ae_journal.specs.declared.answers.NumStep.TheVariants as step
use Rattle.ae_journal.specs.declared.answers.WideAt.{WideAt}
use Rattle.ae_linear.specs.Solving.{IsScaling}
use Rattle.ae_name_licences.specs.Joining.{IsNegation}

-- of the sum of two forms
pub record IsSumWide (f h : Lin) (w : WideAt) : Type 0 where
  pub step_is : w.step ≡ step.Plus
  pub key_is : w.key ≡ None
  pub left_is : w.left ≡ f
  pub right_is : w.right ≡ h
  pub wide_is : first_wide (plus_steps f h) ≡ Some w.wide

-- of the sum of one form and the other times -1
pub record IsDifferenceWide (f g : Lin) (w : WideAt) : Type 0 where
  pub step_is : w.step ≡ step.Plus
  pub key_is : w.key ≡ None
  pub left_is : w.left ≡ f
  pub right_is : IsNegation g w.right
  pub wide_is : first_wide (difference_steps f g) ≡ Some w.wide

-- of the form without its largest name times the number that makes it the value of that name
pub record IsScalingWide (d : Lin) (w : WideAt) : Type 0 where
  pub step_is : w.step ≡ step.Scale
  pub key_is : w.key ≡ None
  pub scaling : IsScaling d w.right w.left
  pub number : IsNormal w.right
  pub wide_is : first_wide (scale_steps w.right.constant w.right.den w.left) ≡ Some w.wide

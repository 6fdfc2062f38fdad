-- The products and sums of a difference that leave the limits.
use Rattle.std.specs.Prelude.{◌≡◌, Some, None}
use Rattle.ae_num.specs.Forms.{first_wide, difference_steps}
use Rattle.ae_num.specs.declared.forms.Lin.{Lin}
use Rattle.ae_journal.specs.declared.answers.NumStep.TheVariants as step
use Rattle.ae_journal.specs.declared.answers.WideAt.{WideAt}
use Rattle.ae_name_licences.specs.Joining.{IsNegation}

-- the first of those of the sum of one form and the other times -1
pub record IsDifferenceWide (f g : Lin) (w : WideAt) : Type 0 where
  pub step_is : w.step ≡ step.Plus
  pub key_is : w.key ≡ None
  pub left_is : w.left ≡ f
  pub right_is : IsNegation g w.right
  pub wide_is : first_wide (difference_steps f g) ≡ Some w.wide

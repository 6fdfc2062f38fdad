-- The width of a sum.
use Rattle.std.specs.Prelude.{◌≡◌, Some, None}
use Rattle.ae_num.specs.Forms.{first_wide, plus_steps}
use Rattle.ae_num.specs.declared.forms.Lin.{Lin}
use Rattle.ae_journal.specs.declared.answers.NumStep.TheVariants as step
use Rattle.ae_journal.specs.declared.answers.WideAt.{WideAt}

pub record IsSumWide (f h : Lin) (w : WideAt) : Type 0 where
  pub step_is : w.step ≡ step.Plus
  pub key_is : w.key ≡ None
  pub left_is : w.left ≡ f
  pub right_is : w.right ≡ h
  pub wide_is : first_wide (plus_steps f h) ≡ Some w.wide

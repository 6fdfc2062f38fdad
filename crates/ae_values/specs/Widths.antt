-- A number that can't be put for a name, since a product or a sum in a value leaves the limits.
use Rattle.std.specs.Prelude.{ℕ, ◌<◌, ◌≡◌, slice_get, Some}
use Rattle.ae_num.specs.Forms.{first_wide, subst_steps}
use Rattle.ae_num.specs.declared.forms.Lin.{Lin}
use Rattle.ae_num.specs.declared.forms.Value as value
use Rattle.ae_journal.specs.declared.answers.NumStep.TheVariants as step
use Rattle.ae_journal.specs.declared.answers.WideAt.{WideAt}
use Rattle.ae_linear.specs.Rows.{row_at, FitsAt}
use Rattle.ae_value_table.specs.Table.{Contents, values}

-- the step puts the number for the name in the value of a name; that is the first value, by rising name, in which a product or a sum leaves the limits, and its first one
pub record IsPutWide (c : Contents) (name : ℕ) (number : Lin) (w : WideAt) : Type 0 where
  pub step : w.step ≡ step.Subst
  pub key : w.key ≡ Some name
  pub right : w.right ≡ number
  pub of : ℕ
  pub left : slice_get (values c) of ≡ Some (value.Number w.left)
  pub wide : first_wide (subst_steps w.left name number) ≡ Some w.wide
  pub before : (n : ℕ) → n < of → FitsAt (row_at c.rows n) name number

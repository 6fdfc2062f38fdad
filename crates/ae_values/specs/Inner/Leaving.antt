-- A row in which a product or a sum leaves the limits, where a number is put for a name.
use Rattle.std.specs.Prelude.{ℕ, ◌<◌, ◌≡◌, Option, Some}
use Rattle.ae_num.specs.Forms.{first_wide, subst_steps}
use Rattle.ae_num.specs.declared.forms.Lin.{Lin}
use Rattle.ae_num.specs.declared.numbers.Wide.{Wide}
use Rattle.ae_journal.specs.declared.answers.NumStep.TheVariants as step
use Rattle.ae_journal.specs.declared.answers.WideAt.{WideAt}
use Rattle.ae_linear.specs.declared.rows.Row.{Row}
use Rattle.ae_linear.specs.Rows.{row_at, FitsAt}
use Rattle.ae_value_table.specs.Table.{Contents}

-- the form is the row's, and its first product or sum that leaves the limits
pub record IsLeaving (o : Option Row) (name : ℕ) (number left : Lin) (first : Wide) : Type 0 where
  pub row : Row
  pub there : o ≡ Some row
  pub form : left ≡ row.value
  pub wide : first_wide (subst_steps left name number) ≡ Some first

-- the first such row, by rising name
pub record IsRowWide (c : Contents) (name : ℕ) (number : Lin) (w : WideAt) : Type 0 where
  pub step : w.step ≡ step.Subst
  pub key : w.key ≡ Some name
  pub right : w.right ≡ number
  pub of : ℕ
  pub leaving : IsLeaving (row_at c.rows of) name number w.left w.wide
  pub before : (n : ℕ) → n < of → FitsAt (row_at c.rows n) name number

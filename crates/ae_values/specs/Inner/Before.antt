-- The values in which a name stands, before another is put for it.
use Rattle.std.specs.Prelude.{ℕ, true, List, ◌≡◌, slice_get, Some}
use Rattle.ae_linear.specs.declared.rows.Row.{Row}
use Rattle.ae_linear.specs.Rows.{row_at}
use Rattle.ae_pmap.specs.Forest.{present}
use Rattle.ae_pmap.specs.Pairs.{found}
use Rattle.ae_num.specs.Forms.{has_key, factor_of}
use Rattle.ae_value_table.specs.Table.{Contents, just_at}
use Rattle.ae_values.specs.declared.occurrences.Change.{Change}
use Rattle.ae_values.specs.declared.occurrences.Follower.{Follower}

-- the change is of a row that has the name
pub record IsBefore (c : Contents) (name : ℕ) (change : Change) : Type 0 where
  pub row : Row
  pub there : row_at c.rows change.name ≡ Some row
  pub has : has_key row.value.parts name ≡ true
  pub den : change.before.den ≡ row.value.den
  pub factor : change.before.factor ≡ factor_of row.value.parts name
  pub step : just_at c change.name ≡ Some change.before.step

-- one of the changes is of this name
pub record IsChanged (changes : List Change) (n : ℕ) : Type 0 where
  pub place : ℕ
  pub change : Change
  pub there : slice_get changes place ≡ Some change
  pub is : change.name ≡ n

-- the name has this leaf
pub record IsFollowing (c : Contents) (leaf : ℕ) (follower : Follower) : Type 0 where
  pub there : found (present c.leaves) follower.name ≡ Some leaf
  pub step : just_at c follower.name ≡ Some follower.step

-- one of the followers is this name
pub record IsFollower (followers : List Follower) (n : ℕ) : Type 0 where
  pub place : ℕ
  pub follower : Follower
  pub there : slice_get followers place ≡ Some follower
  pub is : follower.name ≡ n

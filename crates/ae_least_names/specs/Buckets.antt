-- The least names that are alike, for the first names, and buckets in which they stand.
use Rattle.std.specs.Prelude.{ℕ, List, [], ◌≡◌, ◌%◌, slice_get, get_or, Some, IsTrue}
use Rattle.std.specs.List.{Contains}
use Rattle.ae_value_table.specs.Table.{Contents}
use Rattle.ae_value_table.specs.Alike.{alike, IsLeastAlike}
use Rattle.ae_least_names.specs.Keys.{key}

-- it stands for a name that is alike
pub record IsMet (c : Contents) (reps : List ℕ) (name r : ℕ) : Type 0 where
  pub other : ℕ
  pub same : IsTrue (alike c other name)
  pub there : slice_get reps other ≡ Some r

abbrev pub slot : Contents → ℕ → ℕ
slot c n = key c n % c.taken

-- each stands in the bucket of its number
pub record AreMet (c : Contents) (reps : List ℕ) (buckets : List (List ℕ)) : Type 0 where
  pub least : (n r : ℕ) → slice_get reps n ≡ Some r → IsLeastAlike c n r
  pub listed : (n r : ℕ) → slice_get reps n ≡ Some r → Contains (get_or buckets (slot c r) []) r

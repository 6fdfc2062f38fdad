-- Rules that have a name in their left sides which isn't its own representative. A name that the list of representatives lacks is its own.
use Rattle.std.specs.Prelude.{ℕ, ◌<◌, ◌≡◌, ◌≢◌, List, slice_index_or, Option, Some}
use Rattle.ae_multiset.specs.Multisets.{count}
use Rattle.ae_monoid.specs.declared.rules.Kept.{Kept}

pub record IsStale (reps : List ℕ) (o : Option Kept) : Type 0 where
  pub rule : Kept
  pub there : o ≡ Some rule
  pub name : ℕ
  pub stale : slice_index_or reps name name ≢ name
  pub has : 0 < count name rule.entry.left

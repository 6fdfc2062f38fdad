-- Sorts for the type variables of a pattern's sorts, so that they become given ones.
use Rattle.std.specs.Prelude.{ℕ, Bool, cond, nat_eq, List, [], ◌∷◌, ◌++◌, ◌≡◌, map, slice_get, Option, Some, None}
use Rattle.std.specs.List.{AllByRecursion}
use Rattle.ae_base.specs.Options.{or_else, ◌>>=◌}
use Rattle.ae_core.specs.Sorts.{same_sort}
use Rattle.ae_core.specs.declared.terms.Sort.{Sort, Sort-F, Var, fold-Sort, out-Sort}
use Rattle.ae_core.specs.declared.terms.Sort.TheOpen as sort_layer
use Rattle.ae_matching.specs.declared.sorts.SortBinding.{SortBinding}

abbrev pub found : ℕ → List SortBinding → Option Sort
found i [] = None
found i (b ∷ bs) = cond (nat_eq b.variable i) (Some b.sort) (found i bs)

-- a variable that has a sort must have this one
abbrev pub bind_found : ℕ → Sort → List SortBinding → Option Sort → Option (List SortBinding)
bind_found i s bs (Some t) = cond (same_sort t s) (Some bs) None
bind_found i s bs None = Some (bs ++ record { variable = i; sort = s } ∷ [])

-- whether a sort that is found is this one
abbrev pub is_bound : Sort → Option Sort → Option Bool
is_bound s (Some t) = Some (same_sort t s)
is_bound s None = None

abbrev pub bind : ℕ → Sort → List SortBinding → Option (List SortBinding)
bind i s bs = bind_found i s bs (found i bs)

abbrev pub SortMatcher : Type 0
SortMatcher = Sort → List SortBinding → Option (List SortBinding)

abbrev pub match_each : List SortMatcher → List Sort → List SortBinding → Option (List SortBinding)
match_each [] [] bs = Some bs
match_each [] (s ∷ ss) bs = None
match_each (f ∷ fs) [] bs = None
match_each (f ∷ fs) (s ∷ ss) bs = f s bs >>= match_each fs ss

abbrev pub match_named : ℕ → List SortMatcher → Sort-F Sort → List SortBinding → Option (List SortBinding)
match_named h fs (sort_layer.Named k ss) bs = cond (nat_eq h k) (match_each fs ss bs) None
match_named h fs _ bs = None

-- other sorts aren't compared here
abbrev pub match_sort_step : Sort-F SortMatcher → SortMatcher
match_sort_step (sort_layer.Var i) s bs = bind i s bs
match_sort_step (sort_layer.Named h fs) s bs = match_named h fs (out-Sort s) bs
match_sort_step _ s bs = Some bs

unfoldable pub match_sort : Sort → SortMatcher
match_sort = fold-Sort SortMatcher match_sort_step

abbrev pub match_sorts : List Sort → List Sort → List SortBinding → Option (List SortBinding)
match_sorts ps = match_each (map match_sort ps)

-- the bindings are those of the sorts
abbrev pub IsSortOf : List Sort → SortBinding → Type 0
IsSortOf sorts b = or_else (slice_get sorts b.variable) (Var b.variable) ≡ b.sort

abbrev pub AreSortsOf : List Sort → List SortBinding → Type 0
AreSortsOf sorts = AllByRecursion (IsSortOf sorts)

-- The sorts of all type variables of a pattern's sorts are found.
use Rattle.std.specs.Prelude.{ℕ, Bool, true, List, ◌≡◌, Some}
use Rattle.std.specs.List.{list_all}
use Rattle.ae_core.specs.declared.terms.Sort.{Sort, Sort-F, fold-Sort}
use Rattle.ae_core.specs.declared.terms.Sort.TheOpen as sort_layer
use Rattle.ae_matching.specs.declared.sorts.SortBinding.{SortBinding}
use Rattle.ae_matching.specs.SortMatching.{found, match_sorts}
use Rattle.ae_base.specs.Options.{known as is_some}

abbrev pub sort_pass_step : (ℕ → Bool) → Sort-F Bool → Bool
sort_pass_step ex (sort_layer.Var i) = ex i
sort_pass_step ex (sort_layer.Named h bs) = list_all (λ b. b) bs
sort_pass_step ex _ = true

-- each type variable of the sort passes
unfoldable pub sort_pass : (ℕ → Bool) → Sort → Bool
sort_pass ex = fold-Sort Bool (sort_pass_step ex)

abbrev pub has_sort : List SortBinding → ℕ → Bool
has_sort bs i = is_some (found i bs)

pub record SortsCovered (ps : List Sort) (old new : List SortBinding) : Type 0 where
  pub kept : (i : ℕ) → has_sort old i ≡ true → has_sort new i ≡ true
  pub all : list_all (sort_pass (has_sort new)) ps ≡ true

abbrev pub SortMatchingCovers : Type 0
SortMatchingCovers = (ps ss : List Sort) (old new : List SortBinding) → match_sorts ps ss old ≡ Some new → SortsCovered ps old new

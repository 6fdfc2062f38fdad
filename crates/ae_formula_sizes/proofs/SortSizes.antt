-- The size of each sort.
use Rattle.std.specs.Prelude.{ℕ, suc, ◌+◌, ◌<◌, ◌≡◌, max, List, [], length, take, get_or, map}
use Rattle.std.proofs.Common.{refl}
use Rattle.ae_core.specs.declared.terms.Sort.{Sort, Var, Rigid, Int, Real, Bool as BoolSort, Unit as UnitSort, Named}
use Rattle.ae_core.proofs.Recursion.{fold_var, fold_rigid, fold_int, fold_real, fold_bool, fold_unit, fold_named}
use Rattle.ae_journal.specs.Sizes.{joined, sort_size, sort_size_step}
use Rattle.ae_formula_sizes.specs.Inner.Counted.{both, leaf, nothing, round, size_of_sort, size_of_sorts, sum}
use Rattle.ae_formula_sizes.proofs.Ceilings.{is_leaf, is_round, all_more}

-- ---- the sizes of the journal
module _ (join : ℕ → ℕ → ℕ) where
  var_size : (n : ℕ) → sort_size join (Var n) ≡ 1
  unfolding sort_size
  var_size = fold_var ℕ (sort_size_step join)

  rigid_size : (n : ℕ) → sort_size join (Rigid n) ≡ 1
  unfolding sort_size
  rigid_size = fold_rigid ℕ (sort_size_step join)

  int_size : sort_size join Int ≡ 1
  unfolding sort_size
  int_size = fold_int ℕ (sort_size_step join)

  real_size : sort_size join Real ≡ 1
  unfolding sort_size
  real_size = fold_real ℕ (sort_size_step join)

  bool_size : sort_size join BoolSort ≡ 1
  unfolding sort_size
  bool_size = fold_bool ℕ (sort_size_step join)

  unit_size : sort_size join UnitSort ≡ 1
  unfolding sort_size
  unit_size = fold_unit ℕ (sort_size_step join)

  named_size : (h : ℕ) (ss : List Sort) → sort_size join (Named h ss) ≡ suc (joined join (map (sort_size join) ss))
  unfolding sort_size
  named_size = fold_named ℕ (sort_size_step join)

-- ---- as they are counted
leaf_sort : (s : Sort) → ((join : ℕ → ℕ → ℕ) → sort_size join s ≡ 1) → size_of_sort s ≡ leaf
unfolding size_of_sort
leaf_sort s e = is_leaf (sort_size sum s) (sort_size max s) (e sum) (e max)

pub sort_var : (n : ℕ) → size_of_sort (Var n) ≡ leaf
sort_var n = leaf_sort (Var n) (λ join. var_size join n)

pub sort_rigid : (n : ℕ) → size_of_sort (Rigid n) ≡ leaf
sort_rigid n = leaf_sort (Rigid n) (λ join. rigid_size join n)

pub sort_int : size_of_sort Int ≡ leaf
sort_int = leaf_sort Int int_size

pub sort_real : size_of_sort Real ≡ leaf
sort_real = leaf_sort Real real_size

pub sort_bool : size_of_sort BoolSort ≡ leaf
sort_bool = leaf_sort BoolSort bool_size

pub sort_unit : size_of_sort UnitSort ≡ leaf
sort_unit = leaf_sort UnitSort unit_size

pub sort_named : (h : ℕ) (ss : List Sort) → size_of_sort (Named h ss) ≡ round (size_of_sorts ss)
unfolding size_of_sort size_of_sorts
sort_named h ss =
    is_round (sort_size sum (Named h ss)) (sort_size max (Named h ss)) (joined sum (map (sort_size sum) ss)) (joined max (map (sort_size max) ss)) (named_size sum h ss) (named_size max h ss)

pub no_sorts : size_of_sorts [] ≡ nothing
unfolding size_of_sorts
no_sorts = refl

pub more_sorts : (ss : List Sort) (i : ℕ) (s : Sort) → i < length ss → s ≡ get_or ss i s → both (size_of_sorts (take i ss)) (size_of_sort s) ≡ size_of_sorts (take (i + 1) ss)
unfolding size_of_sort size_of_sorts
more_sorts = all_more (sort_size sum) (sort_size max)

pub ruleset sort_rules = (sort_var, sort_rigid, sort_int, sort_real, sort_bool, sort_unit, sort_named, no_sorts)

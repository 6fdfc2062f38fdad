-- How large sorts are.
use Rattle.std.proofs.Common.{◌≡◌, ℕ, List, [], ◌∷◌, map, refl, sym, ap, ◌∙◌}
use Rattle.std.specs.List.{AllByRecursion}
use Rattle.ae_core.specs.declared.terms.Sort.{Sort, Var, Rigid, Int, Real, Bool as BoolSort, Unit as UnitSort, Named}
use Rattle.ae_core.specs.Inner.Induction.{by_sorts}
use Rattle.ae_core.proofs.Recursion.{fold_var, fold_rigid, fold_int, fold_real, fold_bool, fold_unit, fold_named}
use Rattle.ae_elab.specs.Conditions.{blank, shown}
use Rattle.ae_elab.specs.Sizes.{Size, sort_size, sort_size_step, round}
use Rattle.ae_types.specs.Substitutions.{put}
use Rattle.ae_types.proofs.SortLaws.{put_var, put_rigid, put_int, put_real, put_bool, put_unit, put_named, put_put}

pub size_var : (i : ℕ) → sort_size (Var i) ≡ round []
unfolding sort_size
size_var = fold_var Size sort_size_step

pub size_rigid : (i : ℕ) → sort_size (Rigid i) ≡ round []
unfolding sort_size
size_rigid = fold_rigid Size sort_size_step

pub size_int : sort_size Int ≡ round []
unfolding sort_size
size_int = fold_int Size sort_size_step

pub size_real : sort_size Real ≡ round []
unfolding sort_size
size_real = fold_real Size sort_size_step

pub size_bool : sort_size BoolSort ≡ round []
unfolding sort_size
size_bool = fold_bool Size sort_size_step

pub size_unit : sort_size UnitSort ≡ round []
unfolding sort_size
size_unit = fold_unit Size sort_size_step

pub size_named : (h : ℕ) (args : List Sort) → sort_size (Named h args) ≡ round (map sort_size args)
unfolding sort_size
size_named = fold_named Size sort_size_step

pub ruleset sort_sizes_are = (size_var, size_rigid, size_int, size_real, size_bool, size_unit, size_named)

-- ---- what is left undetermined counts as one node
blanks : (ss : List Sort) → AllByRecursion (λ s. sort_size (blank s) ≡ sort_size s) ss → map sort_size (map blank ss) ≡ map sort_size ss
blanks [] a = refl
blanks (s ∷ ss) a = ap (λ x. x ∷ map sort_size (map blank ss)) a.0 ∙ ap (λ xs. sort_size s ∷ xs) (blanks ss a.1)

pub size_blank : (s : Sort) → sort_size (blank s) ≡ sort_size s
size_blank = by_sorts (λ s. sort_size (blank s) ≡ sort_size s)
    (λ n. ap sort_size (put_var (λ i. Var 0) n) ∙ size_var 0 ∙ sym (size_var n))
    (λ n. ap sort_size (put_rigid (λ i. Var 0) n))
    (ap sort_size (put_int (λ i. Var 0)))
    (ap sort_size (put_real (λ i. Var 0)))
    (ap sort_size (put_bool (λ i. Var 0)))
    (ap sort_size (put_unit (λ i. Var 0)))
    (λ h args a. ap sort_size (put_named (λ i. Var 0) h args) ∙ size_named h (map blank args) ∙ ap round (blanks args a) ∙ sym (size_named h args))

-- what is shown of a typing is as large as what it puts
pub size_shown : (m : ℕ → Sort) (s : Sort) → sort_size (put m s) ≡ sort_size (put (shown m) s)
size_shown m s = sym (size_blank (put m s)) ∙ ap sort_size (put_put (λ i. Var 0) m (shown m) (λ n. refl) s)

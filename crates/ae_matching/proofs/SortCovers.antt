-- Matching sorts binds each type variable of a pattern's sorts.
use Rattle.std.proofs.lemmas.List.Folds.{list_all-map}
use Rattle.ae_base.proofs.Tests.{nat_eq_itself}
use Rattle.std.proofs.lemmas.Option.{same_Some}
use Rattle.std.proofs.Common.{◌≡◌, ℕ, Bool, true, cond, ◌&&◌, List, [], ◌∷◌, ◌++◌, map, refl, sym, ap, ◌∙◌, subst, Option, Some, None, inl, inr, nat_eq}
use Rattle.std.specs.List.{AllByRecursion, list_all}
use Rattle.std.proofs.lemmas.Bool.{cases_Bool, and_parts}
use Rattle.ae_core.specs.Sorts.{same_sort}
use Rattle.ae_base.specs.Options.{◌>>=◌}
use Rattle.ae_core.specs.Inner.Induction.{by_sorts}
use Rattle.ae_core.proofs.Recursion.{fold_var, fold_rigid, fold_int, fold_real, fold_bool, fold_unit, fold_named}
use Rattle.ae_core.specs.declared.terms.Sort.{Sort, Sort-F, Var, Rigid, Int, Real, Bool as BoolSort, Unit as UnitSort, Named, out-Sort}
use Rattle.ae_core.specs.declared.terms.Sort.TheOpen as sort_layer
use Rattle.ae_matching.specs.declared.sorts.SortBinding.{SortBinding}
use Rattle.ae_matching.specs.SortMatching.{found, bind_found, match_each, match_named, match_sort, match_sorts}
use Rattle.ae_base.specs.Options.{known as is_some}
use Rattle.ae_matching.specs.SortCovers.{sort_pass, sort_pass_step, has_sort, SortsCovered}
use Rattle.ae_matching.proofs.SortLaws.{at_var, at_rigid, at_int, at_real, at_bool, at_unit, at_named}

found_kept : (i : ℕ) (bs : List SortBinding) (b : SortBinding) → has_sort bs i ≡ true → has_sort (bs ++ b ∷ []) i ≡ true
found_kept i [] b e = cc e
found_kept i (c ∷ bs) b e = elim (cases_Bool (nat_eq c.variable i)) as (λ _. has_sort (c ∷ bs ++ b ∷ []) i ≡ true) [
  | inl y ↦ ap (λ t. is_some (cond t (Some c.sort) (found i (bs ++ b ∷ [])))) y
  | inr n ↦ ap (λ t. is_some (cond t (Some c.sort) (found i (bs ++ b ∷ [])))) n ∙ found_kept i bs b (sym (ap (λ t. is_some (cond t (Some c.sort) (found i bs))) n) ∙ e)
]

found_new : (i : ℕ) (s : Sort) (bs : List SortBinding) → has_sort (bs ++ record { variable = i; sort = s } ∷ []) i ≡ true
found_new i s [] = ap (λ t. is_some (cond t (Some s) None)) (nat_eq_itself i)
found_new i s (c ∷ bs) = elim (cases_Bool (nat_eq c.variable i)) as (λ _. has_sort (c ∷ bs ++ record { variable = i; sort = s } ∷ []) i ≡ true) [
  | inl y ↦ ap (λ t. is_some (cond t (Some c.sort) (found i (bs ++ record { variable = i; sort = s } ∷ [])))) y
  | inr m ↦ ap (λ t. is_some (cond t (Some c.sort) (found i (bs ++ record { variable = i; sort = s } ∷ [])))) m ∙ found_new i s bs
]

pub pass_var : (ex : ℕ → Bool) (i : ℕ) → sort_pass ex (Var i) ≡ ex i
unfolding sort_pass
pass_var ex i = fold_var Bool (sort_pass_step ex) i

pub pass_named : (ex : ℕ → Bool) (h : ℕ) (ps : List Sort) → sort_pass ex (Named h ps) ≡ list_all (sort_pass ex) ps
unfolding sort_pass
pass_named ex h ps = fold_named Bool (sort_pass_step ex) h ps ∙ list_all-map (λ b. b) (sort_pass ex) ps

pass_rigid : (ex : ℕ → Bool) (i : ℕ) → sort_pass ex (Rigid i) ≡ true
unfolding sort_pass
pass_rigid ex i = fold_rigid Bool (sort_pass_step ex) i

pass_int : (ex : ℕ → Bool) → sort_pass ex Int ≡ true
unfolding sort_pass
pass_int ex = fold_int Bool (sort_pass_step ex)

pass_real : (ex : ℕ → Bool) → sort_pass ex Real ≡ true
unfolding sort_pass
pass_real ex = fold_real Bool (sort_pass_step ex)

pass_bool : (ex : ℕ → Bool) → sort_pass ex BoolSort ≡ true
unfolding sort_pass
pass_bool ex = fold_bool Bool (sort_pass_step ex)

pass_unit : (ex : ℕ → Bool) → sort_pass ex UnitSort ≡ true
unfolding sort_pass
pass_unit ex = fold_unit Bool (sort_pass_step ex)

module _ (f g : ℕ → Bool) (more : (i : ℕ) → f i ≡ true → g i ≡ true) where
  abbrev Passes : Sort → Type 0
  Passes p = sort_pass f p ≡ true → sort_pass g p ≡ true

  each_passes : (ps : List Sort) → AllByRecursion Passes ps → list_all (sort_pass f) ps ≡ true → list_all (sort_pass g) ps ≡ true
  each_passes [] all e = refl
  each_passes (p ∷ ps) all e = let b = and_parts (sort_pass f p) (list_all (sort_pass f) ps) e in λ i. all.0 b.0 i && each_passes ps all.1 b.1 i

  pub sort_passes : (p : Sort) → Passes p
  sort_passes =
      by_sorts Passes (λ i e. pass_var g i ∙ more i (sym (pass_var f i) ∙ e)) (λ i e. pass_rigid g i) (λ e. pass_int g) (λ e. pass_real g) (λ e. pass_bool g) (λ e. pass_unit g)
      (λ h ps all e. pass_named g h ps ∙ each_passes ps all (sym (pass_named f h ps) ∙ e))

abbrev IsCovered : Sort → Type 0
IsCovered p = (s : Sort) (old new : List SortBinding) → match_sort p s old ≡ Some new → SortsCovered (p ∷ []) old new

same_covered : (p : Sort) (old new : List SortBinding) → Some old ≡ Some new → ((ex : ℕ → Bool) → sort_pass ex p ≡ true) → SortsCovered (p ∷ []) old new
same_covered p old new e h = record { kept = λ i k. subst (λ b. has_sort b i ≡ true) (same_Some old new e) k; all = λ i. h (has_sort new) i && true }

var_covered : (i : ℕ) → IsCovered (Var i)
var_covered i s old new e = go (found i old) refl (sym (at_var i s old) ∙ e)
  where
    go : (o : Option Sort) → found i old ≡ o → bind_found i s old o ≡ Some new → SortsCovered (Var i ∷ []) old new
    go (Some t) f e = elim (cases_Bool (same_sort t s)) as (λ _. SortsCovered (Var i ∷ []) old new) [
      | inl y ↦
          let q = same_Some old new (sym (ap (λ c. cond c (Some old) None) y) ∙ e) in
          record { kept = λ j k. subst (λ b. has_sort b j ≡ true) q k; all = λ j. (pass_var (has_sort new) i ∙ subst (λ b. has_sort b i ≡ true) q (ap is_some f)) j && true }
      | inr n ↦ let z = sym (ap (λ c. cond c (Some old) None) n) ∙ e in cc z
    ]
    go None f e =
        let q = same_Some (old ++ record { variable = i; sort = s } ∷ []) new e in
        record {
          kept = λ j k. subst (λ b. has_sort b j ≡ true) q (found_kept j old (record { variable = i; sort = s }) k);
          all = λ j. (pass_var (has_sort new) i ∙ subst (λ b. has_sort b i ≡ true) q (found_new i s old)) j && true;
        }

each_covered : (ps : List Sort) → AllByRecursion IsCovered ps → (ss : List Sort) (old new : List SortBinding) → match_each (map match_sort ps) ss old ≡ Some new → SortsCovered ps old new
each_covered [] all [] old new e = record { kept = λ i k. subst (λ b. has_sort b i ≡ true) (same_Some old new e) k; all = refl }
each_covered [] all (s ∷ ss) old new e = cc e
each_covered (p ∷ ps) all [] old new e = cc e
each_covered (p ∷ ps) all (s ∷ ss) old new e = go (λ bs. each_covered ps all.1 ss bs new) (match_sort p s old) refl e
  where
    go : ((bs : List SortBinding) → match_each (map match_sort ps) ss bs ≡ Some new → SortsCovered ps bs new) → (o : Option (List SortBinding)) → match_sort p s old ≡ o
        → (o >>= match_each (map match_sort ps) ss) ≡ Some new → SortsCovered (p ∷ ps) old new
    go r None f e = cc e
    go r (Some bs) f e =
        let first = all.0 s old bs f in
        let rest = r bs e in
        let here = and_parts (sort_pass (has_sort bs) p) true first.all in
        record { kept = λ i k. rest.kept i (first.kept i k); all = λ i. sort_passes (has_sort bs) (has_sort new) rest.kept p here.0 i && rest.all i }

named_covered : (h : ℕ) (ps : List Sort) → AllByRecursion IsCovered ps → IsCovered (Named h ps)
named_covered h ps all s old new e = go (out-Sort s) (sym (at_named h ps s old) ∙ e)
  where
    go : (l : Sort-F Sort) → match_named h (map match_sort ps) l old ≡ Some new → SortsCovered (Named h ps ∷ []) old new
    go (sort_layer.Var i) e = cc e
    go (sort_layer.Rigid i) e = cc e
    go sort_layer.Int e = cc e
    go sort_layer.Real e = cc e
    go sort_layer.Bool e = cc e
    go sort_layer.Unit e = cc e
    go (sort_layer.Named k ss) e = elim (cases_Bool (nat_eq h k)) as (λ _. SortsCovered (Named h ps ∷ []) old new) [
      | inl y ↦
          let c = each_covered ps all ss old new (sym (ap (λ b. cond b (match_each (map match_sort ps) ss old) None) y) ∙ e) in
          record { kept = c.kept; all = λ i. (pass_named (has_sort new) h ps ∙ c.all) i && true }
      | inr n ↦ let z = sym (ap (λ b. cond b (match_each (map match_sort ps) ss old) None) n) ∙ e in cc z
    ]

sort_covered : (p : Sort) → IsCovered p
sort_covered =
    by_sorts IsCovered var_covered (λ i s old new e. same_covered (Rigid i) old new (sym (at_rigid i s old) ∙ e) (λ ex. pass_rigid ex i)) (λ s old new e. same_covered Int old new (sym (at_int s old) ∙ e) pass_int)
    (λ s old new e. same_covered Real old new (sym (at_real s old) ∙ e) pass_real) (λ s old new e. same_covered BoolSort old new (sym (at_bool s old) ∙ e) pass_bool)
    (λ s old new e. same_covered UnitSort old new (sym (at_unit s old) ∙ e) pass_unit) named_covered

all_covered : (ps : List Sort) → AllByRecursion IsCovered ps
all_covered [] = tt
all_covered (p ∷ ps) = (sort_covered p, all_covered ps)

pub sorts_covered : (ps ss : List Sort) (old new : List SortBinding) → match_sorts ps ss old ≡ Some new → SortsCovered ps old new
sorts_covered ps ss old new e = each_covered ps (all_covered ps) ss old new e

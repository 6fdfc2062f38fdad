-- A pattern's sorts are matched completely: what any sorts make of them is found.
use Rattle.ae_base.proofs.Tests.{nat_eq_itself}
use Rattle.ae_base.proofs.AllOf.{all_push}
use Rattle.std.proofs.Common.{◌≡◌, ◌≢◌, length, ℕ, suc, true, false, cond, List, [], ◌∷◌, ◌++◌, map, refl, sym, ap, ◌∙◌, slice_get, Option, Some, None, inl, inr, nat_eq}
use Rattle.std.specs.List.{AllByRecursion}
use Rattle.std.proofs.lemmas.Bool.{cases_Bool, eq-eqb, eqb-true}
use Rattle.ae_base.specs.Decided.{decided}
use Rattle.ae_core.specs.Decided.{Sort_discrete}
use Rattle.ae_base.specs.Options.{or_else, ◌>>=◌}
use Rattle.ae_core.specs.Sorts.{same_sort}
use Rattle.ae_core.specs.Putting.{put_sort}
use Rattle.ae_core.specs.Inner.Induction.{by_sorts}
use Rattle.ae_core.proofs.Recursion.{fold_var, fold_rigid, fold_int, fold_real, fold_bool, fold_unit, fold_named}
use Rattle.ae_core.proofs.PuttingLaws.{put_var, put_named}
use Rattle.ae_core.specs.declared.terms.Sort.{Sort, Var, Rigid, Int, Real, Bool as BoolSort, Unit as UnitSort, Named, out-Sort}
use Rattle.ae_core.specs.declared.terms.Sort.TheOpen as sort_layer
use Rattle.ae_core.specs.declared.terms.Sort.TheVariants.{outs-Named}
use Rattle.ae_matching.specs.declared.sorts.SortBinding.{SortBinding}
use Rattle.ae_matching.specs.SortMatching.{found, bind_found, bind, SortMatcher, match_each, match_named, match_sort, match_sort_step, IsSortOf, AreSortsOf}
use Rattle.ae_matching.specs.Laws.{FindsSorts}

pub same_sort_yes : (a b : Sort) → a ≡ b → same_sort a b ≡ true
same_sort_yes a b e = elim (Sort_discrete a b) as (λ d. decided d ≡ true) [ yes p ↦ refl | no n ↦ absurd (n e) ]

-- a binding that is found is one of those of the sorts
pub found_right : (sorts : List Sort) (i : ℕ) (bs : List SortBinding) (t : Sort) → AreSortsOf sorts bs → found i bs ≡ Some t → or_else (slice_get sorts i) (Var i) ≡ t
found_right sorts i [] t a e = cc e
found_right sorts i (b ∷ bs) t a e = elim (cases_Bool (nat_eq b.variable i)) as (λ _. or_else (slice_get sorts i) (Var i) ≡ t) [
  | inl y ↦
      let same = eqb-true b.variable i y in
      let here : Some b.sort ≡ Some t = sym (ap (λ c. cond c (Some b.sort) (found i bs)) y) ∙ e in
      let there : b.sort ≡ t = cc here in
      ap (λ j. or_else (slice_get sorts j) (Var j)) (sym same) ∙ a.0 ∙ there
  | inr n ↦ found_right sorts i bs t a.1 (sym (ap (λ c. cond c (Some b.sort) (found i bs)) n) ∙ e)
]

bound_case : (sorts : List Sort) (i : ℕ) (bs : List SortBinding) → AreSortsOf sorts bs → (o : Option Sort) → found i bs ≡ o → FindsSorts sorts (bind_found i (or_else (slice_get sorts i) (Var i)) bs o)
bound_case sorts i bs a (Some t) e =
    record { bindings = bs; here = ap (λ c. cond c (Some bs) None) (same_sort_yes t (or_else (slice_get sorts i) (Var i)) (sym (found_right sorts i bs t a e))); right = a }
bound_case sorts i bs a None e =
    record {
      bindings = bs ++ record { variable = i; sort = or_else (slice_get sorts i) (Var i) } ∷ [];
      here = refl;
      right = all_push (IsSortOf sorts) bs (record { variable = i; sort = or_else (slice_get sorts i) (Var i) }) a refl;
    }

abbrev IsFound : List Sort → Sort → Type 0
IsFound sorts p = (bs : List SortBinding) → AreSortsOf sorts bs → FindsSorts sorts (match_sort p (put_sort sorts p) bs)

pub each_found : (sorts : List Sort) (ps : List Sort) → AllByRecursion (IsFound sorts) ps → (bs : List SortBinding) → AreSortsOf sorts bs → FindsSorts sorts (match_each (map match_sort ps) (map (put_sort sorts) ps) bs)
each_found sorts [] all bs a = record { bindings = bs; here = refl; right = a }
each_found sorts (p ∷ ps) all bs a =
    let first = all.0 bs a in
    let rest = each_found sorts ps all.1 first.bindings first.right in
    record { bindings = rest.bindings; here = ap (λ o. o >>= match_each (map match_sort ps) (map (put_sort sorts) ps)) first.here ∙ rest.here; right = rest.right }

pub at_var : (i : ℕ) (s : Sort) (bs : List SortBinding) → match_sort (Var i) s bs ≡ bind i s bs
unfolding match_sort
at_var i s bs = ap (λ f. f s bs) (fold_var SortMatcher match_sort_step i)

pub at_rigid : (i : ℕ) (s : Sort) (bs : List SortBinding) → match_sort (Rigid i) s bs ≡ Some bs
unfolding match_sort
at_rigid i s bs = ap (λ f. f s bs) (fold_rigid SortMatcher match_sort_step i)

pub at_int : (s : Sort) (bs : List SortBinding) → match_sort Int s bs ≡ Some bs
unfolding match_sort
at_int s bs = ap (λ f. f s bs) (fold_int SortMatcher match_sort_step)

pub at_real : (s : Sort) (bs : List SortBinding) → match_sort Real s bs ≡ Some bs
unfolding match_sort
at_real s bs = ap (λ f. f s bs) (fold_real SortMatcher match_sort_step)

pub at_bool : (s : Sort) (bs : List SortBinding) → match_sort BoolSort s bs ≡ Some bs
unfolding match_sort
at_bool s bs = ap (λ f. f s bs) (fold_bool SortMatcher match_sort_step)

pub at_unit : (s : Sort) (bs : List SortBinding) → match_sort UnitSort s bs ≡ Some bs
unfolding match_sort
at_unit s bs = ap (λ f. f s bs) (fold_unit SortMatcher match_sort_step)

pub at_named : (h : ℕ) (ps : List Sort) (s : Sort) (bs : List SortBinding) → match_sort (Named h ps) s bs ≡ match_named h (map match_sort ps) (out-Sort s) bs
unfolding match_sort
at_named h ps s bs = ap (λ f. f s bs) (fold_named SortMatcher match_sort_step h ps)

same_bindings : (sorts : List Sort) (o : Option (List SortBinding)) (bs : List SortBinding) → AreSortsOf sorts bs → o ≡ Some bs → FindsSorts sorts o
same_bindings sorts o bs a e = record { bindings = bs; here = e; right = a }

named_case : (sorts : List Sort) (h : ℕ) (ps : List Sort) → AllByRecursion (IsFound sorts) ps → IsFound sorts (Named h ps)
named_case sorts h ps all bs a =
    let inner = each_found sorts ps all bs a in
    let shape : out-Sort (put_sort sorts (Named h ps)) ≡ sort_layer.Named h (map (put_sort sorts) ps) = ap out-Sort (put_named sorts h ps) ∙ outs-Named h (map (put_sort sorts) ps) in
    record {
      bindings = inner.bindings;
      here =
          at_named h ps (put_sort sorts (Named h ps)) bs ∙ ap (λ l. match_named h (map match_sort ps) l bs) shape
          ∙ ap (λ c. cond c (match_each (map match_sort ps) (map (put_sort sorts) ps) bs) None) (nat_eq_itself h) ∙ inner.here;
      right = inner.right;
    }

var_case : (sorts : List Sort) (i : ℕ) → IsFound sorts (Var i)
var_case sorts i bs a =
    let b = bound_case sorts i bs a (found i bs) refl in
    record { bindings = b.bindings; here = at_var i (put_sort sorts (Var i)) bs ∙ ap (λ s. bind i s bs) (put_var sorts i) ∙ b.here; right = b.right }

pub sorts_found : (sorts : List Sort) (p : Sort) → IsFound sorts p
sorts_found sorts =
    by_sorts (IsFound sorts) (var_case sorts) (λ i bs a. same_bindings sorts _ bs a (at_rigid i _ bs)) (λ bs a. same_bindings sorts _ bs a (at_int _ bs)) (λ bs a. same_bindings sorts _ bs a (at_real _ bs))
    (λ bs a. same_bindings sorts _ bs a (at_bool _ bs)) (λ bs a. same_bindings sorts _ bs a (at_unit _ bs)) (named_case sorts)

pub ruleset match_rules = (at_var, at_rigid, at_int, at_real, at_bool, at_unit, at_named)

-- lists of different lengths have no bindings
none_then : (f : List SortBinding → Option (List SortBinding)) → ((bs : List SortBinding) → f bs ≡ None) → (o : Option (List SortBinding)) → (o >>= f) ≡ None
none_then f h None = refl
none_then f h (Some bs) = h bs

pub lengths_differ : (ps ss : List Sort) (bs : List SortBinding) → length ps ≢ length ss → match_each (map match_sort ps) ss bs ≡ None
lengths_differ [] [] bs d = absurd (d refl)
lengths_differ [] (s ∷ ss) bs d = refl
lengths_differ (p ∷ ps) [] bs d = refl
lengths_differ (p ∷ ps) (s ∷ ss) bs d = none_then (match_each (map match_sort ps) ss) (λ cs. lengths_differ ps ss cs (λ e. d (ap suc e))) (match_sort p s bs)

named_shape : (p s : Sort) (h k : ℕ) (ps ss : List Sort) (bs : List SortBinding) → p ≡ Named h ps → s ≡ Named k ss → match_sort p s bs ≡ cond (nat_eq h k) (match_each (map match_sort ps) ss bs) None
named_shape p s h k ps ss bs e f =
    (λ i. match_sort (e i) (f i) bs) ∙ at_named h ps (Named k ss) bs ∙ ap (λ l. match_named h (map match_sort ps) l bs) (outs-Named k ss)

pub named_differ : (p s : Sort) (h k : ℕ) (ps ss : List Sort) (bs : List SortBinding) → p ≡ Named h ps → s ≡ Named k ss → h ≢ k → match_sort p s bs ≡ None
named_differ p s h k ps ss bs e f d = named_shape p s h k ps ss bs e f ∙ ap (λ c. cond c (match_each (map match_sort ps) ss bs) None) (not_same h k d)
  where
    not_same : (h k : ℕ) → h ≢ k → nat_eq h k ≡ false
    not_same h k d = elim (cases_Bool (nat_eq h k)) as (λ _. nat_eq h k ≡ false) [ inl y ↦ absurd (d (eqb-true h k y)) | inr n ↦ n ]

pub named_agree : (p s : Sort) (h k : ℕ) (ps ss : List Sort) (bs : List SortBinding) → p ≡ Named h ps → s ≡ Named k ss → h ≡ k → match_sort p s bs ≡ match_each (map match_sort ps) ss bs
named_agree p s h k ps ss bs e f d = named_shape p s h k ps ss bs e f ∙ ap (λ c. cond c (match_each (map match_sort ps) ss bs) None) (eq-eqb h k d)

-- Sorts that are put into sorts, and whether they fit.
use Rattle.std.proofs.Common.{◌≡◌, ◌∙◌, ℕ, Bool, true, false, nat_lt, List, [], ◌∷◌, map, length, refl, sym, ap, Some, slice_get, get_or}
use Rattle.std.specs.List.{AllByRecursion, list_all}
use Rattle.std.specs.Option.{option_map}
use Rattle.std.proofs.lemmas.Bool.{and_parts, and_from, ltb-true}
use Rattle.std.proofs.lemmas.List.{length-map}
use Rattle.std.proofs.lemmas.Option.{slice_get-map, slice_get-get_or}
use Rattle.ae_base.specs.Options.{or_else}
use Rattle.ae_base.proofs.AllOf.{test_of_all, all_at}
use Rattle.ae_base.proofs.ListFacts.{cons_same}
use Rattle.ae_core.specs.Inner.Induction.{by_sorts}
use Rattle.ae_core.specs.Putting.{put_sort}
use Rattle.ae_core.specs.Signatures.{is_sort_over}
use Rattle.ae_core.specs.Sorts.{type_fits}
use Rattle.ae_core.proofs.PuttingLaws as core
use Rattle.ae_core.proofs.SortLaws.{ok_var, ok_rigid, ok_int, ok_real, ok_bool, ok_unit, ok_named}
use Rattle.ae_core.specs.declared.terms.Sort.{Sort, Var, Rigid, Int, Real, Bool as BoolSort, Unit as UnitSort, Named}
use Rattle.ae_core.specs.declared.problems.Signature.{Signature}
use Rattle.ae_types.specs.Substitutions.{put}
use Rattle.ae_elab.proofs.PutLaws.{put_var, put_rigid, put_int, put_real, put_bool, put_unit, put_named}
use Rattle.ae_lawful_problems.proofs.SortedTrees.{fits, AllFit}

module _ (F : Signature) where
  abbrev all_ok : List Sort → Bool
  all_ok = list_all (fits F)

  pub named_fits : (h : ℕ) (ss : List Sort) → type_fits F h (length ss) ≡ true → AllFit F ss → fits F (Named h ss) ≡ true
  named_fits h ss f a =
      ok_named F (λ i. true) (λ i. true) h ss
      ∙ and_from (type_fits F h (length ss)) (all_ok ss) f (test_of_all (λ s. fits F s ≡ true) (fits F) (λ s e. e) ss a)

  named_parts : (h : ℕ) (ss : List Sort) → fits F (Named h ss) ≡ true → (type_fits F h (length ss) ≡ true) × (all_ok ss ≡ true)
  named_parts h ss e = and_parts (type_fits F h (length ss)) (all_ok ss) (sym (ok_named F (λ i. true) (λ i. true) h ss) ∙ e)

  -- ---- sorts put for unknowns
  module _ (m : ℕ → Sort) (known : (n : ℕ) → fits F (m n) ≡ true) where
    PutFits : Sort → Type 0
    PutFits s = fits F s ≡ true → fits F (put m s) ≡ true

    all_put : (ss : List Sort) → AllByRecursion PutFits ss → all_ok ss ≡ true → all_ok (map (put m) ss) ≡ true
    unfolding PutFits
    all_put [] a h = refl
    all_put (s ∷ ss) a h =
        let p = and_parts (fits F s) (all_ok ss) h in
        and_from (fits F (put m s)) (all_ok (map (put m) ss)) (a.0 p.0) (all_put ss a.1 p.1)

    named_put : (h : ℕ) (ss : List Sort) → AllByRecursion PutFits ss → PutFits (Named h ss)
    unfolding PutFits
    named_put h ss a e =
        let p = named_parts h ss e in
        ap (fits F) (put_named m h ss) ∙ ok_named F (λ i. true) (λ i. true) h (map (put m) ss)
        ∙ and_from (type_fits F h (length (map (put m) ss))) (all_ok (map (put m) ss)) (ap (type_fits F h) (length-map ss (put m)) ∙ p.0) (all_put ss a p.1)

    pub put_fits : (s : Sort) → fits F s ≡ true → fits F (put m s) ≡ true
    unfolding PutFits
    put_fits =
        by_sorts PutFits (λ i h. ap (fits F) (put_var m i) ∙ known i) (λ i h. ap (fits F) (put_rigid m i) ∙ ok_rigid F (λ i. true) (λ i. true) i)
        (λ h. ap (fits F) (put_int m) ∙ ok_int F (λ i. true) (λ i. true)) (λ h. ap (fits F) (put_real m) ∙ ok_real F (λ i. true) (λ i. true))
        (λ h. ap (fits F) (put_bool m) ∙ ok_bool F (λ i. true) (λ i. true)) (λ h. ap (fits F) (put_unit m) ∙ ok_unit F (λ i. true) (λ i. true)) named_put

    pub puts_fit : (ss : List Sort) → AllFit F ss → AllFit F (map (put m) ss)
    puts_fit [] a = tt
    puts_fit (s ∷ ss) a = (put_fits s a.0, puts_fit ss a.1)

  -- ---- sorts put for the type variables of an entry
  module _ (ss : List Sort) (given : AllFit F ss) where
    OverFits : Sort → Type 0
    OverFits s = is_sort_over F (length ss) s ≡ true → fits F (put_sort ss s) ≡ true

    over_var : (i : ℕ) → OverFits (Var i)
    unfolding OverFits
    over_var i h =
        let l = ltb-true i (length ss) (sym (ok_var F (λ i. nat_lt i (length ss)) (λ i. false) i) ∙ h) in
        let g = slice_get-get_or ss i (Var 0) l in
        ap (fits F) (core.put_var ss i ∙ ap (λ o. or_else o (Var i)) g) ∙ all_at (λ s. fits F s ≡ true) ss i (get_or ss i (Var 0)) given g

    over_rigid : (i : ℕ) → OverFits (Rigid i)
    unfolding OverFits
    over_rigid i h = let f : ◌≡◌ {A = Bool} false true = sym (ok_rigid F (λ i. nat_lt i (length ss)) (λ i. false) i) ∙ h in cc f

    all_over_fit : (ts : List Sort) → AllByRecursion OverFits ts → list_all (is_sort_over F (length ss)) ts ≡ true → all_ok (map (put_sort ss) ts) ≡ true
    unfolding OverFits
    all_over_fit [] a h = refl
    all_over_fit (t ∷ ts) a h =
        let p = and_parts (is_sort_over F (length ss) t) (list_all (is_sort_over F (length ss)) ts) h in
        and_from (fits F (put_sort ss t)) (all_ok (map (put_sort ss) ts)) (a.0 p.0) (all_over_fit ts a.1 p.1)

    over_named : (h : ℕ) (ts : List Sort) → AllByRecursion OverFits ts → OverFits (Named h ts)
    unfolding OverFits
    over_named h ts a e =
        let p = and_parts (type_fits F h (length ts)) (list_all (is_sort_over F (length ss)) ts) (sym (ok_named F (λ i. nat_lt i (length ss)) (λ i. false) h ts) ∙ e) in
        ap (fits F) (core.put_named ss h ts) ∙ ok_named F (λ i. true) (λ i. true) h (map (put_sort ss) ts)
        ∙ and_from (type_fits F h (length (map (put_sort ss) ts))) (all_ok (map (put_sort ss) ts)) (ap (type_fits F h) (length-map ts (put_sort ss)) ∙ p.0) (all_over_fit ts a p.1)

    pub over_fits : (s : Sort) → is_sort_over F (length ss) s ≡ true → fits F (put_sort ss s) ≡ true
    unfolding OverFits
    over_fits =
        by_sorts OverFits over_var over_rigid
        (λ h. ap (fits F) (core.put_int ss) ∙ ok_int F (λ i. true) (λ i. true)) (λ h. ap (fits F) (core.put_real ss) ∙ ok_real F (λ i. true) (λ i. true))
        (λ h. ap (fits F) (core.put_bool ss) ∙ ok_bool F (λ i. true) (λ i. true)) (λ h. ap (fits F) (core.put_unit ss) ∙ ok_unit F (λ i. true) (λ i. true)) over_named

-- a change of sorts that goes into their parts and leaves the basic ones
pub record Changes (r : Sort → Sort) : Type 0 where
  pub int : r Int ≡ Int
  pub real : r Real ≡ Real
  pub bool : r BoolSort ≡ BoolSort
  pub unit : r UnitSort ≡ UnitSort
  pub named : (h : ℕ) (ss : List Sort) → r (Named h ss) ≡ Named h (map r ss)

module _ (F : Signature) (r : Sort → Sort) (change : Changes r) where
  -- ---- sorts put for type variables
  module _ (ss : List Sort) where
    PutChanged : Sort → Type 0
    PutChanged s = is_sort_over F (length ss) s ≡ true → r (put_sort ss s) ≡ put_sort (map r ss) s

    changed_var : (i : ℕ) → PutChanged (Var i)
    unfolding PutChanged
    changed_var i h =
        let l = ltb-true i (length ss) (sym (ok_var F (λ i. nat_lt i (length ss)) (λ i. false) i) ∙ h) in
        let g = slice_get-get_or ss i (Var 0) l in
        let k : slice_get (map r ss) i ≡ Some (r (get_or ss i (Var 0))) = slice_get-map r ss i ∙ ap (option_map r) g in
        ap r (core.put_var ss i ∙ ap (λ o. or_else o (Var i)) g) ∙ sym (core.put_var (map r ss) i ∙ ap (λ o. or_else o (Var i)) k)

    changed_rigid : (i : ℕ) → PutChanged (Rigid i)
    unfolding PutChanged
    changed_rigid i h = let f : ◌≡◌ {A = Bool} false true = sym (ok_rigid F (λ i. nat_lt i (length ss)) (λ i. false) i) ∙ h in cc f

    all_changed : (ts : List Sort) → AllByRecursion PutChanged ts → list_all (is_sort_over F (length ss)) ts ≡ true → map r (map (put_sort ss) ts) ≡ map (put_sort (map r ss)) ts
    unfolding PutChanged
    all_changed [] a h = refl
    all_changed (t ∷ ts) a h =
        let p = and_parts (is_sort_over F (length ss) t) (list_all (is_sort_over F (length ss)) ts) h in
        cons_same (r (put_sort ss t)) (put_sort (map r ss) t) (map r (map (put_sort ss) ts)) (map (put_sort (map r ss)) ts) (a.0 p.0) (all_changed ts a.1 p.1)

    changed_named : (h : ℕ) (ts : List Sort) → AllByRecursion PutChanged ts → PutChanged (Named h ts)
    unfolding PutChanged
    changed_named h ts a e =
        let p = and_parts (type_fits F h (length ts)) (list_all (is_sort_over F (length ss)) ts) (sym (ok_named F (λ i. nat_lt i (length ss)) (λ i. false) h ts) ∙ e) in
        ap r (core.put_named ss h ts) ∙ change.named h (map (put_sort ss) ts) ∙ ap (Named h) (all_changed ts a p.1) ∙ sym (core.put_named (map r ss) h ts)

    pub put_changed : (s : Sort) → is_sort_over F (length ss) s ≡ true → r (put_sort ss s) ≡ put_sort (map r ss) s
    unfolding PutChanged
    put_changed =
        by_sorts PutChanged changed_var changed_rigid
        (λ h. ap r (core.put_int ss) ∙ change.int ∙ sym (core.put_int (map r ss))) (λ h. ap r (core.put_real ss) ∙ change.real ∙ sym (core.put_real (map r ss)))
        (λ h. ap r (core.put_bool ss) ∙ change.bool ∙ sym (core.put_bool (map r ss))) (λ h. ap r (core.put_unit ss) ∙ change.unit ∙ sym (core.put_unit (map r ss)))
        changed_named

    pub puts_changed : (ts : List Sort) → list_all (is_sort_over F (length ss)) ts ≡ true → map r (map (put_sort ss) ts) ≡ map (put_sort (map r ss)) ts
    puts_changed [] h = refl
    puts_changed (t ∷ ts) h =
        let p = and_parts (is_sort_over F (length ss) t) (list_all (is_sort_over F (length ss)) ts) h in
        cons_same (r (put_sort ss t)) (put_sort (map r ss) t) (map r (map (put_sort ss) ts)) (map (put_sort (map r ss)) ts) (put_changed t p.0) (puts_changed ts p.1)

-- sorts put for unknowns are such a change
pub put_changes : (m : ℕ → Sort) → Changes (put m)
put_changes m = record { int = put_int m; real = put_real m; bool = put_bool m; unit = put_unit m; named = put_named m }

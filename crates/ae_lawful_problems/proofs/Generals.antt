-- The sorts of a definition: its type variables are those of its own axiom.
use Rattle.std.proofs.Common.{arith, ◌≡◌, ◌∙◌, ◌<◌, ◌+◌, ℕ, zero, suc, Bool, true, false, nat_lt, List, [], ◌∷◌, map, length, refl, sym, ap, Some}
use Rattle.std.proofs.Common.{slice_get}
use Rattle.std.specs.List.{AllByRecursion, list_all}
use Rattle.std.proofs.lemmas.Bool.{and_parts, ltb-true}
use Rattle.ae_base.specs.Options.{or_else}
use Rattle.ae_base.proofs.ListFacts.{cons_same}
use Rattle.ae_core.specs.Inner.Induction.{by_sorts}
use Rattle.ae_core.specs.Putting.{put_sort}
use Rattle.ae_core.specs.Sorts.{sort_ok, type_fits}
use Rattle.ae_core.proofs.PuttingLaws as core
use Rattle.ae_core.proofs.SortLaws.{ok_var, ok_rigid, ok_named}
use Rattle.ae_core.specs.declared.terms.Sort.{Sort, Var, Rigid, Named}
use Rattle.ae_core.specs.declared.problems.Signature.{Signature}
use Rattle.ae_types.specs.Substitutions.{put}
use Rattle.ae_elab.specs.Declarations.{generalize, rigids}
use Rattle.ae_elab.proofs.EntryLaws.{general_named, general_rigid, general_int, general_real, general_bool, general_unit}
use Rattle.ae_elab.proofs.PutLaws.{put_rigid, put_int, put_real, put_bool, put_unit, put_named}

-- ---- the written type variables
rigid_at : (n first i : ℕ) → i < n → slice_get (rigids first n) i ≡ Some (Rigid (first + i))
rigid_at zero first i l = absurd (omega (arith, l))
rigid_at (suc n) first zero l = ap (λ k. Some (Rigid k)) (let e : first ≡ first + 0 = omega arith in e)
rigid_at (suc n) first (suc i) l = rigid_at n (suc first) i (omega (arith, l)) ∙ ap (λ k. Some (Rigid k)) (let e : suc first + i ≡ first + suc i = omega arith in e)

pub rigids_long : (n first : ℕ) → length (rigids first n) ≡ n
rigids_long zero first = refl
rigids_long (suc n) first = ap suc (rigids_long n (suc first))

pub rigids_put : (m : ℕ → Sort) (n first : ℕ) → map (put m) (rigids first n) ≡ rigids first n
rigids_put m zero first = refl
rigids_put m (suc n) first = cons_same (put m (Rigid first)) (Rigid first) (map (put m) (rigids (suc first) n)) (rigids (suc first) n) (put_rigid m first) (rigids_put m n (suc first))

module _ (sig : Signature) (n : ℕ) where
  abbrev pub IsFreeOver : Sort → Type 0
  IsFreeOver s = sort_ok sig (λ i. false) (λ i. nat_lt i n) s ≡ true

  free_args : (h : ℕ) (ss : List Sort) → IsFreeOver (Named h ss) → list_all (sort_ok sig (λ i. false) (λ i. nat_lt i n)) ss ≡ true
  free_args h ss e = (and_parts (type_fits sig h (length ss)) (list_all (sort_ok sig (λ i. false) (λ i. nat_lt i n)) ss) (sym (ok_named sig (λ i. false) (λ i. nat_lt i n) h ss) ∙ e)).1

  no_var : {P : Type 0} (i : ℕ) → IsFreeOver (Var i) → P
  no_var i h = let f : ◌≡◌ {A = Bool} false true = sym (ok_var sig (λ i. false) (λ i. nat_lt i n) i) ∙ h in absurd (let x : ⊥ = cc f in x)

  -- ---- the sort of an entry, at the declaration's own type variables
  Back : Sort → Type 0
  Back s = IsFreeOver s → put_sort (rigids 0 n) (generalize s) ≡ s

  all_back_again : (ss : List Sort) → AllByRecursion Back ss → list_all (sort_ok sig (λ i. false) (λ i. nat_lt i n)) ss ≡ true → map (put_sort (rigids 0 n)) (map generalize ss) ≡ ss
  unfolding Back
  all_back_again [] a h = refl
  all_back_again (s ∷ ss) a h =
      let p = and_parts (sort_ok sig (λ i. false) (λ i. nat_lt i n) s) (list_all (sort_ok sig (λ i. false) (λ i. nat_lt i n)) ss) h in
      cons_same (put_sort (rigids 0 n) (generalize s)) s (map (put_sort (rigids 0 n)) (map generalize ss)) ss (a.0 p.0) (all_back_again ss a.1 p.1)

  pub general_back : (s : Sort) → IsFreeOver s → put_sort (rigids 0 n) (generalize s) ≡ s
  unfolding Back
  general_back =
      by_sorts Back (λ i h. no_var i h)
      (λ i h. let l = ltb-true i n (sym (ok_rigid sig (λ i. false) (λ i. nat_lt i n) i) ∙ h) in
      ap (put_sort (rigids 0 n)) (general_rigid i) ∙ core.put_var (rigids 0 n) i ∙ ap (λ o. or_else o (Var i)) (rigid_at n 0 i l) ∙ ap Rigid (let e : 0 + i ≡ i = omega arith in e))
      (λ h. ap (put_sort (rigids 0 n)) general_int ∙ core.put_int (rigids 0 n)) (λ h. ap (put_sort (rigids 0 n)) general_real ∙ core.put_real (rigids 0 n))
      (λ h. ap (put_sort (rigids 0 n)) general_bool ∙ core.put_bool (rigids 0 n)) (λ h. ap (put_sort (rigids 0 n)) general_unit ∙ core.put_unit (rigids 0 n))
      (λ k ss a h. ap (put_sort (rigids 0 n)) (general_named k ss) ∙ core.put_named (rigids 0 n) k (map generalize ss) ∙ ap (Named k) (all_back_again ss a (free_args k ss h)))

  pub generals_back : (ss : List Sort) → AllByRecursion IsFreeOver ss → map (put_sort (rigids 0 n)) (map generalize ss) ≡ ss
  generals_back [] a = refl
  generals_back (s ∷ ss) a = cons_same (put_sort (rigids 0 n) (generalize s)) s (map (put_sort (rigids 0 n)) (map generalize ss)) ss (general_back s a.0) (generals_back ss a.1)

  -- ---- a sort without unknowns stays
  module _ (m : ℕ → Sort) where
    Stays : Sort → Type 0
    Stays s = IsFreeOver s → put m s ≡ s

    all_stay : (ss : List Sort) → AllByRecursion Stays ss → list_all (sort_ok sig (λ i. false) (λ i. nat_lt i n)) ss ≡ true → map (put m) ss ≡ ss
    unfolding Stays
    all_stay [] a h = refl
    all_stay (s ∷ ss) a h =
        let p = and_parts (sort_ok sig (λ i. false) (λ i. nat_lt i n) s) (list_all (sort_ok sig (λ i. false) (λ i. nat_lt i n)) ss) h in
        cons_same (put m s) s (map (put m) ss) ss (a.0 p.0) (all_stay ss a.1 p.1)

    pub free_stays : (s : Sort) → IsFreeOver s → put m s ≡ s
    unfolding Stays
    free_stays =
        by_sorts Stays (λ i h. no_var i h) (λ i h. put_rigid m i) (λ h. put_int m) (λ h. put_real m) (λ h. put_bool m) (λ h. put_unit m)
        (λ k ss a h. put_named m k ss ∙ ap (Named k) (all_stay ss a (free_args k ss h)))

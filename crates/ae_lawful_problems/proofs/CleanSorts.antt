-- A most general typing puts sorts that fit, where the sorts of the conditions do.
use Rattle.std.proofs.Common.{◌≡◌, ◌∙◌, inl, inr, ℕ, Bool, true, false, List, [], ◌∷◌, map, length, refl, sym, ap}
use Rattle.std.specs.List.{AllByRecursion, list_all}
use Rattle.std.proofs.lemmas.Bool.{and_parts}
use Rattle.std.proofs.lemmas.List.{length-map}
use Rattle.ae_base.proofs.AllOf.{all_of_map, all_reversed}
use Rattle.ae_base.proofs.ListFacts.{cons_same}
use Rattle.ae_base.proofs.Tests.{by_bool}
use Rattle.ae_core.specs.Inner.Induction.{by_sorts}
use Rattle.ae_core.specs.Sorts.{type_fits}
use Rattle.ae_core.proofs.Recursion.{fold_var, fold_rigid, fold_int, fold_real, fold_bool, fold_unit, fold_named}
use Rattle.ae_core.proofs.SortLaws.{ok_var, ok_rigid, ok_int, ok_real, ok_bool, ok_unit, ok_named}
use Rattle.ae_core.specs.declared.terms.Sort.{Sort, Sort-F, Var, Rigid, Int, Real, Bool as BoolSort, Unit as UnitSort, Named, fold-Sort}
use Rattle.ae_core.specs.declared.terms.Sort.TheOpen as layer
use Rattle.ae_core.specs.declared.problems.Signature.{Signature}
use Rattle.ae_types.specs.Substitutions.{put}
use Rattle.ae_elab.specs.declared.numbers.Numbers.{Numbers}
use Rattle.ae_elab.specs.declared.numbers.Numbers.TheVariants.{IntAlone, IntOrReal}
use Rattle.ae_elab.specs.Conditions.{Demand, Test, Same, Possible, First, IsFirstOf, sorts_among, Meets, Condition, demands, IsTyping, IsPrincipal}
use Rattle.ae_elab.proofs.PutLaws.{put_var, put_rigid, put_int, put_real, put_bool, put_unit, put_named}
use Rattle.ae_lawful_problems.proofs.SortedTrees.{fits, AllFit}
use Rattle.ae_lawful_problems.proofs.PutFits.{named_fits}
use Rattle.ae_lawful_problems.proofs.FitRules.{FitDemand, FitCondition}

module _ (F : Signature) where
  -- `unit` in the place of each part that doesn't fit
  abbrev clean_step : Sort-F Sort → Sort
  clean_step (layer.Var i) = Var i
  clean_step (layer.Rigid i) = Rigid i
  clean_step layer.Int = Int
  clean_step layer.Real = Real
  clean_step layer.Bool = BoolSort
  clean_step layer.Unit = UnitSort
  clean_step (layer.Named h args) = elim (type_fits F h (length args)) [ true ↦ Named h args | false ↦ UnitSort ]

  abbrev clean : Sort → Sort
  clean = fold-Sort Sort clean_step

  clean_named : (h : ℕ) (ss : List Sort) → clean (Named h ss) ≡ elim (type_fits F h (length ss)) [ true ↦ Named h (map clean ss) | false ↦ UnitSort ]
  clean_named h ss =
      fold_named Sort clean_step h ss ∙ ap (λ (n : ℕ). elim (type_fits F h n) [ true ↦ Named h (map clean ss) | false ↦ UnitSort ]) (length-map ss clean)

  -- what is left fits
  CleanFits : Sort → Type 0
  CleanFits s = fits F (clean s) ≡ true

  all_clean : (ss : List Sort) → AllByRecursion CleanFits ss → AllFit F (map clean ss)
  unfolding CleanFits
  all_clean [] a = tt
  all_clean (s ∷ ss) a = (a.0, all_clean ss a.1)

  named_clean : (h : ℕ) (ss : List Sort) → AllByRecursion CleanFits ss → CleanFits (Named h ss)
  unfolding CleanFits
  named_clean h ss a =
      by_bool (type_fits F h (length ss))
      (λ t. ap (fits F) (clean_named h ss ∙ ap (λ (b : Bool). elim b [ true ↦ Named h (map clean ss) | false ↦ UnitSort ]) t)
      ∙ named_fits F h (map clean ss) (ap (type_fits F h) (length-map ss clean) ∙ t) (all_clean ss a))
      (λ f. ap (fits F) (clean_named h ss ∙ ap (λ (b : Bool). elim b [ true ↦ Named h (map clean ss) | false ↦ UnitSort ]) f) ∙ ok_unit F (λ i. true) (λ i. true))

  pub clean_fits : (s : Sort) → fits F (clean s) ≡ true
  unfolding CleanFits
  clean_fits =
      by_sorts CleanFits (λ i. ap (fits F) (fold_var Sort clean_step i) ∙ ok_var F (λ i. true) (λ i. true) i) (λ i. ap (fits F) (fold_rigid Sort clean_step i) ∙ ok_rigid F (λ i. true) (λ i. true) i)
      (ap (fits F) (fold_int Sort clean_step) ∙ ok_int F (λ i. true) (λ i. true)) (ap (fits F) (fold_real Sort clean_step) ∙ ok_real F (λ i. true) (λ i. true))
      (ap (fits F) (fold_bool Sort clean_step) ∙ ok_bool F (λ i. true) (λ i. true)) (ap (fits F) (fold_unit Sort clean_step) ∙ ok_unit F (λ i. true) (λ i. true)) named_clean

  -- what is put into a sort that fits is cleaned alone
  module _ (m : ℕ → Sort) where
    PutClean : Sort → Type 0
    PutClean s = fits F s ≡ true → put (λ n. clean (m n)) s ≡ clean (put m s)

    all_put_clean : (ss : List Sort) → AllByRecursion PutClean ss → list_all (fits F) ss ≡ true → map (put (λ n. clean (m n))) ss ≡ map clean (map (put m) ss)
    unfolding PutClean
    all_put_clean [] a h = refl
    all_put_clean (s ∷ ss) a h =
        let p = and_parts (fits F s) (list_all (fits F) ss) h in
        cons_same (put (λ n. clean (m n)) s) (clean (put m s)) (map (put (λ n. clean (m n))) ss) (map clean (map (put m) ss)) (a.0 p.0) (all_put_clean ss a.1 p.1)

    named_put_clean : (h : ℕ) (ss : List Sort) → AllByRecursion PutClean ss → PutClean (Named h ss)
    unfolding PutClean
    named_put_clean h ss a e =
        let p = and_parts (type_fits F h (length ss)) (list_all (fits F) ss) (sym (ok_named F (λ i. true) (λ i. true) h ss) ∙ e) in
        put_named (λ n. clean (m n)) h ss ∙ ap (Named h) (all_put_clean ss a p.1)
        ∙ sym (ap clean (put_named m h ss) ∙ clean_named h (map (put m) ss)
        ∙ ap (λ (b : Bool). elim b [ true ↦ Named h (map clean (map (put m) ss)) | false ↦ UnitSort ]) (ap (type_fits F h) (length-map ss (put m)) ∙ p.0))

    pub put_clean : (s : Sort) → fits F s ≡ true → put (λ n. clean (m n)) s ≡ clean (put m s)
    unfolding PutClean
    put_clean =
        by_sorts PutClean (λ i h. put_var (λ n. clean (m n)) i ∙ ap clean (sym (put_var m i)))
        (λ i h. put_rigid (λ n. clean (m n)) i ∙ sym (ap clean (put_rigid m i) ∙ fold_rigid Sort clean_step i))
        (λ h. put_int (λ n. clean (m n)) ∙ sym (ap clean (put_int m) ∙ fold_int Sort clean_step)) (λ h. put_real (λ n. clean (m n)) ∙ sym (ap clean (put_real m) ∙ fold_real Sort clean_step))
        (λ h. put_bool (λ n. clean (m n)) ∙ sym (ap clean (put_bool m) ∙ fold_bool Sort clean_step)) (λ h. put_unit (λ n. clean (m n)) ∙ sym (ap clean (put_unit m) ∙ fold_unit Sort clean_step))
        named_put_clean

    -- cleaned sorts are a typing too
    first_clean : (May : Sort → Type 0) (s t : Sort) (cs : List Sort) → AllByRecursion (λ c. clean c ≡ c) cs → t ≡ clean s → IsFirstOf May s cs → IsFirstOf May t cs
    first_clean May s t [] a e h = h
    first_clean May s t (c ∷ cs) a e (inl i) = inl (e ∙ ap clean i ∙ a.0)
    first_clean May s t (c ∷ cs) a e (inr h) = inr (h.0, first_clean May s t cs a.1 e h.1)

    numbers_clean : (n : Numbers) → AllByRecursion (λ c. clean c ≡ c) (sorts_among n)
    numbers_clean IntAlone = (fold_int Sort clean_step, tt)
    numbers_clean IntOrReal = (fold_int Sort clean_step, (fold_real Sort clean_step, tt))

    meets_clean : (ds : List Demand) → AllByRecursion (FitDemand F) ds → Meets ds m → Meets ds (λ n. clean (m n))
    meets_clean [] a h = tt
    meets_clean (Test b ∷ ds) a h = (meets_clean ds a.1 h.0, h.1)
    meets_clean (Same s t ∷ ds) a h = (meets_clean ds a.1 h.0, put_clean s a.0.0 ∙ ap clean h.1 ∙ sym (put_clean t a.0.1))
    meets_clean (Possible n s ∷ ds) a h = (meets_clean ds a.1 h.0, h.1)
    meets_clean (First n s ∷ ds) a h =
        (meets_clean ds a.1 h.0, first_clean (λ c. (g : ℕ → Sort) × Meets ds g × (put g s ≡ c)) (put m s) (put (λ n. clean (m n)) s) (sorts_among n) (numbers_clean n) (put_clean s a.0) h.1)

    pub typing_clean : (cs : List Condition) → AllByRecursion (FitCondition F) cs → IsTyping cs m → IsTyping cs (λ n. clean (m n))
    typing_clean cs a h = meets_clean (demands cs) (all_reversed (FitDemand F) (map (λ c. c.demand) cs) (all_of_map (FitDemand F) (λ (c : Condition). c.demand) cs a)) h

  -- what fits after sorts are put fits before
  module _ (f : ℕ → Sort) where
    FitsBack : Sort → Type 0
    FitsBack s = fits F (put f s) ≡ true → fits F s ≡ true

    all_fit_back : (ss : List Sort) → AllByRecursion FitsBack ss → list_all (fits F) (map (put f) ss) ≡ true → AllFit F ss
    unfolding FitsBack
    all_fit_back [] a h = tt
    all_fit_back (s ∷ ss) a h =
        let p = and_parts (fits F (put f s)) (list_all (fits F) (map (put f) ss)) h in
        (a.0 p.0, all_fit_back ss a.1 p.1)

    named_back : (h : ℕ) (ss : List Sort) → AllByRecursion FitsBack ss → FitsBack (Named h ss)
    unfolding FitsBack
    named_back h ss a e =
        let p = and_parts (type_fits F h (length (map (put f) ss))) (list_all (fits F) (map (put f) ss)) (sym (ok_named F (λ i. true) (λ i. true) h (map (put f) ss)) ∙ sym (ap (fits F) (put_named f h ss)) ∙ e) in
        named_fits F h ss (sym (ap (type_fits F h) (length-map ss (put f))) ∙ p.0) (all_fit_back ss a p.1)

    pub fits_back : (s : Sort) → fits F (put f s) ≡ true → fits F s ≡ true
    unfolding FitsBack
    fits_back =
        by_sorts FitsBack (λ i h. ok_var F (λ i. true) (λ i. true) i) (λ i h. ok_rigid F (λ i. true) (λ i. true) i) (λ h. ok_int F (λ i. true) (λ i. true)) (λ h. ok_real F (λ i. true) (λ i. true))
        (λ h. ok_bool F (λ i. true) (λ i. true)) (λ h. ok_unit F (λ i. true) (λ i. true)) named_back

  -- a most general typing has only sorts that fit
  pub principal_fits : (cs : List Condition) (m : ℕ → Sort) → IsPrincipal cs m → AllByRecursion (FitCondition F) cs → (n : ℕ) → fits F (m n) ≡ true
  principal_fits cs m p a n =
      let f = λ (n : ℕ). clean (m n) in
      fits_back f (m n) (ap (fits F) (p.general f (typing_clean m cs a p.typing) n) ∙ clean_fits (m n))

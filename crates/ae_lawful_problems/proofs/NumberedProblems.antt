-- Type variables are numbered: each that stands in a formula is among those that are counted.
use Rattle.std.proofs.Common.{◌≡◌, ◌∙◌, ◌<◌, ℕ, Bool, true, false, ◌||◌, nat_lt, List, [], ◌∷◌, ◌++◌, map, length, refl, sym, ap, subst, Option, Some}
use Rattle.std.proofs.Common.{None, append_assoc}
use Rattle.std.specs.List.{AllByRecursion, list_all, list_any, flat_map}
use Rattle.std.proofs.lemmas.Bool.{and_parts, and_from, lt-ltb}
use Rattle.std.proofs.lemmas.List.{length-map, append-nil}
use Rattle.std.proofs.lemmas.Option.{none-some}
use Rattle.ae_base.proofs.AllOf.{all_front, all_back, all_weaker}
use Rattle.ae_base.proofs.Decided.{decided_of}
use Rattle.ae_base.proofs.Tests.{by_bool, false_true}
use Rattle.ae_core.specs.Decided.{Sort_discrete}
use Rattle.ae_core.specs.Inner.Induction.{by_sorts}
use Rattle.ae_core.specs.Signatures.{is_sort_over, IsLawful}
use Rattle.ae_core.specs.Sorts.{sort_ok, type_fits, same_sort, formula_in}
use Rattle.ae_core.proofs.SortLaws.{ok_var, ok_rigid, ok_int, ok_real, ok_bool, ok_unit, ok_named}
use Rattle.ae_core.specs.declared.terms.Sort.{Sort, Var, Rigid, Int, Real, Bool as BoolSort, Unit as UnitSort, Named}
use Rattle.ae_core.specs.declared.formulas.Formula.{Formula}
use Rattle.ae_core.specs.declared.problems.Signature.{Signature}
use Rattle.ae_elab.specs.Scope.{first_place, after_one}
use Rattle.ae_elab.specs.Numbering.{sorts_in, open_sorts, once_more, variables_among_sorts, numbered_as, by_place, numbered_sort, numbered}
use Rattle.ae_elab.proofs.IndexLaws.{first_stays}
use Rattle.ae_elab.proofs.NumberRules.{open_var, open_rigid, open_named, number_var, number_rigid, number_int, number_real, number_bool, number_unit}
use Rattle.ae_elab.proofs.NumberRules.{number_named}
use Rattle.ae_typed_laws.proofs.SortRules.{first_within}
use Rattle.ae_lawful_problems.proofs.SortedTrees.{fits}
use Rattle.ae_lawful_problems.proofs.PutFits.{Changes}
use Rattle.ae_lawful_problems.proofs.NumberedFormulas.{formula_changed}

-- ---- each of them once
abbrev Found : List Sort → Sort → Type 0
Found vs s = (n : ℕ) × (first_place (same_sort s) vs ≡ Some n)

chosen : (b : Bool) (o : Option ℕ) → b ≡ true → (n : ℕ) × (elim b [ true ↦ Some 0 | false ↦ after_one o ] ≡ Some n)
chosen true o e = (0, refl)
chosen false o e = false_true e

later_found : (b : Bool) (o : Option ℕ) (n : ℕ) → o ≡ Some n → (k : ℕ) × (elim b [ true ↦ Some 0 | false ↦ after_one o ] ≡ Some k)
later_found true o n e = (0, refl)
later_found false (Some k) n e = (ℕ.suc k, refl)
later_found false None n e = absurd (none-some n e)

any_found : (s : Sort) (vs : List Sort) → list_any (same_sort s) vs ≡ true → Found vs s
any_found s [] e = false_true e
any_found s (v ∷ vs) e =
    by_bool (same_sort s v) (λ t. chosen (same_sort s v) (first_place (same_sort s) vs) t)
    (λ f. let x = any_found s vs (sym (ap (λ b. b || list_any (same_sort s) vs) f) ∙ e) in later_found (same_sort s v) (first_place (same_sort s) vs) x.0 x.1)

in_more : (s : Sort) (vs ws : List Sort) → Found vs s → Found (vs ++ ws) s
in_more s vs ws x = (x.0, first_stays (same_sort s) vs ws x.0 x.1)

end_chosen : (b : Bool) (o : Option ℕ) → ((n : ℕ) × (o ≡ Some n)) → (k : ℕ) × (elim b [ true ↦ Some 0 | false ↦ after_one o ] ≡ Some k)
end_chosen b o x = later_found b o x.0 x.1

end_found : (s : Sort) (vs : List Sort) → same_sort s s ≡ true → Found (vs ++ s ∷ []) s
end_found s [] e = chosen (same_sort s s) None e
end_found s (v ∷ vs) e = end_chosen (same_sort s v) (first_place (same_sort s) (vs ++ s ∷ [])) (end_found s vs e)

at_end : (s : Sort) (vs : List Sort) → Found (vs ++ s ∷ []) s
at_end s vs = end_found s vs (decided_of (Sort_discrete s s) refl)

-- what was seen stays
extends_if : (b : Bool) (seen : List Sort) (x : Sort) (xs : List Sort) → ((more : List Sort) × (once_more seen xs ≡ seen ++ more)) → ((more : List Sort) × (once_more (seen ++ x ∷ []) xs ≡ (seen ++ x ∷ []) ++ more))
    → (more : List Sort) × (elim b [ true ↦ once_more seen xs | false ↦ once_more (seen ++ x ∷ []) xs ] ≡ seen ++ more)
extends_if true seen x xs a b = a
extends_if false seen x xs a b = (x ∷ b.0, b.1 ∙ append_assoc seen (x ∷ []) b.0)

once_extends : (seen xs : List Sort) → (more : List Sort) × (once_more seen xs ≡ seen ++ more)
once_extends seen [] = ([], sym (append-nil seen))
once_extends seen (x ∷ xs) = extends_if (list_any (same_sort x) seen) seen x xs (once_extends seen xs) (once_extends (seen ++ x ∷ []) xs)

all_found : (seen xs : List Sort) → AllByRecursion (Found (once_more seen xs)) xs
all_found seen [] = tt
all_found seen (x ∷ xs) =
    by_bool (list_any (same_sort x) seen)
    (λ t. let i : once_more seen (x ∷ xs) ≡ once_more seen xs = ap (λ (b : Bool). elim b [ true ↦ once_more seen xs | false ↦ once_more (seen ++ x ∷ []) xs ]) t in
    let e = once_extends seen xs in
    subst (λ (vs : List Sort). AllByRecursion (Found vs) (x ∷ xs)) (sym i) (subst (λ (vs : List Sort). Found vs x) (sym e.1) (in_more x seen e.0 (any_found x seen t)), all_found seen xs))
    (λ f. let i : once_more seen (x ∷ xs) ≡ once_more (seen ++ x ∷ []) xs = ap (λ (b : Bool). elim b [ true ↦ once_more seen xs | false ↦ once_more (seen ++ x ∷ []) xs ]) f in
    let e = once_extends (seen ++ x ∷ []) xs in
    subst (λ (vs : List Sort). AllByRecursion (Found vs) (x ∷ xs)) (sym i)
    (subst (λ (vs : List Sort). Found vs x) (sym e.1) (in_more x (seen ++ x ∷ []) e.0 (at_end x seen)), all_found (seen ++ x ∷ []) xs))

split_found : (P : Sort → Type 0) (ss : List Sort) → AllByRecursion P (flat_map open_sorts ss) → AllByRecursion (λ s. AllByRecursion P (open_sorts s)) ss
split_found P [] a = tt
split_found P (s ∷ ss) a = (all_front P (open_sorts s) (flat_map open_sorts ss) a, split_found P ss (all_back P (open_sorts s) (flat_map open_sorts ss) a))

-- ---- a sort whose variables are numbered
module _ (F : Signature) (g : Bool) (vs : List Sort) where
  abbrev n : ℕ
  n = length vs

  -- the variables of the item
  abbrev pub stands : Bool → Sort → Bool
  stands true = sort_ok F (λ i. false) (λ i. nat_lt i (length vs))
  stands false = is_sort_over F (length vs)

  abbrev r : Sort → Sort
  r = numbered_sort g vs

  pub numbers_change : Changes r
  numbers_change = record {
    int = number_int g vs;
    real = number_real g vs;
    bool = number_bool g vs;
    unit = number_unit g vs;
    named = number_named g vs;
  }

  variable_stands : (b : Bool) (k : ℕ) → k < n → stands b (numbered_as b k) ≡ true
  variable_stands true k l = ok_rigid F (λ i. false) (λ i. nat_lt i n) k ∙ lt-ltb k n l
  variable_stands false k l = ok_var F (λ i. nat_lt i n) (λ i. false) k ∙ lt-ltb k n l

  place_stands : (s : Sort) → Found vs s → stands g (by_place g (first_place (same_sort s) vs)) ≡ true
  place_stands s x = ap (λ o. stands g (by_place g o)) x.1 ∙ variable_stands g x.0 (first_within (same_sort s) vs x.0 x.1)

  plain_stands : (b : Bool) (s : Sort) → ((v r : ℕ → Bool) → sort_ok F v r s ≡ true) → stands b s ≡ true
  plain_stands true s h = h (λ i. false) (λ i. nat_lt i n)
  plain_stands false s h = h (λ i. nat_lt i n) (λ i. false)

  named_stands : (b : Bool) (h : ℕ) (ss : List Sort) → type_fits F h (length ss) ≡ true → list_all (stands b) ss ≡ true → stands b (Named h ss) ≡ true
  named_stands true h ss f a = ok_named F (λ i. false) (λ i. nat_lt i n) h ss ∙ and_from (type_fits F h (length ss)) (list_all (stands true) ss) f a
  named_stands false h ss f a = ok_named F (λ i. nat_lt i n) (λ i. false) h ss ∙ and_from (type_fits F h (length ss)) (list_all (stands false) ss) f a

  Numbered : Sort → Type 0
  Numbered s = AllByRecursion (Found vs) (open_sorts s) → fits F s ≡ true → stands g (r s) ≡ true

  all_numbered : (ss : List Sort) → AllByRecursion Numbered ss → AllByRecursion (Found vs) (flat_map (λ s. s) (map open_sorts ss)) → list_all (fits F) ss ≡ true → list_all (stands g) (map r ss) ≡ true
  unfolding Numbered
  all_numbered [] c a h = refl
  all_numbered (s ∷ ss) c a h =
      let p = and_parts (fits F s) (list_all (fits F) ss) h in
      and_from (stands g (r s)) (list_all (stands g) (map r ss)) (c.0 (all_front (Found vs) (open_sorts s) (flat_map (λ s. s) (map open_sorts ss)) a) p.0)
      (all_numbered ss c.1 (all_back (Found vs) (open_sorts s) (flat_map (λ s. s) (map open_sorts ss)) a) p.1)

  pub sort_numbered : (s : Sort) → AllByRecursion (Found vs) (open_sorts s) → fits F s ≡ true → stands g (r s) ≡ true
  unfolding Numbered
  sort_numbered =
      by_sorts Numbered
      (λ i a h. ap (stands g) (number_var g vs i) ∙ place_stands (Var i) (subst (AllByRecursion (Found vs)) (open_var i) a).0)
      (λ i a h. ap (stands g) (number_rigid g vs i) ∙ place_stands (Rigid i) (subst (AllByRecursion (Found vs)) (open_rigid i) a).0)
      (λ a h. ap (stands g) (number_int g vs) ∙ plain_stands g Int (ok_int F)) (λ a h. ap (stands g) (number_real g vs) ∙ plain_stands g Real (ok_real F))
      (λ a h. ap (stands g) (number_bool g vs) ∙ plain_stands g BoolSort (ok_bool F)) (λ a h. ap (stands g) (number_unit g vs) ∙ plain_stands g UnitSort (ok_unit F))
      (λ k ss c a h. let p = and_parts (type_fits F k (length ss)) (list_all (fits F) ss) (sym (ok_named F (λ i. true) (λ i. true) k ss) ∙ h) in
      ap (stands g) (number_named g vs k ss)
      ∙ named_stands g k (map r ss) (ap (type_fits F k) (length-map ss r) ∙ p.0) (all_numbered ss c (subst (AllByRecursion (Found vs)) (open_named k ss) a) p.1))

-- ---- a whole formula
pub formula_numbered : (F : Signature) (law : IsLawful F) (g : Bool) (f : Formula) → formula_in F (fits F) [] f ≡ true
    → formula_in F (stands F g (variables_among_sorts (sorts_in f)) g) [] (numbered g (variables_among_sorts (sorts_in f)) f) ≡ true
formula_numbered F law g f h =
    let vs = variables_among_sorts (sorts_in f) in
    let each = split_found (Found vs) (sorts_in f) (all_found [] (flat_map open_sorts (sorts_in f))) in
    formula_changed F law (numbered_sort g vs) (numbers_change F g vs) (fits F) (stands F g vs g) f [] h
    (all_weaker (λ (s : Sort). AllByRecursion (Found vs) (open_sorts s)) (λ (s : Sort). fits F s ≡ true → stands F g vs g (numbered_sort g vs s) ≡ true) (λ s a e. sort_numbered F g vs s a e) (sorts_in f) each)

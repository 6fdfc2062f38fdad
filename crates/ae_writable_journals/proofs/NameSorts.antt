-- Arguments and fields of closed and well sorted terms are such, and so are the terms that stand in such formulas, predicates' applications beside them.
use Rattle.std.specs.Prelude.{ℕ, suc, ◌+◌, Bool, true, false, List, [], ◌∷◌, ◌≡◌, map, length, slice_get, Option, Some, None}
use Rattle.std.specs.List.{AllByRecursion}
use Rattle.std.proofs.Common.{refl, sym, ap, ◌∙◌, subst, arith, inl, inr}
use Rattle.std.proofs.lemmas.Option.{same_Some}
use Rattle.ae_base.specs.Options.{all_known, known}
use Rattle.ae_base.specs.Relations.{Pairwise}
use Rattle.ae_base.proofs.AllOf.{all_weaker}
use Rattle.ae_base.proofs.Options.{each_known, known_some, never_some}
use Rattle.ae_base.proofs.Tests.{false_true}
use Rattle.ae_core.specs.Putting.{put_sort}
use Rattle.ae_core.specs.Signatures.{IsLawful}
use Rattle.ae_core.specs.Sorts.{formula_ok, is_closed_sort, predicate_ok, same_known, sort_in, sort_of}
use Rattle.ae_core.specs.declared.formulas.Formula.{Formula, Formula-F, Eq, Lt, Le, Pred, out-Formula, roll-Formula, roll-out-Formula}
use Rattle.ae_core.specs.declared.formulas.Formula.TheOpen as layer
use Rattle.ae_core.specs.declared.formulas.Formula.TheVariants.{rolls-Lt, rolls-Le}
use Rattle.ae_core.specs.declared.formulas.Quant.{Quant}
use Rattle.ae_core.specs.declared.problems.FieldEntry.{FieldEntry}
use Rattle.ae_core.specs.declared.problems.Kind.{Kind}
use Rattle.ae_core.specs.declared.problems.Kind.TheVariants.{Abstract, Choices, Fields}
use Rattle.ae_core.specs.declared.problems.Signature.{Signature}
use Rattle.ae_core.specs.declared.terms.Head.{Head}
use Rattle.ae_core.specs.declared.terms.Head.TheVariants as head
use Rattle.ae_core.specs.declared.terms.Sort.{Sort, Named}
use Rattle.ae_core.specs.declared.terms.Term.{Term, Term-F, Apply, out-Term}
use Rattle.ae_core.specs.declared.terms.Term.TheOpen as term_layer
use Rattle.ae_core.specs.declared.terms.Term.TheVariants.{outs-Apply}
use Rattle.ae_core.proofs.ClosedSorts.{field_sorted}
use Rattle.ae_core.proofs.SortFacts.{numeric_known, same_known_is}
use Rattle.ae_core.proofs.SortLaws.{formula_in_eq, formula_in_lt, formula_in_le, formula_in_pred}
use Rattle.ae_evaluation.proofs.SortFacts.{is_applied}
use Rattle.ae_journal.specs.States.{inequality_of, outside}
use Rattle.ae_journal.specs.Systems.{field_terms, field_terms_of, record_fields}
use Rattle.ae_legal_stories.proofs.Parts.{parts_ok}
use Rattle.ae_legal_stories.specs.Writable.{IsSortedName}
use Rattle.ae_numerals_kept.proofs.Outside.{all_outside}
use Rattle.ae_rules.specs.Lines.{fields_from}
use Rattle.ae_settled.proofs.Sorts.{IsRecord, is_record}
use Rattle.ae_store.proofs.FieldLaws.{named_back}

module _ (sig : Signature) where
  abbrev HasSort : Term → Type 0
  HasSort t = (s : Sort) × (sort_of sig t ≡ Some s)

  all_names : (us : List Term) → AllByRecursion HasSort us → AllByRecursion (IsSortedName sig) us
  all_names us a = all_weaker HasSort (IsSortedName sig) (λ u s. inl s) us a

  -- ---- arguments
  same_arguments : (h : Head) (ss : List Sort) (us : List Term) (p : ℕ) (os : List Sort) (vs : List Term) → Apply h ss us ≡ Apply (head.Symbol p) os vs → vs ≡ us
  same_arguments h ss us p os vs e =
      let z : ◌≡◌ {A = Term-F Term} (term_layer.Apply h ss us) (term_layer.Apply (head.Symbol p) os vs) = sym (outs-Apply h ss us) ∙ ap out-Term e ∙ outs-Apply (head.Symbol p) os vs in cc z

  predicate_arguments : (p : ℕ) (ss : List Sort) (us : List Term) (o : Option (List Sort)) → all_known (map (sort_of sig) us) ≡ o → predicate_ok sig (is_closed_sort sig) p ss o ≡ true → AllByRecursion HasSort us
  predicate_arguments p ss us (Some args) k e = each_known (sort_of sig) us args k
  predicate_arguments p ss us None k e = false_true e

  pub arguments_sorted : (h : Head) (ss : List Sort) (us : List Term) → IsSortedName sig (Apply h ss us) → AllByRecursion (IsSortedName sig) us
  arguments_sorted h ss us (inl s) = let a = is_applied sig h ss us s.0 s.1 in all_names us (each_known (sort_of sig) us a.args a.known)
  arguments_sorted h ss us (inr q) =
      all_names us
      (subst (AllByRecursion HasSort) (same_arguments h ss us q.0 q.1 q.2 q.3)
      (predicate_arguments q.0 q.1 q.2 (all_known (map (sort_in sig (is_closed_sort sig) []) q.2)) refl (sym (formula_in_pred sig (is_closed_sort sig) [] q.0 q.1 q.2) ∙ q.4)))

  -- ---- fields
  module _ (lawful : IsLawful sig) (s : Sort) (ss : List Sort) (u : Term) (sorted : sort_of sig u ≡ Some s) (is : record_fields sig s ≡ Some ss) where
    abbrev record_of : IsRecord sig s ss
    record_of = is_record sig s ss is

    owner : sort_of sig u ≡ Some (Named record_of.type record_of.sorts)
    owner = sorted ∙ ap (λ (o : Sort). Some o) (sym (named_back s record_of.type record_of.sorts record_of.out))

    one_field : (i : ℕ) (f : FieldEntry) → slice_get record_of.fields i ≡ Some f → sort_of sig (Apply (head.Field record_of.type i) record_of.sorts (u ∷ [])) ≡ Some (put_sort record_of.sorts f.sort)
    one_field i f at =
        field_sorted sig lawful record_of.type i record_of.sorts u record_of.entry f record_of.at
        (ap (λ (k : Kind). slice_get (elim k as (λ _. List FieldEntry) [ Fields fs ↦ fs | Abstract ↦ [] | Choices cs ↦ [] ]) i) record_of.kind ∙ at) owner

    fields_behind : (i : ℕ) (fs : List FieldEntry) → ((j : ℕ) → slice_get record_of.fields (i + j) ≡ slice_get fs j)
        → Pairwise (λ r t. sort_of sig t ≡ Some r) (map (λ f. put_sort record_of.sorts f.sort) fs) (fields_from record_of.type record_of.sorts u i (length (map (λ (f : FieldEntry). put_sort record_of.sorts f.sort) fs)))
    fields_behind i [] at = tt
    fields_behind i (f ∷ fs) at =
        let here : i ≡ i + 0 = omega arith in
        let there : (j : ℕ) → suc i + j ≡ i + suc j = λ j. omega arith in
        (one_field i f (ap (slice_get record_of.fields) here ∙ at 0), fields_behind (suc i) fs (λ j. ap (slice_get record_of.fields) (there j) ∙ at (suc j)))

    -- the fields of a record have the sorts of its type's fields
    pub fields_sorted : Pairwise (λ r t. sort_of sig t ≡ Some r) ss (field_terms s u (length ss))
    fields_sorted =
        let terms : field_terms s u (length ss) ≡ fields_from record_of.type record_of.sorts u 0 (length ss) = ap (λ l. field_terms_of l u (length ss)) record_of.out in
        subst (Pairwise (λ r t. sort_of sig t ≡ Some r) ss) (sym terms)
        (subst (λ (os : List Sort). Pairwise (λ r t. sort_of sig t ≡ Some r) os (fields_from record_of.type record_of.sorts u 0 (length os))) (sym record_of.are)
        (fields_behind 0 record_of.fields (λ j. let z : 0 + j ≡ j = omega arith in ap (slice_get record_of.fields) z)))

  each_sorted : (ss : List Sort) (ts : List Term) → Pairwise (λ r t. sort_of sig t ≡ Some r) ss ts → AllByRecursion HasSort ts
  each_sorted [] [] a = tt
  each_sorted [] (t ∷ ts) a = absurd a
  each_sorted (s ∷ ss) [] a = absurd a
  each_sorted (s ∷ ss) (t ∷ ts) a = ((s, a.0), each_sorted ss ts a.1)

  pub field_names_sorted : IsLawful sig → (s : Sort) (ss : List Sort) (u : Term) → sort_of sig u ≡ Some s → record_fields sig s ≡ Some ss → AllByRecursion (IsSortedName sig) (field_terms s u (length ss))
  field_names_sorted lawful s ss u e f = all_names (field_terms s u (length ss)) (each_sorted ss (field_terms s u (length ss)) (fields_sorted lawful s ss u e f))

  -- ---- formulas
  -- two terms of one sort
  abbrev pub HaveOneSort : Term → Term → Type 0
  HaveOneSort a b = (s : Sort) × (sort_of sig a ≡ Some s) × (sort_of sig b ≡ Some s)

  one_sort : (a b : Term) → same_known (sort_of sig a) (sort_of sig b) ≡ true → HaveOneSort a b
  one_sort a b e =
      let q = same_known_is (sort_of sig a) (sort_of sig b) e in
      let k = known_some (sort_of sig a) q.0 in
      (k.0, k.1, sym q.1 ∙ k.1)

  below_sorted : (a b : Term) → formula_ok sig (Lt a b) ≡ true → HaveOneSort a b
  below_sorted a b e = one_sort a b (numeric_known (sort_of sig a) (sort_of sig b) (sym (formula_in_lt sig (is_closed_sort sig) [] a b) ∙ e))

  at_most_sorted : (a b : Term) → formula_ok sig (Le a b) ≡ true → HaveOneSort a b
  at_most_sorted a b e = one_sort a b (numeric_known (sort_of sig a) (sort_of sig b) (sym (formula_in_le sig (is_closed_sort sig) [] a b) ∙ e))

  two_names : (a b : Term) → HaveOneSort a b → IsSortedName sig a × IsSortedName sig b
  two_names a b h = (inl (h.0, h.1), inl (h.0, h.2))

  pub outside_sorted : (f : Formula) → formula_ok sig f ≡ true → AllByRecursion (IsSortedName sig) (outside f)
  outside_sorted =
      all_outside (λ f. formula_ok sig f ≡ true) (IsSortedName sig) (λ f h o i. parts_ok sig f o h i)
      (λ a b o. two_names a b (one_sort a b (sym (formula_in_eq sig (is_closed_sort sig) [] a b) ∙ o)))
      (λ a b o. two_names a b (below_sorted a b o))
      (λ a b o. two_names a b (at_most_sorted a b o))
      (λ p ss us o. inr (p, ss, us, refl, o))

  -- ---- inequalities
  turned : (a b : Term) → HaveOneSort a b → HaveOneSort b a
  turned a b h = (h.0, h.2, h.1)

  these : (a b s t : Term) (k b' : Bool) → ◌≡◌ {A = Option (Term × Term × Bool)} (Some (a, b, k)) (Some (s, t, b')) → HaveOneSort a b → HaveOneSort s t
  these a b s t k b' e h =
      let same : (a, b, k) ≡ (s, t, b') = same_Some (a, b, k) (s, t, b') e in
      subst (λ (w : Term × Term × Bool). HaveOneSort w.0 w.1) same h

  pub inequality_sorts : (f : Formula) (sign : Bool) (s t : Term) (strict : Bool) → formula_ok sig f ≡ true → inequality_of sign (out-Formula f) ≡ Some (s, t, strict) → HaveOneSort s t
  inequality_sorts f sign s t strict ok e = go sign (out-Formula f) refl e
    where
      less : (a b : Term) → out-Formula f ≡ layer.Lt a b → HaveOneSort a b
      less a b o = below_sorted a b (ap (formula_ok sig) (sym (sym (roll-out-Formula f) ∙ ap roll-Formula o ∙ rolls-Lt a b)) ∙ ok)

      most : (a b : Term) → out-Formula f ≡ layer.Le a b → HaveOneSort a b
      most a b o = at_most_sorted a b (ap (formula_ok sig) (sym (sym (roll-out-Formula f) ∙ ap roll-Formula o ∙ rolls-Le a b)) ∙ ok)

      go : (b : Bool) (l : Formula-F Formula Quant) → out-Formula f ≡ l → inequality_of b l ≡ Some (s, t, strict) → HaveOneSort s t
      go true (layer.Lt a c) o h = these c a s t true strict h (turned a c (less a c o))
      go false (layer.Lt a c) o h = these a c s t false strict h (less a c o)
      go true (layer.Le a c) o h = these c a s t false strict h (turned a c (most a c o))
      go false (layer.Le a c) o h = these a c s t true strict h (most a c o)
      go true layer.True o h = never_some (s, t, strict) h
      go false layer.True o h = never_some (s, t, strict) h
      go true layer.False o h = never_some (s, t, strict) h
      go false layer.False o h = never_some (s, t, strict) h
      go true (layer.Eq a c) o h = never_some (s, t, strict) h
      go false (layer.Eq a c) o h = never_some (s, t, strict) h
      go true (layer.Pred p os us) o h = never_some (s, t, strict) h
      go false (layer.Pred p os us) o h = never_some (s, t, strict) h
      go true (layer.Not a) o h = never_some (s, t, strict) h
      go false (layer.Not a) o h = never_some (s, t, strict) h
      go true (layer.And a c) o h = never_some (s, t, strict) h
      go false (layer.And a c) o h = never_some (s, t, strict) h
      go true (layer.Or a c) o h = never_some (s, t, strict) h
      go false (layer.Or a c) o h = never_some (s, t, strict) h
      go true (layer.Xor a c) o h = never_some (s, t, strict) h
      go false (layer.Xor a c) o h = never_some (s, t, strict) h
      go true (layer.Iff a c) o h = never_some (s, t, strict) h
      go false (layer.Iff a c) o h = never_some (s, t, strict) h
      go true (layer.All q) o h = never_some (s, t, strict) h
      go false (layer.All q) o h = never_some (s, t, strict) h
      go true (layer.Ex q) o h = never_some (s, t, strict) h
      go false (layer.Ex q) o h = never_some (s, t, strict) h

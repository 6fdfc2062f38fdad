-- Patterns by the sorts of names, and that a name has one.
use Rattle.std.specs.Prelude.{ℕ, ◌<◌, true, false, List, ◌∷◌, ◌≡◌, length, slice_get, Some, None}
use Rattle.std.proofs.Common.{refl, sym, ap, ◌∙◌, subst, arith, inl, inr}
use Rattle.std.proofs.lemmas.Option.{same_Some, none-some, slice_get_within}
use Rattle.ae_base.proofs.ListFacts.{cons_head, cons_tail, value_at}
use Rattle.ae_base.proofs.Tests.{true_false}
use Rattle.ae_core.specs.Sorts.{sort_of, is_numeric}
use Rattle.ae_core.specs.declared.terms.Sort.{Sort}
use Rattle.ae_core.specs.declared.terms.Sort.TheVariants.{outs-Int, outs-Real}
use Rattle.ae_core.specs.declared.terms.Term.{Term}
use Rattle.ae_core.specs.declared.problems.Signature.{Signature}
use Rattle.ae_journal.specs.Systems.{IsPredicateName, record_fields, fields_of, field_terms}
use Rattle.ae_evaluation.proofs.SortFacts.{numeric_is}
use Rattle.ae_settled.proofs.Sorts.{predicate_of, predicate_unsorted}
use Rattle.ae_store.specs.Terms.{HasOneName, IsOfSort}
use Rattle.ae_store.proofs.StoreLaws.{name_term}
use Rattle.ae_value_table.specs.declared.patterns.Pattern.{Pattern, Number, Leaf, Fields}
use Rattle.ae_value_table.specs.declared.patterns.Entry.{Entry}
use Rattle.ae_value_fitting.specs.Fitting.{HavePatterns, ArePatterns}
use Rattle.ae_patterns.specs.Patterns.{IsPatternOf, of_number, of_record, of_other, of_predicate, ArePatternsOf, no_term, a_term, IsEntryOf, AreEntriesOf}

module _ (sig : Signature) (ts : List Term) where
  pub numeric_record : (s : Sort) (ss : List Sort) → is_numeric s ≡ true → record_fields sig s ≡ Some ss → ⊥
  numeric_record s ss m f =
      elim (numeric_is s m) [
        | inl e ↦ none-some ss (sym (ap (record_fields sig) e ∙ ap (fields_of sig) outs-Int) ∙ f)
        | inr e ↦ none-some ss (sym (ap (record_fields sig) e ∙ ap (fields_of sig) outs-Real) ∙ f)
      ]

  sort_is : (n : ℕ) (t u : Term) (s r : Sort) → slice_get ts n ≡ Some t → sort_of sig t ≡ Some s → slice_get ts n ≡ Some u → sort_of sig u ≡ Some r → s ≡ r
  sort_is n t u s r at o at' o' = same_Some s r (sym o ∙ ap (sort_of sig) (same_Some t u (sym at ∙ at')) ∙ o')

  unsorted : (n : ℕ) (t u : Term) (s : Sort) → slice_get ts n ≡ Some t → IsPredicateName sig t → slice_get ts n ≡ Some u → sort_of sig u ≡ Some s → ⊥
  unsorted n t u s at h at' o = predicate_unsorted sig t s h (ap (sort_of sig) (same_Some t u (sym at ∙ at')) ∙ o)

  pub number_is : (n : ℕ) (p : Pattern) → IsPatternOf sig ts n p → (t : Term) (s : Sort) → slice_get ts n ≡ Some t → sort_of sig t ≡ Some s → is_numeric s ≡ true → p ≡ Number n
  number_is _ _ (of_number n p t s at o m e) t' s' at' o' m' = e
  number_is _ _ (of_record n p t s ss ps at o f are e) t' s' at' o' m' = absurd (numeric_record s ss (ap is_numeric (sort_is n t t' s s' at o at' o') ∙ m') f)
  number_is _ _ (of_other n p t s at o m f e) t' s' at' o' m' = absurd (true_false (sym m' ∙ ap is_numeric (sym (sort_is n t t' s s' at o at' o')) ∙ m))
  number_is _ _ (of_predicate n p t at h e) t' s' at' o' m' = absurd (unsorted n t t' s' at h at' o')

  pub leaf_is : (n : ℕ) (p : Pattern) → IsPatternOf sig ts n p → (t : Term) (s : Sort) → slice_get ts n ≡ Some t → sort_of sig t ≡ Some s → is_numeric s ≡ false → record_fields sig s ≡ None → p ≡ Leaf n
  leaf_is _ _ (of_number n p t s at o m e) t' s' at' o' m' f' = absurd (true_false (sym m ∙ ap is_numeric (sort_is n t t' s s' at o at' o') ∙ m'))
  leaf_is _ _ (of_record n p t s ss ps at o f are e) t' s' at' o' m' f' = absurd (none-some ss (sym f' ∙ ap (record_fields sig) (sym (sort_is n t t' s s' at o at' o')) ∙ f))
  leaf_is _ _ (of_other n p t s at o m f e) t' s' at' o' m' f' = e
  leaf_is _ _ (of_predicate n p t at h e) t' s' at' o' m' f' = absurd (unsorted n t t' s' at h at' o')

  pub predicate_is : (n : ℕ) (p : Pattern) → IsPatternOf sig ts n p → (t : Term) → slice_get ts n ≡ Some t → IsPredicateName sig t → p ≡ Leaf n
  predicate_is _ _ (of_number n p t s at o m e) t' at' h = absurd (unsorted n t' t s at' h at o)
  predicate_is _ _ (of_record n p t s ss ps at o f are e) t' at' h = absurd (unsorted n t' t s at' h at o)
  predicate_is _ _ (of_other n p t s at o m f e) t' at' h = absurd (unsorted n t' t s at' h at o)
  predicate_is _ _ (of_predicate n p t at h e) t' at' h' = e

  pub record IsRecordOf (n : ℕ) (p : Pattern) (us : List Term) : Type 0 where
    pub parts : List Pattern
    pub is : p ≡ Fields n parts
    pub are : ArePatternsOf sig ts us parts

  pub record_is : (n : ℕ) (p : Pattern) → IsPatternOf sig ts n p → (t : Term) (s : Sort) (ss : List Sort) → slice_get ts n ≡ Some t → sort_of sig t ≡ Some s → record_fields sig s ≡ Some ss
      → IsRecordOf n p (field_terms s t (length ss))
  record_is _ _ (of_number n p t s at o m e) t' s' ss' at' o' f' = absurd (numeric_record s ss' m (ap (record_fields sig) (sort_is n t t' s s' at o at' o') ∙ f'))
  record_is _ _ (of_record n p t s ss ps at o f are e) t' s' ss' at' o' f' =
      let es : s ≡ s' = sort_is n t t' s s' at o at' o' in
      let et : t ≡ t' = same_Some t t' (sym at ∙ at') in
      let ess : ss ≡ ss' = same_Some ss ss' (sym f ∙ ap (record_fields sig) es ∙ f') in
      record { parts = ps; is = e; are = subst (λ us. ArePatternsOf sig ts us ps) (λ i. field_terms (es i) (et i) (length (ess i))) are }
  record_is _ _ (of_other n p t s at o m f e) t' s' ss' at' o' f' = absurd (none-some ss' (sym f ∙ ap (record_fields sig) (sort_is n t t' s s' at o at' o') ∙ f'))
  record_is _ _ (of_predicate n p t at h e) t' s' ss' at' o' f' = absurd (unsorted n t t' s' at h at' o')

  -- ---- a name has one pattern
  module _ (one : HasOneName ts) where
    mutual
      pub one_pattern : (n : ℕ) (p : Pattern) → IsPatternOf sig ts n p → (q : Pattern) → IsPatternOf sig ts n q → p ≡ q
      one_pattern _ _ (of_number n p t s at o m e) q h = e ∙ sym (number_is n q h t s at o m)
      one_pattern _ _ (of_record n p t s ss ps at o f are e) q h =
          let r = record_is n q h t s ss at o f in
          e ∙ ap (Fields n) (one_list (field_terms s t (length ss)) ps are (field_terms s t (length ss)) r.parts r.are refl) ∙ sym r.is
      one_pattern _ _ (of_other n p t s at o m f e) q h = e ∙ sym (leaf_is n q h t s at o m f)
      one_pattern _ _ (of_predicate n p t at g e) q h = e ∙ sym (predicate_is n q h t at g)

      one_list : (us : List Term) (ps : List Pattern) → ArePatternsOf sig ts us ps → (ws : List Term) (qs : List Pattern) → ArePatternsOf sig ts ws qs → us ≡ ws → ps ≡ qs
      one_list _ _ no_term _ _ no_term e = refl
      one_list _ _ no_term _ _ (a_term n t us p ps at h hs) e = absurd (cc e)
      one_list _ _ (a_term n t us p ps at h hs) _ _ no_term e = absurd (cc e)
      one_list _ _ (a_term n t us p ps at h hs) _ _ (a_term n' t' us' p' ps' at' h' hs') e =
          let et : t ≡ t' = cons_head t t' us us' e in
          let en : n ≡ n' = one n n' t at (at' ∙ ap Some (sym et)) in
          let ep : p ≡ p' = one_pattern n p h p' (subst (λ k. IsPatternOf sig ts k p') (sym en) h') in
          let eps : ps ≡ ps' = one_list us ps hs us' ps' hs' (cons_tail t t' us us' e) in
          λ i. ep i ∷ eps i

    -- ---- what is known of all names
    module _ (es : List Entry) (entries : AreEntriesOf sig ts es) (all : length es ≡ length ts) where
      pub entry_there : (n : ℕ) (t : Term) → slice_get ts n ≡ Some t → (e : Entry) × (slice_get es n ≡ Some e) × IsEntryOf sig ts n e
      entry_there n t at =
          let l : n < length ts = slice_get_within ts n t at in
          let e = value_at es n (omega (arith, l, all)) in
          (e.0, e.1, entries.each n e.0 e.1)

      have_patterns : (us : List Term) (ps : List Pattern) → ArePatternsOf sig ts us ps → HavePatterns ts es us ps
      have_patterns _ _ no_term = tt
      have_patterns _ _ (a_term n t us p ps at h hs) =
          let e = entry_there n t at in
          (record { name = n; is = at; entry = e.0; there = e.1; pattern = one_pattern n (e.0).pattern e.2.pattern p h }, have_patterns us ps hs)

      entry_sort : (t : Term) (s r : Sort) → IsOfSort sig t r → sort_of sig t ≡ Some s → r ≡ s
      entry_sort t s r (inl h) o = same_Some r s (sym h ∙ o)
      entry_sort t s r (inr h) o = absurd (predicate_unsorted sig t s (predicate_of sig t h.0) o)

      pub patterns_fit : ArePatterns sig ts es
      patterns_fit = record {
        sorts = λ n t s e at o there. entry_sort t s e.sort (subst (λ u. IsOfSort sig u e.sort) (name_term ts n t at) (entries.each n e there).sort) o;
        numbers = λ n t s e at o there m. number_is n e.pattern (entries.each n e there).pattern t s at o m;
        records = λ n t s ss e at o there f. (let r = record_is n e.pattern (entries.each n e there).pattern t s ss at o f in (r.parts, r.is, have_patterns (field_terms s t (length ss)) r.parts r.are));
        others = λ n t s e at o there m f. leaf_is n e.pattern (entries.each n e there).pattern t s at o m f;
        predicates = λ n t e at h there. predicate_is n e.pattern (entries.each n e there).pattern t at h;
      }

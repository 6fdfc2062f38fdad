-- Terms: closed and well sorted, all different, with their subterms and fields.
use Rattle.std.specs.Prelude.{ℕ, zero, suc, ◌+◌, ◌<◌, ◌≤◌, List, [], ◌∷◌, ◌≡◌, ◌⊎◌, length, slice_get, Some}
use Rattle.std.specs.List.{AllByRecursion}
use Rattle.std.proofs.Common.{sym, ap, ◌∙◌, subst, arith, inl, inr}
use Rattle.std.proofs.lemmas.Option.{same_Some, slice_get_within}
use Rattle.ae_base.proofs.ListFacts.{get_map}
use Rattle.ae_base.proofs.AllOf.{all_weaker, all_of_map}
use Rattle.ae_core.specs.Sorts.{sort_of}
use Rattle.ae_core.specs.declared.terms.Sort.{Sort}
use Rattle.ae_core.specs.declared.terms.Term.{Term, Apply}
use Rattle.ae_core.specs.declared.terms.Head.{Head}
use Rattle.ae_core.specs.declared.terms.Head.TheVariants as head
use Rattle.ae_rules.specs.Lines.{fields_from}
use Rattle.ae_journal.specs.Systems.{IsName, IsNamed, IsPredicateName, record_fields, field_terms, field_terms_of}
use Rattle.ae_store.specs.declared.nodes.Node.{Node}
use Rattle.ae_store.specs.Shapes.{shapes, shape_of}
use Rattle.ae_store.specs.Terms.{named, applied}
use Rattle.ae_store.specs.Stores.{IsStore}
use Rattle.ae_store.specs.Fields.{field_count, field_head, sort_args}
use Rattle.ae_store.proofs.TermLaws.{length_terms, term_at}
use Rattle.ae_store.proofs.SortedLaws.{node_sorted}
use Rattle.ae_store.proofs.StoreLaws.{name_term}
use Rattle.ae_settled.specs.Held.{Held, terms_of, system_of}
use Rattle.ae_settled.proofs.Sorts.{IsRecord, is_record, count_is, head_is, args_is, predicate_of, predicate_unsorted}
use Rattle.ae_settled.proofs.Nodes.{named_at, node_there, application}

each_from : (P : Term → Type 0) (n : ℕ) (ss : List Sort) (t : Term) (i k : ℕ) → ((j : ℕ) → i ≤ j → j < i + k → P (Apply (head.Field n j) ss (t ∷ []))) → AllByRecursion P (fields_from n ss t i k)
each_from P n ss t i zero f = tt
each_from P n ss t i (suc k) f = (f i (omega arith) (omega arith), each_from P n ss t (suc i) k (λ j a b. f j (omega (arith, a)) (omega (arith, b))))

module _ (x : Held) (store : IsStore x.signature x.nodes) where
  pub named_sorted : (n : ℕ) (t : Term) → IsName (system_of x) n t → ((s : Sort) × (sort_of x.signature t ≡ Some s)) ⊎ IsPredicateName x.signature t
  named_sorted n t e =
      let p = node_there x.signature x.nodes store n t e in
      elim (node_sorted x.signature x.nodes n p.0 t store.sound p.1 e) [ inl h ↦ inl ((p.0).sort, h) | inr h ↦ inr (predicate_of x.signature t h.0) ]

  pub apart : (m n : ℕ) (t : Term) → IsName (system_of x) m t → IsName (system_of x) n t → m ≡ n
  apart m n t e f = store.sound.one_name m n t e f

  pub subterms : (n : ℕ) (h : Head) (ss : List Sort) (us : List Term) → IsName (system_of x) n (Apply h ss us) → AllByRecursion (IsNamed (system_of x)) us
  subterms n h ss us e =
      let a = application x.signature x.nodes store n h ss us e in
      subst (AllByRecursion (IsNamed (system_of x))) a.shape.args
      (all_of_map (IsNamed (system_of x)) (named (terms_of x)) a.node.args
      (all_weaker (λ b. b < length (terms_of x)) (λ b. IsNamed (system_of x) (named (terms_of x) b)) (λ b l. (b, named_at (terms_of x) b l)) a.node.args a.within))

  -- the sort of a name's node is that of its term
  node_sort : (n : ℕ) (t : Term) (s : Sort) (p : Node) → IsName (system_of x) n t → slice_get x.nodes n ≡ Some p → sort_of x.signature t ≡ Some s → p.sort ≡ s
  node_sort n t s p e a o =
      elim (node_sorted x.signature x.nodes n p t store.sound a e) [ inl h ↦ same_Some p.sort s (sym h ∙ o) | inr h ↦ absurd (predicate_unsorted x.signature t s (predicate_of x.signature t h.0) o) ]

  field_named : (n : ℕ) (t : Term) (s : Sort) (ss : List Sort) → IsName (system_of x) n t → sort_of x.signature t ≡ Some s → (r : IsRecord x.signature s ss) → (k : ℕ) → k < length ss
      → IsNamed (system_of x) (Apply (head.Field r.type k) r.sorts (t ∷ []))
  field_named n t s ss e o r k l =
      let p = node_there x.signature x.nodes store n t e in
      let q = node_sort n t s p.0 e p.1 o in
      let w : n < length (shapes x.nodes) = subst (λ m. n < m) (length_terms (shapes x.nodes)) (slice_get_within (terms_of x) n t e) in
      let c : k < field_count x.signature (p.0).sort = subst (λ m. k < m) (sym (ap (field_count x.signature) q ∙ count_is x.signature s ss r)) l in
      let f = (store.fields.each n w).fields (shape_of p.0) k (get_map shape_of x.nodes n p.0 p.1) c in
      let at = term_at x.signature (shapes x.nodes) store.sound f.name (applied x.signature (field_head (p.0).sort k) (sort_args (p.0).sort) (n ∷ [])) f.at in
      let h : field_head (p.0).sort k ≡ head.Field r.type k = ap (λ o. field_head o k) q ∙ head_is x.signature s ss r k in
      let g : sort_args (p.0).sort ≡ r.sorts = ap sort_args q ∙ args_is x.signature s ss r in
      let z : named (terms_of x) n ≡ t = name_term (terms_of x) n t e in
      (f.name, at ∙ (λ i. Some (Apply (h i) (g i) (z i ∷ []))))

  pub field_names : (n : ℕ) (t : Term) (s : Sort) (ss : List Sort) → IsName (system_of x) n t → sort_of x.signature t ≡ Some s → record_fields x.signature s ≡ Some ss
      → AllByRecursion (IsNamed (system_of x)) (field_terms s t (length ss))
  field_names n t s ss e o f =
      let r = is_record x.signature s ss f in
      subst (AllByRecursion (IsNamed (system_of x))) (sym (ap (λ l. field_terms_of l t (length ss)) r.out))
      (each_from (IsNamed (system_of x)) r.type r.sorts t 0 (length ss) (λ k a b. field_named n t s ss e o r k (omega (arith, b))))

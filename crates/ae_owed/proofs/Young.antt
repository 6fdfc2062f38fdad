-- With a term its arguments and fields are known, at the same number.
use Rattle.std.specs.Prelude.{ℕ, zero, suc, ◌+◌, ◌<◌, ◌≤◌, List, [], ◌∷◌, ◌≡◌, length, slice_get, Some}
use Rattle.std.specs.List.{AllByRecursion, Contains}
use Rattle.std.proofs.Common.{sym, ap, ◌∙◌, subst, arith, inl, inr}
use Rattle.std.proofs.lemmas.List.{length-map}
use Rattle.std.proofs.lemmas.Option.{same_Some, slice_get_within, slice_get-get_or}
use Rattle.ae_base.proofs.AllOf.{all_at}
use Rattle.ae_base.proofs.ListFacts.{get_map, value_at}
use Rattle.ae_core.specs.Sorts.{sort_of}
use Rattle.ae_core.specs.declared.terms.Head.{Head}
use Rattle.ae_core.specs.declared.terms.Head.TheVariants as head
use Rattle.ae_core.specs.declared.terms.Sort.{Sort}
use Rattle.ae_core.specs.declared.terms.Term.{Term, Apply}
use Rattle.ae_rules.specs.Lines.{fields_from}
use Rattle.ae_journal.proofs.Splits.{all_contained}
use Rattle.ae_journal.specs.Systems.{record_fields, field_terms, field_terms_of}
use Rattle.ae_settled.proofs.Nodes.{named_at, application}
use Rattle.ae_settled.proofs.Sorts.{IsRecord, is_record, count_is, head_is, args_is, predicate_of, predicate_unsorted}
use Rattle.ae_store.proofs.Gets.{get_unmap}
use Rattle.ae_store.proofs.PartLaws.{in_one}
use Rattle.ae_store.proofs.SortedLaws.{node_sorted}
use Rattle.ae_store.proofs.StoreLaws.{name_term}
use Rattle.ae_store.proofs.TermLaws.{length_terms, term_at}
use Rattle.ae_store.specs.Fields.{field_count, field_head, sort_args}
use Rattle.ae_store.specs.Parts.{IsPart, root, argument, field}
use Rattle.ae_store.specs.Shapes.{shapes, shape_of}
use Rattle.ae_store.specs.Stores.{Stored, IsStore}
use Rattle.ae_store.specs.Terms.{terms, named, applied}
use Rattle.ae_store.specs.declared.nodes.Node.{Node}
use Rattle.ae_owed.specs.Known.{IsYoung}

all_fields : (P : Term → Type 0) (n : ℕ) (ss : List Sort) (t : Term) (i k : ℕ) → ((j : ℕ) → i ≤ j → j < i + k → P (Apply (head.Field n j) ss (t ∷ []))) → AllByRecursion P (fields_from n ss t i k)
all_fields P n ss t i zero f = tt
all_fields P n ss t i (suc k) f = (f i (omega arith) (omega arith), all_fields P n ss t (suc i) k (λ j a b. f j (omega (arith, a)) (omega (arith, b))))

module _ (s : Stored) (store : IsStore s.signature s.nodes) where
  abbrev ts : List Term
  ts = terms (shapes s.nodes)

  count : length ts ≡ length s.nodes
  count = length_terms (shapes s.nodes) ∙ length-map s.nodes shape_of

  -- a part of a name is as young
  pub part_young : (n m b : ℕ) (x : Node) (t : Term) → slice_get s.nodes m ≡ Some x → x.generation ≤ n → IsPart s.signature (shapes s.nodes) (m ∷ []) b → slice_get ts b ≡ Some t → IsYoung s n t
  part_young n m b x t at le part e =
      let y = value_at s.nodes b (omega (arith, slice_get_within ts b t e, count)) in
      record { name = b; at = e; node = y.0; there = y.1; young = omega (arith, le, store.nested.each m b x y.0 part at y.1) }

  pub argument_young : (n : ℕ) (h : Head) (ss : List Sort) (us : List Term) (t : Term) → IsYoung s n (Apply h ss us) → Contains us t → IsYoung s n t
  argument_young n h ss us t y c =
      let a = application s.signature s.nodes store y.name h ss us y.at in
      let g : slice_get us c.0 ≡ Some t = slice_get-get_or us c.0 t c.1 ∙ ap (λ (z : Term). Some z) c.2 in
      let r = get_unmap (named ts) a.node.args c.0 t (ap (λ (w : List Term). slice_get w c.0) a.shape.args ∙ g) in
      let e : slice_get ts r.0 ≡ Some t = named_at ts r.0 (all_at (λ b. b < length ts) a.node.args c.0 r.0 a.within r.1) ∙ ap (λ (z : Term). Some z) r.2 in
      let same : a.node ≡ y.node = same_Some a.node y.node (sym a.at ∙ y.there) in
      let le : a.node.generation ≤ n = subst (λ (z : Node). z.generation ≤ n) (sym same) y.young in
      part_young n y.name r.0 a.node t a.at le
      (argument y.name (shape_of a.node) r.0 (root y.name (in_one y.name)) (get_map shape_of s.nodes y.name a.node a.at) (record { place = c.0; is = r.1 })) e

  module _ (n : ℕ) (o : Sort) (ss : List Sort) (u : Term) (y : IsYoung s n u) (e : sort_of s.signature u ≡ Some o) (r : IsRecord s.signature o ss) where
    its_sort : y.node.sort ≡ o
    its_sort =
        elim (node_sorted s.signature s.nodes y.name y.node u store.sound y.there y.at) as (λ _. y.node.sort ≡ o) [
          | inl h ↦ same_Some y.node.sort o (sym h ∙ e)
          | inr h ↦ absurd (predicate_unsorted s.signature u o (predicate_of s.signature u h.0) e)
        ]

    one_field : (k : ℕ) → k < length ss → IsYoung s n (Apply (head.Field r.type k) r.sorts (u ∷ []))
    one_field k l =
        let w : y.name < length (shapes s.nodes) = omega (arith, slice_get_within s.nodes y.name y.node y.there, length-map s.nodes shape_of) in
        let c : k < field_count s.signature y.node.sort = subst (λ (m : ℕ). k < m) (sym (ap (field_count s.signature) its_sort ∙ count_is s.signature o ss r)) l in
        let at : slice_get (shapes s.nodes) y.name ≡ Some (shape_of y.node) = get_map shape_of s.nodes y.name y.node y.there in
        let f = (store.fields.each y.name w).fields (shape_of y.node) k at c in
        let b = term_at s.signature (shapes s.nodes) store.sound f.name (applied s.signature (field_head y.node.sort k) (sort_args y.node.sort) (y.name ∷ [])) f.at in
        let h : field_head y.node.sort k ≡ head.Field r.type k = ap (λ (z : Sort). field_head z k) its_sort ∙ head_is s.signature o ss r k in
        let g : sort_args y.node.sort ≡ r.sorts = ap sort_args its_sort ∙ args_is s.signature o ss r in
        let z : named ts y.name ≡ u = name_term ts y.name u y.at in
        part_young n y.name f.name y.node (Apply (head.Field r.type k) r.sorts (u ∷ [])) y.there y.young
        (field y.name (shape_of y.node) k f.name (root y.name (in_one y.name)) at c f.at) (b ∙ (λ i. Some (Apply (h i) (g i) (z i ∷ []))))

  pub field_young : (n : ℕ) (o : Sort) (ss : List Sort) (u t : Term) → IsYoung s n u → sort_of s.signature u ≡ Some o → record_fields s.signature o ≡ Some ss → Contains (field_terms o u (length ss)) t → IsYoung s n t
  field_young n o ss u t y e f c =
      let r = is_record s.signature o ss f in
      let those : field_terms o u (length ss) ≡ fields_from r.type r.sorts u 0 (length ss) = ap (λ l. field_terms_of l u (length ss)) r.out in
      all_contained (IsYoung s n) (fields_from r.type r.sorts u 0 (length ss)) t
      (all_fields (IsYoung s n) r.type r.sorts u 0 (length ss) (λ k a b. one_field n o ss u y e r k (omega (arith, b))))
      (subst (λ (zs : List Term). Contains zs t) those c)

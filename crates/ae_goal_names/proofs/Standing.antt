-- What is new in a store stands in the term that was entered.
use Rattle.std.specs.Prelude.{ℕ, ◌+◌, ◌<◌, List, [], ◌∷◌, ◌≡◌, map, length, slice_get, Some}
use Rattle.std.specs.List.{Contains}
use Rattle.std.proofs.Common.{refl, sym, ap, ◌∙◌, subst, arith, inl, inr}
use Rattle.std.proofs.lemmas.Option.{same_Some}
use Rattle.ae_base.proofs.ListFacts.{get_map}
use Rattle.ae_core.specs.declared.terms.Term.{Term, Apply}
use Rattle.ae_core.specs.declared.terms.Head.TheVariants as head
use Rattle.ae_core.specs.declared.problems.Signature.{Signature}
use Rattle.ae_rules.specs.Lines.{fields_from}
use Rattle.ae_journal.specs.Systems.{field_terms, field_terms_of}
use Rattle.ae_journal.proofs.Splits.{contains_here, contains_at}
use Rattle.ae_settled.proofs.Sorts.{is_record, head_is, args_is}
use Rattle.ae_store.specs.Fields.{field_count, field_head, sort_args}
use Rattle.ae_store.specs.Parts.{IsIn, IsPart, root, argument as part_argument, field as part_field}
use Rattle.ae_store.specs.Shapes.{shapes}
use Rattle.ae_store.specs.Stores.{IsStore}
use Rattle.ae_store.specs.Terms.{terms, named, term_of, applied, IsAlone}
use Rattle.ae_store.specs.declared.nodes.Node.{Node}
use Rattle.ae_store.specs.declared.nodes.Shape.{Shape}
use Rattle.ae_store.specs.declared.nodes.NodeHead.{NodeHead}
use Rattle.ae_store.specs.declared.nodes.NodeHead.TheVariants as node
use Rattle.ae_store.proofs.FieldLaws.{count_bool}
use Rattle.ae_store.proofs.PartLaws.{is_one, in_none}
use Rattle.ae_store.proofs.StoreLaws.{name_term}
use Rattle.ae_store.proofs.TermLaws.{term_at}
use Rattle.ae_goal_names.specs.Named.{StandsIn, itself, argument, field}
use Rattle.ae_goal_names.proofs.Records.{HasFieldSorts, has_field_sorts, in_fields}

module _ (sig : Signature) (nodes : List Node) (store : IsStore sig nodes) (u : Term) where
  abbrev ts : List Term
  ts = terms (shapes nodes)

  abbrev Stands : Term → Type 0
  Stands t = StandsIn sig (u ∷ []) t

  argument_stands : (m : ℕ) (x : Shape) → slice_get (shapes nodes) m ≡ Some x → (k : NodeHead) → x.head ≡ k → Stands (term_of ts x) → (b : ℕ) → IsIn b x.args → (t : Term) → slice_get ts b ≡ Some t → Stands t
  argument_stands m x at (node.Of h) q w b i t f =
      let is : term_of ts x ≡ Apply h x.sorts (map (named ts) x.args) = cc q in
      let there : Contains (map (named ts) x.args) (named ts b) = contains_at (map (named ts) x.args) i.place (named ts b) (get_map (named ts) x.args i.place b i.is) in
      argument h x.sorts (map (named ts) x.args) (subst Stands is w) (subst (Contains (map (named ts) x.args)) (name_term ts b t f) there)
  argument_stands m x at (node.Num a c) q w b i t f =
      let alone : IsAlone sig x (node.Num a c) = subst (IsAlone sig x) q (store.sound.places m x at).alone in absurd (in_none b (subst (IsIn b) alone.1 i))
  argument_stands m x at (node.Fresh n) q w b i t f =
      let alone : IsAlone sig x (node.Fresh n) = subst (IsAlone sig x) q (store.sound.places m x at).alone in absurd (in_none b (subst (IsIn b) alone.1 i))

  field_stands : (m : ℕ) (x : Shape) → slice_get (shapes nodes) m ≡ Some x → (k : ℕ) → k < field_count sig x.sort → Stands (term_of ts x) → (b : ℕ)
      → slice_get (shapes nodes) b ≡ Some (applied sig (field_head x.sort k) (sort_args x.sort) (m ∷ [])) → (t : Term) → slice_get ts b ≡ Some t → Stands t
  field_stands m x at k lt w b f t e =
      let here = term_at sig (shapes nodes) store.sound m x at in
      elim (store.sound.sorted.each m x (term_of ts x) at here) as (λ _. Stands t) [
        | inl so ↦
            let r : HasFieldSorts sig x.sort = has_field_sorts sig x.sort k lt in
            let c = is_record sig x.sort r.sorts r.are in
            let v = term_of ts x in
            let z : named ts m ≡ v = name_term ts m v here in
            let is : Apply (head.Field c.type k) c.sorts (v ∷ []) ≡ t =
            (λ i. Apply (sym (head_is sig x.sort r.sorts c k) i) (sym (args_is sig x.sort r.sorts c) i) (sym z i ∷ []))
            ∙ same_Some (Apply (field_head x.sort k) (sort_args x.sort) (named ts m ∷ [])) t (sym (term_at sig (shapes nodes) store.sound b (applied sig (field_head x.sort k) (sort_args x.sort) (m ∷ [])) f) ∙ e) in
            let those : field_terms x.sort v (length r.sorts) ≡ fields_from c.type c.sorts v 0 (length r.sorts) = ap (λ o. field_terms_of o v (length r.sorts)) c.out in
            let there : Contains (fields_from c.type c.sorts v 0 (length r.sorts)) (Apply (head.Field c.type k) c.sorts (v ∷ [])) =
            subst (λ (j : ℕ). Contains (fields_from c.type c.sorts v 0 (length r.sorts)) (Apply (head.Field c.type j) c.sorts (v ∷ []))) (let e : 0 + k ≡ k = omega arith in e)
            (in_fields c.type c.sorts v 0 (length r.sorts) k (omega (arith, lt, r.many))) in
            field x.sort r.sorts v w so r.are (subst (λ (zs : List Term). Contains zs t) (sym those) (subst (Contains (fields_from c.type c.sorts v 0 (length r.sorts))) is there))
        | inr other ↦ absurd (let n : field_count sig x.sort ≡ 0 = ap (field_count sig) other.1 ∙ count_bool sig in omega (arith, lt, n))
      ]

  pub part_stands : (n : ℕ) → slice_get ts n ≡ Some u → (m : ℕ) → IsPart sig (shapes nodes) (n ∷ []) m → (t : Term) → slice_get ts m ≡ Some t → Stands t
  part_stands n e _ (root m i) t a = itself (subst (Contains (u ∷ [])) (same_Some u t (sym e ∙ ap (slice_get ts) (sym (is_one m n i)) ∙ a)) (contains_here u []))
  part_stands n e _ (part_argument m x b p at i) t f =
      argument_stands m x at x.head refl (part_stands n e m p (term_of ts x) (term_at sig (shapes nodes) store.sound m x at)) b i t f
  part_stands n e _ (part_field m x k b p at lt f) t a =
      field_stands m x at k lt (part_stands n e m p (term_of ts x) (term_at sig (shapes nodes) store.sound m x at)) b f t a

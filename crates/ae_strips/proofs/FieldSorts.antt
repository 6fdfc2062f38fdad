-- The sorts of fields, of their records, and of what stands in written records.
use Rattle.std.specs.Prelude.{ℕ, ◌<◌, List, [], ◌∷◌, ◌≡◌, map, length, slice_get, Option, Some, None}
use Rattle.std.proofs.Common.{sym, ap, ◌∙◌, subst, arith, inl, inr}
use Rattle.std.proofs.lemmas.List.{length-map}
use Rattle.std.proofs.lemmas.Option.{same_Some, slice_get_within}
use Rattle.ae_base.proofs.ListFacts.{cons_head, value_at, get_map}
use Rattle.ae_base.proofs.Options.{known_each}
use Rattle.ae_base.proofs.Tests.{false_true}
use Rattle.ae_core.specs.Sorts.{sort_of, is_closed_sort, applied_ok}
use Rattle.ae_core.specs.declared.terms.Sort.{Sort, Named}
use Rattle.ae_core.specs.declared.terms.Term.{Term, Apply}
use Rattle.ae_core.specs.declared.terms.Term.TheVariants.{outs-Apply}
use Rattle.ae_core.specs.declared.terms.Head.TheVariants as head
use Rattle.ae_core.specs.declared.problems.Signature.{Signature}
use Rattle.ae_core.proofs.SortFacts.{same_known_is}
use Rattle.ae_journal.specs.Systems.{record_fields}
use Rattle.ae_evaluation.proofs.SortFacts.{is_applied, is_field, is_built}
use Rattle.ae_store.specs.declared.nodes.Node.{Node}
use Rattle.ae_store.specs.declared.nodes.NodeHead.TheVariants.{Of}
use Rattle.ae_store.specs.declared.nodes.Shape.{Shape}
use Rattle.ae_store.specs.Shapes.{shapes, shape_of}
use Rattle.ae_store.specs.Terms.{terms, named, node_sort, applied, IsOfSort}
use Rattle.ae_store.specs.Fields.{field_count, field_head, sort_args}
use Rattle.ae_store.specs.Stores.{IsStore}
use Rattle.ae_store.proofs.FieldLaws.{head_named, args_named}
use Rattle.ae_store.proofs.SortedLaws.{applied_of, node_sorted, term_enterable_at}
use Rattle.ae_settled.proofs.Sorts.{is_record, count_is, predicate_of, predicate_unsorted}
use Rattle.ae_just.specs.declared.steps.Step.{Step}
use Rattle.ae_just.specs.declared.steps.Side.TheVariants as side
use Rattle.ae_just.specs.Steps.{Fits}
use Rattle.ae_strips.specs.Applied.{IsAppliedTo}
use Rattle.ae_strips.specs.Stripping.{IsWrittenWith, IsSaidBy}
use Rattle.ae_strips.proofs.FieldTerms.{name_there}

-- the first of terms whose sorts are known
first_sort : (sig : Signature) (r : Term) (o : Sort) → map (sort_of sig) (r ∷ []) ≡ map Some (o ∷ []) → sort_of sig r ≡ Some o
first_sort sig r o e = cons_head (sort_of sig r) (Some o) [] [] e

module _ (sig : Signature) (nodes : List Node) (store : IsStore sig nodes) where
  abbrev ts : List Term
  ts = terms (shapes nodes)

  pub field_sorted : (n k place : ℕ) (ss : List Sort) (r : Term) → slice_get ts n ≡ Some (Apply (head.Field k place) ss (r ∷ []))
      → sort_of sig (Apply (head.Field k place) ss (r ∷ [])) ≡ Some (node_sort sig (head.Field k place) ss)
  field_sorted n k place ss r e = by_sort (applied_of sig (head.Field k place) ss (r ∷ []) (term_enterable_at sig nodes n (Apply (head.Field k place) ss (r ∷ [])) store.sound e))
    where
      by_sort : IsOfSort sig (Apply (head.Field k place) ss (r ∷ [])) (node_sort sig (head.Field k place) ss) → sort_of sig (Apply (head.Field k place) ss (r ∷ [])) ≡ Some (node_sort sig (head.Field k place) ss)
      by_sort (inl h) = h
      by_sort (inr h) = false_true (sym (ap (applied_ok sig (is_closed_sort sig) []) (outs-Apply (head.Field k place) ss (r ∷ []))) ∙ h.0)

  -- what a field says of its record's sort
  pub record IsOwned (k place : ℕ) (ss : List Sort) (r : Term) : Type 0 where
    pub sorted : sort_of sig r ≡ Some (Named k ss)
    pub sorts : List Sort
    pub fields : record_fields sig (Named k ss) ≡ Some sorts
    pub at : slice_get sorts place ≡ Some (node_sort sig (head.Field k place) ss)

  pub owned : (n k place : ℕ) (ss : List Sort) (r : Term) → slice_get ts n ≡ Some (Apply (head.Field k place) ss (r ∷ [])) → IsOwned k place ss r
  owned n k place ss r e =
      let a = is_applied sig (head.Field k place) ss (r ∷ []) (node_sort sig (head.Field k place) ss) (field_sorted n k place ss r e) in
      let f = is_field sig k place ss a.args (node_sort sig (head.Field k place) ss) a.headed in
      record {
        sorted = first_sort sig r (Named k ss) (known_each (sort_of sig) (r ∷ []) a.args a.known ∙ ap (map Some) f.args_are);
        sorts = f.sorts;
        fields = f.fields;
        at = f.at;
      }

  -- the sort of the node of a name is that of its term
  pub sort_of_node : (n : ℕ) (p : Node) (s : Sort) → slice_get nodes n ≡ Some p → sort_of sig (named ts n) ≡ Some s → p.sort ≡ s
  sort_of_node n p s at o = by_sort (node_sorted sig nodes n p (named ts n) store.sound at (name_there sig nodes store n (slice_get_within nodes n p at)))
    where
      by_sort : IsOfSort sig (named ts n) p.sort → p.sort ≡ s
      by_sort (inl h) = same_Some p.sort s (sym h ∙ o)
      by_sort (inr h) = absurd (predicate_unsorted sig (named ts n) s (predicate_of sig (named ts n) h.0) o)

  -- a name whose node is of a record's sort has a name for each field
  pub field_of_node : (b k place : ℕ) (ss : List Sort) (p : Node) → slice_get nodes b ≡ Some p → p.sort ≡ Named k ss → place < field_count sig (Named k ss) → (m : ℕ) × IsAppliedTo nodes m (head.Field k place) ss b
  field_of_node b k place ss p at s inside =
      let l : b < length nodes = slice_get_within nodes b p at in
      let fits : place < field_count sig p.sort = subst (λ c. place < c) (sym (ap (field_count sig) s)) inside in
      let n : length (shapes nodes) ≡ length nodes = length-map nodes shape_of in
      let f = (store.fields.each b (omega (arith, l, n))).fields (shape_of p) place (get_map shape_of nodes b p at) fits in
      let m : f.name < length (shapes nodes) = slice_get_within (shapes nodes) f.name (applied sig (field_head p.sort place) (sort_args p.sort) (b ∷ [])) f.at in
      let q = value_at nodes f.name (omega (arith, m, n)) in
      let z : shape_of q.0 ≡ applied sig (field_head p.sort place) (sort_args p.sort) (b ∷ []) =
      same_Some (shape_of q.0) (applied sig (field_head p.sort place) (sort_args p.sort) (b ∷ [])) (sym (get_map shape_of nodes f.name q.0 q.1) ∙ f.at) in
      let h : field_head p.sort place ≡ head.Field k place = ap (λ t. field_head t place) s ∙ head_named k ss place in
      let g : sort_args p.sort ≡ ss = ap sort_args s ∙ args_named k ss in (
        f.name,
        record {
          node = q.0;
          there = q.1;
          applies = record { head = ap (λ (x : Shape). x.head) z ∙ ap Of h; args = ap (λ (x : Shape). x.args) z; sorts = ap (λ (x : Shape). x.sorts) z ∙ g };
        },
      )

  -- so has a name of the sort of a field's record
  pub field_there : (b k place : ℕ) (ss : List Sort) (r : Term) → b < length nodes → IsOwned k place ss r → sort_of sig (named ts b) ≡ Some (Named k ss) → (m : ℕ) × IsAppliedTo nodes m (head.Field k place) ss b
  field_there b k place ss r l w o =
      let p = value_at nodes b l in
      let count : field_count sig (Named k ss) ≡ length w.sorts = count_is sig (Named k ss) w.sorts (is_record sig (Named k ss) w.sorts w.fields) in
      let inside : place < length w.sorts = slice_get_within w.sorts place (node_sort sig (head.Field k place) ss) w.at in
      field_of_node b k place ss p.0 p.1 (sort_of_node b p.0 (Named k ss) p.1 o) (omega (arith, inside, count))

  -- what stands in the place of a field has its sort
  pub argument_sorted : (b k place : ℕ) (ss : List Sort) (r : Term) (u : ℕ) → IsOwned k place ss r → slice_get ts b ≡ Some r → (w : IsWrittenWith ts b k place ss u) → sort_of sig w.argument ≡ Some (node_sort sig (head.Field k place) ss)
  argument_sorted b k place ss r u o e w =
      let s = node_sort sig (head.Field k place) ss in
      let same : r ≡ Apply (head.Build k) ss w.arguments = same_Some r (Apply (head.Build k) ss w.arguments) (sym e ∙ w.is) in
      let a = is_applied sig (head.Build k) ss w.arguments (Named k ss) (sym (ap (sort_of sig) same) ∙ o.sorted) in
      let f = is_built sig k ss a.args (Named k ss) a.headed in
      let sorts : o.sorts ≡ a.args = same_Some o.sorts a.args (sym o.fields ∙ f.fields) in
      let each : map (sort_of sig) w.arguments ≡ map Some a.args = known_each (sort_of sig) w.arguments a.args a.known in
      same_Some (sort_of sig w.argument) (Some s)
      (sym (get_map (sort_of sig) w.arguments place w.argument w.at) ∙ ap (λ (l : List (Option Sort)). slice_get l place) each
      ∙ get_map Some a.args place s (ap (λ (l : List Sort). slice_get l place) (sym sorts) ∙ o.at))

  -- names that a step equates are of one sort
  pub sort_said : (steps : List Step) → Fits sig ts steps → (n m : ℕ) (o : Option ℕ) → IsSaidBy steps n m o → sort_of sig (named ts m) ≡ sort_of sig (named ts n)
  sort_said steps fits n m None h = ap (λ k. sort_of sig (named ts k)) h
  sort_said steps fits n m (Some id) h =
      sym (same_known_is (sort_of sig (named ts n)) (sort_of sig (named ts m)) (fits.allowed.each id (record { left = side.Name n; right = side.Name m; rule = (h.equal).by }) (h.equal).there).sorted).1

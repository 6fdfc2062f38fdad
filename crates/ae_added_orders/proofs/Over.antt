-- What the clause of the order of two numbers brings: names of numbers alone.
use Rattle.std.specs.Prelude.{ℕ, ◌≤◌, ◌≡◌, ◌⊎◌, List, [], ◌∷◌, length, slice_get, Some, None}
use Rattle.std.specs.List.{Contains}
use Rattle.std.proofs.Common.{sym, ap, ◌∙◌, subst, arith, inl, inr}
use Rattle.std.proofs.lemmas.Option.{same_Some, slice_get-get_or, slice_get_within}
use Rattle.ae_added_orders.proofs.Concluding.{clause_is, order_of}
use Rattle.ae_added_orders.specs.Ordering.{IsNumber, IsOverNames}
use Rattle.ae_base.proofs.ListFacts.{value_at}
use Rattle.ae_core.specs.Sorts.{sort_of}
use Rattle.ae_core.specs.declared.formulas.Formula.{Eq, Lt}
use Rattle.ae_core.specs.declared.formulas.Lit.{Lit}
use Rattle.ae_core.specs.declared.problems.Signature.{Signature}
use Rattle.ae_core.specs.declared.terms.Sort.{Sort, Int, Real, out-Sort}
use Rattle.ae_core.specs.declared.terms.Sort.TheVariants.{outs-Int, outs-Real}
use Rattle.ae_core.specs.declared.terms.Term.{Term, Apply}
use Rattle.ae_goal_names.proofs.Joining.{as_many}
use Rattle.ae_goal_names.proofs.Outer.{outside_eq, outside_lt}
use Rattle.ae_goal_names.specs.Named.{HasNamed, StandsIn, argument, clause_terms, field, itself}
use Rattle.ae_journal.proofs.Splits.{all_contained, contains_at, contains_cases, contains_here, contains_one}
use Rattle.ae_journal.specs.States.{outside}
use Rattle.ae_journal.specs.Systems.{IsNamed, field_terms}
use Rattle.ae_kept_blocks.proofs.Members.{from_flat}
use Rattle.ae_rules.specs.Clauses.{Clause, is_true}
use Rattle.ae_rules.specs.Instances.{choices_of, trichotomy}
use Rattle.ae_settled.proofs.Sorts.{predicate_of, predicate_unsorted}
use Rattle.ae_settled.proofs.Terms.{field_names, subterms}
use Rattle.ae_settled.specs.Held.{Held, system_of}
use Rattle.ae_store.proofs.SortedLaws.{node_sorted}
use Rattle.ae_store.specs.Stores.{IsStore, Stored}
use Rattle.ae_store.specs.declared.nodes.Node.{Node}
use Rattle.ae_theory.specs.Names.{terms_in}

place_of : (ts : List Term) (t : Term) (h : Contains ts t) → slice_get ts h.0 ≡ Some t
place_of ts t h = slice_get-get_or ts h.0 t h.1 ∙ ap (λ (z : Term). Some z) h.2

-- ---- what stands in terms
-- what stands in terms stands in one of them
pub stands_in_one : (sig : Signature) (ts : List Term) (u : Term) → StandsIn sig ts u → (t : Term) × Contains ts t × StandsIn sig (t ∷ []) u
stands_in_one sig ts u (itself c) = (u, c, itself (contains_here u []))
stands_in_one sig ts u (argument h ss us a i) = let w = stands_in_one sig ts (Apply h ss us) a in (w.0, w.1, argument h ss us w.2 i)
stands_in_one sig ts u (field o ss v a e f i) = let w = stands_in_one sig ts v a in (w.0, w.1, field o ss v w.2 e f i)

module _ (s : Stored) (store : IsStore s.signature s.nodes) where
  abbrev held : Held
  held = record { signature = s.signature; nodes = s.nodes; values = []; rep = λ n. n; rules = λ n. None; next = 0 }

  there : (t : Term) → IsNamed (system_of held) t → Contains (terms_in s) t
  there t w = contains_at (terms_in s) w.0 t w.1

  -- what stands in names has a name
  names_closed : (ts : List Term) → ((t : Term) → Contains ts t → Contains (terms_in s) t) → (u : Term) → StandsIn s.signature ts u → Contains (terms_in s) u
  names_closed ts all u (itself c) = all u c
  names_closed ts all u (argument h ss us a i) =
      let k = names_closed ts all (Apply h ss us) a in
      there u (all_contained (IsNamed (system_of held)) us u (subterms held store k.0 h ss us (place_of (terms_in s) (Apply h ss us) k)) i)
  names_closed ts all u (field o ss v a e f i) =
      let k = names_closed ts all v a in
      there u (all_contained (IsNamed (system_of held)) (field_terms o v (length ss)) u (field_names held store k.0 v o ss (place_of (terms_in s) v k) e f) i)

  pub named_over : (t : Term) → Contains (terms_in s) t → IsOverNames s.signature s t
  named_over t h u k = inl (names_closed (t ∷ []) (λ w c. subst (Contains (terms_in s)) (contains_one t w c) h) u k)

-- ---- the terms of the clause
in_two : (a b v : Term) → Contains (a ∷ b ∷ []) v → (a ≡ v) ⊎ (b ≡ v)
in_two a b v h = elim (contains_cases a (b ∷ []) v h) as (λ _. (a ≡ v) ⊎ (b ≡ v)) [ inl e ↦ inl e | inr k ↦ inr (contains_one b v k) ]

turned : (u w v : Term) → (w ≡ v) ⊎ (u ≡ v) → (u ≡ v) ⊎ (w ≡ v)
turned u w v (inl e) = inr e
turned u w v (inr e) = inl e

order_term : (u w : Term) (m : Lit) → Contains (order_of u w) m → (v : Term) → Contains (outside m.formula) v → (u ≡ v) ⊎ (w ≡ v)
order_term u w m i v k = elim (contains_cases (is_true (Eq u w)) (is_true (Lt u w) ∷ is_true (Lt w u) ∷ []) m i) as (λ _. (u ≡ v) ⊎ (w ≡ v)) [
  | inl a ↦ in_two u w v (subst (λ (vs : List Term). Contains vs v) (outside_eq u w) (subst (λ (x : Lit). Contains (outside x.formula) v) (sym a) k))
  | inr h ↦ elim (contains_cases (is_true (Lt u w)) (is_true (Lt w u) ∷ []) m h) as (λ _. (u ≡ v) ⊎ (w ≡ v)) [
    | inl a ↦ in_two u w v (subst (λ (vs : List Term). Contains vs v) (outside_lt u w) (subst (λ (x : Lit). Contains (outside x.formula) v) (sym a) k))
    | inr j ↦ turned u w v (in_two w u v (subst (λ (vs : List Term). Contains vs v) (outside_lt w u)
        (subst (λ (x : Lit). Contains (outside x.formula) v) (sym (contains_one (is_true (Lt w u)) m j)) k)))
  ]
]

-- ---- numbers are of no enumeration
no_choices : (sig : Signature) (x : Sort) → (x ≡ Int) ⊎ (x ≡ Real) → choices_of sig (out-Sort x) ≡ None
no_choices sig x (inl e) = ap (λ (o : Sort). choices_of sig (out-Sort o)) e ∙ ap (choices_of sig) outs-Int
no_choices sig x (inr e) = ap (λ (o : Sort). choices_of sig (out-Sort o)) e ∙ ap (choices_of sig) outs-Real

module _ (sig : Signature) (old new : Stored) (c : Clause) (u w : Term) (e : trichotomy sig u w ≡ Some c) (same : sig ≡ old.signature) (over : IsOverNames sig old u × IsOverNames sig old w)
    (named : HasNamed old new (clause_terms c)) (store : IsStore new.signature new.nodes) (n : ℕ) (x : Node) (behind : length old.nodes ≤ n) (at : slice_get new.nodes n ≡ Some x) where
  its_term : (t : Term) × (slice_get (terms_in new) n ≡ Some t)
  its_term = value_at (terms_in new) n (let l = slice_get_within new.nodes n x at in omega (arith, l, as_many new))

  -- it has no name before
  unnamed : Contains (terms_in old) its_term.0 → ⊥
  unnamed k =
      let l = k.1 in
      let is = store.sound.one_name k.0 n its_term.0 (named.keeps k.0 its_term.0 (place_of (terms_in old) its_term.0 k)) its_term.1 in
      omega (arith, l, is, behind, as_many old)

  its_sort : (o : Sort) → sort_of sig its_term.0 ≡ Some o → x.sort ≡ o
  its_sort o f =
      let g : sort_of new.signature its_term.0 ≡ Some o = ap (λ (z : Signature). sort_of z its_term.0) (named.signature ∙ sym same) ∙ f in
      elim (node_sorted new.signature new.nodes n x its_term.0 store.sound at its_term.1) as (λ _. x.sort ≡ o) [
        | inl h ↦ same_Some x.sort o (sym h ∙ g)
        | inr h ↦ absurd (predicate_unsorted new.signature its_term.0 o (predicate_of new.signature its_term.0 h.0) g)
      ]

  of_number : IsNumber sig its_term.0 → choices_of sig (out-Sort x.sort) ≡ None
  of_number (inl f) = no_choices sig x.sort (inl (its_sort Int f))
  of_number (inr f) = no_choices sig x.sort (inr (its_sort Real f))

  over_term : (v : Term) → (u ≡ v) ⊎ (w ≡ v) → IsOverNames sig old v
  over_term v (inl q) = subst (IsOverNames sig old) q over.0
  over_term v (inr q) = subst (IsOverNames sig old) q over.1

  stands : StandsIn sig (clause_terms c) its_term.0 → IsNumber sig its_term.0
  stands k =
      let v = stands_in_one sig (clause_terms c) its_term.0 k in
      let l = from_flat (λ (m : Lit). outside m.formula) c v.0 v.1 in
      let o = over_term v.0 (order_term u w l.0 (subst (λ (d : Clause). Contains d l.0) (sym (clause_is sig u w c e)) l.1) v.0 l.2) in
      elim (o its_term.0 v.2) as (λ _. IsNumber sig its_term.0) [ inl h ↦ absurd (unnamed h) | inr h ↦ h ]

  pub new_numbers : choices_of sig (out-Sort x.sort) ≡ None
  new_numbers = elim (named.only its_term.0 (contains_at (terms_in new) n its_term.0 its_term.1)) as (λ _. choices_of sig (out-Sort x.sort) ≡ None) [
    | inl h ↦ absurd (unnamed h)
    | inr h ↦ of_number (stands (subst (λ (z : Signature). StandsIn z (clause_terms c) its_term.0) (sym same) h))
  ]

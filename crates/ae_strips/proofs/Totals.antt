-- Each name comes down to one, of its sort; names that come down to one have fields that do.
use Rattle.std.specs.Prelude.{ℕ, zero, suc, ◌<◌, ◌≤◌, ◌⊎◌, List, [], ◌∷◌, ◌≡◌, length, slice_get, Option, Some, None}
use Rattle.std.proofs.Common.{refl, sym, ap, ◌∙◌, arith, inl, inr}
use Rattle.std.proofs.lemmas.Option.{same_Some, none-some}
use Rattle.ae_base.proofs.ListFacts.{value_at}
use Rattle.ae_core.specs.Decided.{Head_discrete, Sorts_discrete}
use Rattle.ae_core.specs.Sorts.{sort_of}
use Rattle.ae_core.specs.declared.terms.Sort.{Sort, Named}
use Rattle.ae_core.specs.declared.terms.Term.{Term, Term-F, Apply, out-Term}
use Rattle.ae_core.specs.declared.terms.Term.TheOpen as layer
use Rattle.ae_core.specs.declared.terms.Term.TheVariants.{outs-Apply}
use Rattle.ae_core.specs.declared.terms.Head.{Head}
use Rattle.ae_core.specs.declared.terms.Head.TheVariants as head
use Rattle.ae_core.specs.declared.problems.Signature.{Signature}
use Rattle.ae_store.specs.declared.nodes.Node.{Node}
use Rattle.ae_store.specs.declared.nodes.NodeHead.{NodeHead}
use Rattle.ae_store.specs.declared.nodes.NodeHead.TheVariants as node
use Rattle.ae_store.specs.Shapes.{shapes}
use Rattle.ae_store.specs.Terms.{terms, named, node_sort}
use Rattle.ae_store.specs.Stores.{IsStore}
use Rattle.ae_store.proofs.StoreLaws.{name_term}
use Rattle.ae_strips.specs.Stripping.{IsFieldOf, IsNoField, IsWrittenWith, StripsTo, itself, of_written, of_other}
use Rattle.ae_strips.specs.Inner.FieldNodes.{IsFieldNode, HasArgument}
use Rattle.ae_strips.proofs.FieldTerms.{length_is, name_there, field_below, written_below, applied_is, field_is, no_field, written_is, not_written, within, no_later, build_no_field}
use Rattle.ae_strips.proofs.FieldSorts.{field_sorted, IsOwned, owned, argument_sorted, field_there}

head_eq : (h k : Head) → ◌≡◌ {A = NodeHead} (node.Of h) (node.Of k) → h ≡ k
head_eq h k e = cc e

same_field : (k k' place place' : ℕ) (ss ss' : List Sort) (r r' : Term) → Apply (head.Field k place) ss (r ∷ []) ≡ Apply (head.Field k' place') ss' (r' ∷ [])
    → ((k ≡ k') × (place ≡ place')) × ((ss ≡ ss') × (r ≡ r'))
same_field k k' place place' ss ss' r r' e =
    let z : ◌≡◌ {A = Term-F Term} (layer.Apply (head.Field k place) ss (r ∷ [])) (layer.Apply (head.Field k' place') ss' (r' ∷ [])) =
    sym (outs-Apply (head.Field k place) ss (r ∷ [])) ∙ ap out-Term e ∙ outs-Apply (head.Field k' place') ss' (r' ∷ []) in
    let a : k ≡ k' = cc z in
    let b : place ≡ place' = cc z in
    let c : ss ≡ ss' = cc z in
    let d : r ≡ r' = cc z in
    ((a, b), (c, d))

same_record : (k : ℕ) (ss : List Sort) (us us' : List Term) → Apply (head.Build k) ss us ≡ Apply (head.Build k) ss us' → us ≡ us'
same_record k ss us us' e =
    let z : ◌≡◌ {A = Term-F Term} (layer.Apply (head.Build k) ss us) (layer.Apply (head.Build k) ss us') = sym (outs-Apply (head.Build k) ss us) ∙ ap out-Term e ∙ outs-Apply (head.Build k) ss us' in
    cc z

module _ (sig : Signature) (nodes : List Node) (store : IsStore sig nodes) where
  abbrev ts : List Term
  ts = terms (shapes nodes)

  -- ---- what a name comes down to is of its sort
  pub sort_kept : (n m : ℕ) → StripsTo ts n m → sort_of sig (named ts n) ≡ sort_of sig (named ts m)
  sort_kept _ _ (itself n t e f) = refl
  sort_kept _ _ (of_written n a b u m k place ss f s w r) =
      let o = owned sig nodes store n k place ss f.owner f.is in
      let at : sort_of sig (named ts n) ≡ Some (node_sort sig (head.Field k place) ss) =
      ap (sort_of sig) (name_term ts n (Apply (head.Field k place) ss (f.owner ∷ [])) f.is) ∙ field_sorted sig nodes store n k place ss f.owner f.is in
      let up : sort_of sig (named ts a) ≡ sort_of sig (named ts b) = sort_kept a b s in
      let record_sort : sort_of sig (Apply (head.Build k) ss w.arguments) ≡ Some (Named k ss) =
      ap (sort_of sig) (sym (name_term ts b (Apply (head.Build k) ss w.arguments) w.is)) ∙ sym up ∙ ap (sort_of sig) (name_term ts a f.owner f.owner_is) ∙ o.sorted in
      let moved : IsOwned sig nodes store k place ss (Apply (head.Build k) ss w.arguments) = record { sorted = record_sort; sorts = o.sorts; fields = o.fields; at = o.at } in
      let inner : sort_of sig (named ts u) ≡ Some (node_sort sig (head.Field k place) ss) =
      ap (sort_of sig) (name_term ts u w.argument w.argument_is) ∙ argument_sorted sig nodes store b k place ss (Apply (head.Build k) ss w.arguments) u moved w.is w in
      at ∙ sym inner ∙ sort_kept u m r
  sort_kept _ _ (of_other n a b m k place ss f s w r) =
      ap (sort_of sig) (name_term ts n (Apply (head.Field k place) ss (f.owner ∷ [])) f.is) ∙ field_sorted sig nodes store n k place ss f.owner f.is
      ∙ sym (ap (sort_of sig) (name_term ts m (Apply (head.Field k place) ss (r.owner ∷ [])) r.is) ∙ field_sorted sig nodes store m k place ss r.owner r.is)

  -- ---- whether a name is a written record with an argument in this place
  written_by : (b k place : ℕ) (ss : List Sort) (p : Node) → slice_get nodes b ≡ Some p → Dec (p.head ≡ node.Of (head.Build k)) → Dec (p.sorts ≡ ss) → (o : Option ℕ) → slice_get p.args place ≡ o
      → ((u : ℕ) × HasArgument nodes b k place ss u) ⊎ ((u : ℕ) → HasArgument nodes b k place ss u → ⊥)
  written_by b k place ss p at (no h) d o e = inr (λ u i. h (ap (λ (q : Node). q.head) (same_Some p i.node (sym at ∙ i.there)) ∙ i.written.head))
  written_by b k place ss p at (yes h) (no d) o e = inr (λ u i. d (ap (λ (q : Node). q.sorts) (same_Some p i.node (sym at ∙ i.there)) ∙ i.written.sorts))
  written_by b k place ss p at (yes h) (yes d) None e = inr (λ u i. none-some u (sym e ∙ ap (λ (q : Node). slice_get q.args place) (same_Some p i.node (sym at ∙ i.there)) ∙ i.at))
  written_by b k place ss p at (yes h) (yes d) (Some u) e = inl (u, record { node = p; there = at; written = record { head = h; sorts = d }; at = e })

  head_is : (h : NodeHead) (k : Head) → Dec (h ≡ node.Of k)
  head_is (node.Of h) k = elim (Head_discrete h k) [ yes e ↦ yes (ap node.Of e) | no n ↦ no (λ z. n (head_eq h k z)) ]
  head_is (node.Num a b) k = no (λ z. cc z)
  head_is (node.Fresh n) k = no (λ z. cc z)

  pub written_decided : (b k place : ℕ) (ss : List Sort) → b < length nodes → ((u : ℕ) × IsWrittenWith ts b k place ss u) ⊎ ((u : ℕ) → IsWrittenWith ts b k place ss u → ⊥)
  written_decided b k place ss l =
      let p = value_at nodes b l in
      elim (written_by b k place ss p.0 p.1 (head_is (p.0).head (head.Build k)) (Sorts_discrete (p.0).sorts ss) (slice_get (p.0).args place) refl) [
        | inl w ↦ inl (w.0, written_is sig nodes store b k place ss w.0 w.1)
        | inr none ↦ inr (not_written sig nodes store b k place ss none)
      ]

  -- ---- whether a name is a field
  pub record IsFieldSomewhere (n : ℕ) : Type 0 where
    pub type : ℕ
    pub place : ℕ
    pub sorts : List Sort
    pub owner : ℕ
    pub is : IsFieldOf ts n type place sorts owner

  field_by_args : (n k place : ℕ) (p : Node) → slice_get nodes n ≡ Some p → p.head ≡ node.Of (head.Field k place) → (xs : List ℕ) → p.args ≡ xs
      → IsFieldSomewhere n ⊎ ((k place a : ℕ) → IsFieldNode nodes n (record { of = k; place = place; owner = a }) → ⊥)
  field_by_args n k place p at h [] e = inr (λ k' place' a i. let z : ◌≡◌ {A = List ℕ} [] (a ∷ []) = sym e ∙ ap (λ (q : Node). q.args) (same_Some p i.node (sym at ∙ i.there)) ∙ i.args in cc z)
  field_by_args n k place p at h (x ∷ []) e = inl (record { type = k; place = place; sorts = p.sorts; owner = x; is = field_is sig nodes store n (record { of = k; place = place; owner = x }) (record { node = p; there = at; head = h; args = e }) })
  field_by_args n k place p at h (x ∷ y ∷ xs) e = inr (λ k' place' a i. let z : ◌≡◌ {A = List ℕ} (x ∷ y ∷ xs) (a ∷ []) = sym e ∙ ap (λ (q : Node). q.args) (same_Some p i.node (sym at ∙ i.there)) ∙ i.args in cc z)

  not_this : (n : ℕ) (p : Node) (h : NodeHead) → slice_get nodes n ≡ Some p → p.head ≡ h → ((k place : ℕ) → h ≡ node.Of (head.Field k place) → ⊥)
      → (k place a : ℕ) → IsFieldNode nodes n (record { of = k; place = place; owner = a }) → ⊥
  not_this n p h at e none k place a i = none k place (sym e ∙ ap (λ (q : Node). q.head) (same_Some p i.node (sym at ∙ i.there)) ∙ i.head)

  field_by_head : (n : ℕ) (p : Node) (h : NodeHead) → slice_get nodes n ≡ Some p → p.head ≡ h → IsFieldSomewhere n ⊎ ((k place a : ℕ) → IsFieldNode nodes n (record { of = k; place = place; owner = a }) → ⊥)
  field_by_head n p (node.Of (head.Field k place)) at e = field_by_args n k place p at e p.args refl
  field_by_head n p (node.Of (head.Symbol j)) at e = inr (not_this n p (node.Of (head.Symbol j)) at e (λ k place z. cc z))
  field_by_head n p (node.Of (head.Build j)) at e = inr (not_this n p (node.Of (head.Build j)) at e (λ k place z. cc z))
  field_by_head n p (node.Of (head.Int o)) at e = inr (not_this n p (node.Of (head.Int o)) at e (λ k place z. cc z))
  field_by_head n p (node.Of (head.Real o)) at e = inr (not_this n p (node.Of (head.Real o)) at e (λ k place z. cc z))
  field_by_head n p (node.Of head.True) at e = inr (not_this n p (node.Of head.True) at e (λ k place z. cc z))
  field_by_head n p (node.Of head.False) at e = inr (not_this n p (node.Of head.False) at e (λ k place z. cc z))
  field_by_head n p (node.Of head.Void) at e = inr (not_this n p (node.Of head.Void) at e (λ k place z. cc z))
  field_by_head n p (node.Num a b) at e = inr (not_this n p (node.Num a b) at e (λ k place z. cc z))
  field_by_head n p (node.Fresh j) at e = inr (not_this n p (node.Fresh j) at e (λ k place z. cc z))

  pub field_decided : (n : ℕ) → n < length nodes → IsFieldSomewhere n ⊎ IsNoField (named ts n)
  field_decided n l =
      let p = value_at nodes n l in
      elim (field_by_head n p.0 (p.0).head p.1 refl) [
        | inl f ↦ inl f
        | inr none ↦ inr (no_field sig nodes store n (named ts n) (name_there sig nodes store n l) none)
      ]

  -- ---- each name comes down to one
  -- a name comes down to what its record does
  pub record ComesTo (n : ℕ) : Type 0 where
    pub name : ℕ
    pub strips : StripsTo ts n name

  pub record_of_sort : (n k place : ℕ) (ss : List Sort) (a b : ℕ) → IsFieldOf ts n k place ss a → StripsTo ts a b → (m : ℕ) × IsFieldOf ts m k place ss b
  record_of_sort n k place ss a b f s =
      let o = owned sig nodes store n k place ss f.owner f.is in
      let sorted : sort_of sig (named ts b) ≡ Some (Named k ss) = sym (sort_kept a b s) ∙ ap (sort_of sig) (name_term ts a f.owner f.owner_is) ∙ o.sorted in
      let l : b < length ts = within sig nodes store a b s in
      let e : length ts ≡ length nodes = length_is sig nodes store in
      let m = field_there sig nodes store b k place ss f.owner (omega (arith, l, e)) o sorted in
      (m.0, applied_is sig nodes store m.0 k place ss b m.1)

  -- where the names below it come down to one
  comes_by : (n : ℕ) → n < length nodes → ((k : ℕ) → k < n → ComesTo k) → IsFieldSomewhere n ⊎ IsNoField (named ts n) → ComesTo n
  comes_by n w again (inr none) = record { name = n; strips = itself n (named ts n) (name_there sig nodes store n w) none }
  comes_by n w again (inl f) = by_written (written_decided up.name f.type f.place f.sorts (omega (arith, inside, e)))
    where
      below : f.owner < n
      below = field_below sig nodes store n f.type f.place f.sorts f.owner f.is

      up : ComesTo f.owner
      up = again f.owner below

      inside : up.name < length ts
      inside = within sig nodes store f.owner up.name up.strips

      e : length ts ≡ length nodes
      e = length_is sig nodes store

      by_written : ((u : ℕ) × IsWrittenWith ts up.name f.type f.place f.sorts u) ⊎ ((u : ℕ) → IsWrittenWith ts up.name f.type f.place f.sorts u → ⊥) → ComesTo n
      by_written (inr none) =
          let m = record_of_sort n f.type f.place f.sorts f.owner up.name f.is up.strips in
          record { name = m.0; strips = of_other n f.owner up.name m.0 f.type f.place f.sorts f.is up.strips none m.1 }
      by_written (inl u) =
          let first : u.0 < up.name = written_below sig nodes store up.name f.type f.place f.sorts u.0 u.1 in
          let second : up.name ≤ f.owner =
          no_later sig nodes store f.owner up.name up.strips (Apply (head.Build f.type) f.sorts (u.1).arguments) (u.1).is (build_no_field f.type f.sorts (u.1).arguments) in
          let outer : f.owner < n = below in
          let inner = again u.0 (omega (arith, first, second, outer)) in
          record { name = inner.name; strips = of_written n f.owner up.name u.0 inner.name f.type f.place f.sorts f.is up.strips u.1 inner.strips }

  comes_below : (bound n : ℕ) → n < bound → n < length nodes → ComesTo n
  comes_below zero n l w = absurd (omega (arith, l))
  comes_below (suc bound) n l w = comes_by n w (λ k h. comes_below bound k (omega (arith, h, l)) (omega (arith, h, w))) (field_decided n w)

  pub comes : (n : ℕ) → n < length nodes → ComesTo n
  comes n l = comes_below (suc n) n (omega arith) l

  -- the same field of two names that come down to one comes down to one
  pub record ComeTogether (n u : ℕ) : Type 0 where
    pub name : ℕ
    pub first : StripsTo ts n name
    pub second : StripsTo ts u name

  pub fields_together : (p q k place : ℕ) (ss : List Sort) (n u m : ℕ) → IsFieldOf ts p k place ss n → IsFieldOf ts q k place ss u → StripsTo ts n m → StripsTo ts u m → ComeTogether p q
  fields_together p q k place ss n u m f g s r = by_written (written_decided m k place ss (omega (arith, l, e)))
    where
      l : m < length ts
      l = within sig nodes store n m s

      e : length ts ≡ length nodes
      e = length_is sig nodes store

      by_written : ((v : ℕ) × IsWrittenWith ts m k place ss v) ⊎ ((v : ℕ) → IsWrittenWith ts m k place ss v → ⊥) → ComeTogether p q
      by_written (inl v) =
          let w : v.0 < m = written_below sig nodes store m k place ss v.0 v.1 in
          let end = comes v.0 (omega (arith, w, l, e)) in
          record { name = end.name; first = of_written p n m v.0 end.name k place ss f s v.1 end.strips; second = of_written q u m v.0 end.name k place ss g r v.1 end.strips }
      by_written (inr none) =
          let w = record_of_sort p k place ss n m f s in
          record { name = w.0; first = of_other p n m w.0 k place ss f s none w.1; second = of_other q u m w.0 k place ss g r none w.1 }

  -- what a name comes down to comes down to itself
  pub ends : (n m : ℕ) → StripsTo ts n m → StripsTo ts m m
  ends _ _ (itself n t e f) = itself n t e f
  ends _ _ (of_written n a b u m k place ss f s w r) = ends u m r
  ends _ _ (of_other n a b m k place ss f s w r) = of_other m b b m k place ss r (ends a b s) w r

  -- ---- and to no other
  one_below : (n m : ℕ) → StripsTo ts n m → (n' m' : ℕ) → StripsTo ts n' m' → n ≡ n' → m ≡ m'
  one_below _ _ (itself n t e f) _ _ (itself n' t' e' f') s = s
  one_below _ _ (itself n t e f) _ _ (of_written n' a' b' u' m' k' place' ss' g s' w' r') s =
      absurd (f k' place' ss' g.owner (same_Some t (Apply (head.Field k' place') ss' (g.owner ∷ [])) (sym e ∙ ap (slice_get ts) s ∙ g.is)))
  one_below _ _ (itself n t e f) _ _ (of_other n' a' b' m' k' place' ss' g s' w' r') s =
      absurd (f k' place' ss' g.owner (same_Some t (Apply (head.Field k' place') ss' (g.owner ∷ [])) (sym e ∙ ap (slice_get ts) s ∙ g.is)))
  one_below _ _ (of_written n a b u m k place ss f st w r) _ _ (itself n' t' e' f') s =
      absurd (f' k place ss f.owner (same_Some t' (Apply (head.Field k place) ss (f.owner ∷ [])) (sym e' ∙ ap (slice_get ts) (sym s) ∙ f.is)))
  one_below _ _ (of_other n a b m k place ss f st w r) _ _ (itself n' t' e' f') s =
      absurd (f' k place ss f.owner (same_Some t' (Apply (head.Field k place) ss (f.owner ∷ [])) (sym e' ∙ ap (slice_get ts) (sym s) ∙ f.is)))
  one_below _ _ (of_written n a b u m k place ss f st w r) _ _ (of_written n' a' b' u' m' k' place' ss' g st' w' r') s =
      let d = same_field k k' place place' ss ss' f.owner g.owner (same_Some (Apply (head.Field k place) ss (f.owner ∷ [])) (Apply (head.Field k' place') ss' (g.owner ∷ [])) (sym f.is ∙ ap (slice_get ts) s ∙ g.is)) in
      let ea : a ≡ a' = store.sound.one_name a a' f.owner f.owner_is (g.owner_is ∙ ap Some (sym (d.1).1)) in
      let eb : b ≡ b' = one_below a b st a' b' st' ea in
      let terms_are : Apply (head.Build k) ss w.arguments ≡ Apply (head.Build k) ss w'.arguments =
      same_Some (Apply (head.Build k) ss w.arguments) (Apply (head.Build k) ss w'.arguments) (sym w.is ∙ ap (slice_get ts) eb ∙ w'.is ∙ (λ i. Some (Apply (head.Build (sym (d.0).0 i)) (sym (d.1).0 i) w'.arguments))) in
      let args : w.arguments ≡ w'.arguments = same_record k ss w.arguments w'.arguments terms_are in
      let arg : w.argument ≡ w'.argument = same_Some w.argument w'.argument (sym w.at ∙ (λ i. slice_get (args i) ((d.0).1 i)) ∙ w'.at) in
      let eu : u ≡ u' = store.sound.one_name u u' w.argument w.argument_is (w'.argument_is ∙ ap Some (sym arg)) in
      one_below u m r u' m' r' eu
  one_below _ _ (of_written n a b u m k place ss f st w r) _ _ (of_other n' a' b' m' k' place' ss' g st' w' r') s =
      let d = same_field k k' place place' ss ss' f.owner g.owner (same_Some (Apply (head.Field k place) ss (f.owner ∷ [])) (Apply (head.Field k' place') ss' (g.owner ∷ [])) (sym f.is ∙ ap (slice_get ts) s ∙ g.is)) in
      let ea : a ≡ a' = store.sound.one_name a a' f.owner f.owner_is (g.owner_is ∙ ap Some (sym (d.1).1)) in
      let eb : b ≡ b' = one_below a b st a' b' st' ea in
      absurd (w' u (record {
        arguments = w.arguments;
        is = ap (slice_get ts) (sym eb) ∙ w.is ∙ (λ i. Some (Apply (head.Build ((d.0).0 i)) ((d.1).0 i) w.arguments));
        argument = w.argument;
        at = ap (slice_get w.arguments) (sym (d.0).1) ∙ w.at;
        argument_is = w.argument_is;
      }))
  one_below _ _ (of_other n a b m k place ss f st w r) _ _ (of_written n' a' b' u' m' k' place' ss' g st' w' r') s =
      let d = same_field k k' place place' ss ss' f.owner g.owner (same_Some (Apply (head.Field k place) ss (f.owner ∷ [])) (Apply (head.Field k' place') ss' (g.owner ∷ [])) (sym f.is ∙ ap (slice_get ts) s ∙ g.is)) in
      let ea : a ≡ a' = store.sound.one_name a a' f.owner f.owner_is (g.owner_is ∙ ap Some (sym (d.1).1)) in
      let eb : b ≡ b' = one_below a b st a' b' st' ea in
      absurd (w u' (record {
        arguments = w'.arguments;
        is = ap (slice_get ts) eb ∙ w'.is ∙ (λ i. Some (Apply (head.Build (sym (d.0).0 i)) (sym (d.1).0 i) w'.arguments));
        argument = w'.argument;
        at = ap (slice_get w'.arguments) (d.0).1 ∙ w'.at;
        argument_is = w'.argument_is;
      }))
  one_below _ _ (of_other n a b m k place ss f st w r) _ _ (of_other n' a' b' m' k' place' ss' g st' w' r') s =
      let d = same_field k k' place place' ss ss' f.owner g.owner (same_Some (Apply (head.Field k place) ss (f.owner ∷ [])) (Apply (head.Field k' place') ss' (g.owner ∷ [])) (sym f.is ∙ ap (slice_get ts) s ∙ g.is)) in
      let ea : a ≡ a' = store.sound.one_name a a' f.owner f.owner_is (g.owner_is ∙ ap Some (sym (d.1).1)) in
      let eb : b ≡ b' = one_below a b st a' b' st' ea in
      let er : r.owner ≡ r'.owner = same_Some r.owner r'.owner (sym r.owner_is ∙ ap (slice_get ts) eb ∙ r'.owner_is) in
      store.sound.one_name m m' (Apply (head.Field k place) ss (r.owner ∷ [])) r.is (r'.is ∙ (λ i. Some (Apply (head.Field (sym (d.0).0 i) (sym (d.0).1 i)) (sym (d.1).0 i) (sym er i ∷ []))))

  pub one : (n m m' : ℕ) → StripsTo ts n m → StripsTo ts n m' → m ≡ m'
  one n m m' s r = one_below n m s n m' r refl

-- What matching sees of a store is sound.
use Rattle.std.specs.Prelude.{ℕ, ℤ, ◌<◌, ◌≡◌, Bool, List, [], ◌∷◌, map, length, slice_get, Option, Some, None}
use Rattle.std.specs.List.{AllByRecursion}
use Rattle.std.specs.Option.{option_map}
use Rattle.std.proofs.Common.{refl, sym, ap, ◌∙◌, subst, arith}
use Rattle.std.proofs.lemmas.List.{length-map}
use Rattle.std.proofs.lemmas.Option.{slice_get-map, slice_get_within, none-some, same_Some}
use Rattle.ae_base.proofs.Options.{mapped_some}
use Rattle.ae_base.proofs.ListFacts.{get_map, value_at}
use Rattle.ae_core.specs.declared.terms.Sort.{Sort}
use Rattle.ae_core.specs.declared.terms.Head.{Head}
use Rattle.ae_core.specs.declared.terms.Term.{Term, Bound, Num, Fresh, Apply, out-Term}
use Rattle.ae_core.specs.declared.terms.Term.TheOpen as layer
use Rattle.ae_core.specs.declared.terms.Term.TheVariants.{outs-Apply, outs-Num, outs-Fresh, outs-Bound}
use Rattle.ae_core.specs.declared.problems.Signature.{Signature}
use Rattle.ae_rules.specs.Matches.{is_arithmetic}
use Rattle.ae_store.specs.declared.nodes.Node.{Node}
use Rattle.ae_store.specs.declared.nodes.Shape.{Shape}
use Rattle.ae_store.specs.declared.nodes.NodeHead.{NodeHead}
use Rattle.ae_store.specs.declared.nodes.NodeHead.TheVariants as node
use Rattle.ae_store.specs.Shapes.{shapes, shape_of}
use Rattle.ae_store.specs.Stores.{IsStore}
use Rattle.ae_store.specs.Terms.{terms, term_of, named, IsPlaced}
use Rattle.ae_store.proofs.StoreLaws.{applied_term_at, name_term}
use Rattle.ae_store.proofs.TermLaws.{length_terms, term_at as its_term}
use Rattle.ae_matching.specs.Views as views
use Rattle.ae_matching.specs.Laws.{IsSoundStore, HasNode}
use Rattle.ae_match.specs.Seen.{applied, seen_node, seen}

head_is : (k : NodeHead) (h : Head) → applied k ≡ Some h → k ≡ node.Of h
head_is (node.Of k) h e = ap node.Of (same_Some k h e)
head_is (node.Num a b) h e = absurd (none-some h e)
head_is (node.Fresh n) h e = absurd (none-some h e)

-- ---- terms of different kinds differ
no_bound_apply : (h : Head) (ss : List Sort) (us : List Term) (i : ℕ) → Apply h ss us ≡ Bound i → ⊥
no_bound_apply h ss us i e = let f : layer.Apply h ss us ≡ layer.Bound i = sym (outs-Apply h ss us) ∙ ap out-Term e ∙ outs-Bound i in cc f

no_bound_num : (a b : ℤ) (r : Bool) (i : ℕ) → Num a b r ≡ Bound i → ⊥
no_bound_num a b r i e = let f : layer.Num a b r ≡ layer.Bound i = sym (outs-Num a b r) ∙ ap out-Term e ∙ outs-Bound i in cc f

no_bound_fresh : (k : ℕ) (s : Sort) (i : ℕ) → Fresh k s ≡ Bound i → ⊥
no_bound_fresh k s i e = let f : layer.Fresh k s ≡ layer.Bound i = sym (outs-Fresh k s) ∙ ap out-Term e ∙ outs-Bound i in cc f

no_apply_num : (a b : ℤ) (r : Bool) (h : Head) (ss : List Sort) (us : List Term) → Num a b r ≡ Apply h ss us → ⊥
no_apply_num a b r h ss us e = let f : layer.Num a b r ≡ layer.Apply h ss us = sym (outs-Num a b r) ∙ ap out-Term e ∙ outs-Apply h ss us in cc f

no_apply_fresh : (k : ℕ) (s : Sort) (h : Head) (ss : List Sort) (us : List Term) → Fresh k s ≡ Apply h ss us → ⊥
no_apply_fresh k s h ss us e = let f : layer.Fresh k s ≡ layer.Apply h ss us = sym (outs-Fresh k s) ∙ ap out-Term e ∙ outs-Apply h ss us in cc f

same_layers : (k h : Head) (os ss : List Sort) (vs us : List Term) → Apply k os vs ≡ Apply h ss us → layer.Apply k os vs ≡ layer.Apply h ss us
same_layers k h os ss vs us e = sym (outs-Apply k os vs) ∙ ap out-Term e ∙ outs-Apply h ss us

pub same_heads : (k h : Head) (os ss : List Sort) (vs us : List Term) → Apply k os vs ≡ Apply h ss us → (k ≡ h) × (os ≡ ss) × (vs ≡ us)
same_heads k h os ss vs us e = let f : layer.Apply k os vs ≡ layer.Apply h ss us = same_layers k h os ss vs us e in (cc, cc, cc)

no_bound : (ts : List Term) (x : Shape) (i : ℕ) → term_of ts x ≡ Bound i → ⊥
no_bound ts x i e = go x.head refl
  where
    go : (k : NodeHead) → x.head ≡ k → ⊥
    go (node.Of h) s = no_bound_apply h x.sorts (map (named ts) x.args) i (sym (ap (λ (k : NodeHead). term_of ts (record x { head = k })) s) ∙ e)
    go (node.Num a b) s = no_bound_num a b _ i (sym (ap (λ (k : NodeHead). term_of ts (record x { head = k })) s) ∙ e)
    go (node.Fresh n) s = no_bound_fresh n x.sort i (sym (ap (λ (k : NodeHead). term_of ts (record x { head = k })) s) ∙ e)

module _ (sig : Signature) (ns : List Node) (s : IsStore sig ns) where
  abbrev ts : List Term
  ts = terms (shapes ns)

  placed : IsPlaced (shapes ns)
  placed = record { args = λ i x e. (s.sound.places i x e).args }

  count : length ts ≡ length ns
  count = length_terms (shapes ns) ∙ length-map ns shape_of

  -- the term of a node
  term_at : (n : ℕ) (x : Node) → slice_get ns n ≡ Some x → slice_get ts n ≡ Some (term_of ts (shape_of x))
  term_at n x e = its_term sig (shapes ns) s.sound n (shape_of x) (get_map shape_of ns n x e)

  by_node : (P : views.Node → Type 0) (n : ℕ) (v : views.Node) → slice_get (map (seen_node ts) ns) n ≡ Some v → ((x : Node) → slice_get ns n ≡ Some x → P (seen_node ts x)) → P v
  by_node P n v e f = let m = mapped_some (seen_node ts) (slice_get ns n) v (sym (slice_get-map (seen_node ts) ns n) ∙ e) in subst P m.2 (f m.0 m.1)

  known_args : (n : ℕ) → n < length ts → (names : List ℕ) → AllByRecursion (λ a. a < n) names → map (slice_get ts) names ≡ map Some (map (named ts) names)
  known_args n h [] b = refl
  known_args n h (a ∷ names) b =
      let g = value_at ts a (omega (arith, h, b.0)) in
      let first : slice_get ts a ≡ Some (named ts a) = g.1 ∙ ap Some (sym (name_term ts a g.0 g.1)) in
      λ i. first i ∷ known_args n h names b.1 i

  args_of : (n : ℕ) (x : Node) → slice_get ns n ≡ Some x → map (slice_get ts) x.args ≡ map Some (map (named ts) x.args)
  args_of n x e = known_args n (omega (arith, slice_get_within ns n x e, count)) x.args (placed.args n (shape_of x) (get_map shape_of ns n x e))

  node_at : (n : ℕ) (t : Term) → slice_get ts n ≡ Some t → (x : Node) × (slice_get ns n ≡ Some x) × (term_of ts (shape_of x) ≡ t)
  node_at n t e =
      let g = value_at ns n (omega (arith, slice_get_within ts n t e, count)) in
      (g.0, g.1, same_Some (term_of ts (shape_of g.0)) t (sym (term_at n g.0 g.1) ∙ e))

  has_node : (n : ℕ) (h : Head) (ss : List Sort) (us : List Term) → slice_get ts n ≡ Some (Apply h ss us) → HasNode (seen sig ns) n h ss us
  has_node n h ss us e = go (node_at n (Apply h ss us) e)
    where
      by_head : (x : Node) → slice_get ns n ≡ Some x → term_of ts (shape_of x) ≡ Apply h ss us → (k : NodeHead) → x.head ≡ k → HasNode (seen sig ns) n h ss us
      by_head x at t (node.Of k) i =
          let same = same_heads k h x.sorts ss (map (named ts) x.args) us (sym (ap (λ (k : NodeHead). term_of ts (record (shape_of x) { head = k })) i) ∙ t) in
          record {
            node = seen_node ts x;
            at = get_map (seen_node ts) ns n x at;
            head = ap applied i ∙ ap Some same.0;
            sorts = same.1;
            args = args_of n x at ∙ ap (map Some) same.2;
          }
      by_head x at t (node.Num a b) i = absurd (no_apply_num a b _ h ss us (sym (ap (λ (k : NodeHead). term_of ts (record (shape_of x) { head = k })) i) ∙ t))
      by_head x at t (node.Fresh k) i = absurd (no_apply_fresh k x.sort h ss us (sym (ap (λ (k : NodeHead). term_of ts (record (shape_of x) { head = k })) i) ∙ t))

      go : (x : Node) × (slice_get ns n ≡ Some x) × (term_of ts (shape_of x) ≡ Apply h ss us) → HasNode (seen sig ns) n h ss us
      go r = by_head r.0 r.1 r.2 (r.0).head refl

  no_node : (n : ℕ) → slice_get ts n ≡ None → slice_get (map (seen_node ts) ns) n ≡ None
  no_node n e = go (slice_get ns n) refl
    where
      go : (o : Option Node) → slice_get ns n ≡ o → slice_get (map (seen_node ts) ns) n ≡ None
      go None i = slice_get-map (seen_node ts) ns n ∙ ap (option_map (seen_node ts)) i
      go (Some x) i = absurd (none-some (term_of ts (shape_of x)) (sym e ∙ term_at n x i))

  pub seen_sound : IsSoundStore (seen sig ns)
  seen_sound = record {
    nodes = has_node;
    terms = λ n v h at. by_node (λ v. v.head ≡ Some h → slice_get ts n ≡ Some (Apply h v.sorts (map (named ts) v.args))) n v at
        (λ x e i. applied_term_at ns placed n x e h x.sorts (map (named ts) x.args) (head_is x.head h i) refl refl);
    arithmetic = λ n v t at te. by_node (λ v. v.arithmetic ≡ is_arithmetic t) n v at (λ x e. ap is_arithmetic (same_Some (term_of ts (shape_of x)) t (sym (term_at n x e) ∙ te)));
    args = λ n v at. by_node (λ v. map (slice_get ts) v.args ≡ map Some (map (named ts) v.args)) n v at (λ x e. args_of n x e);
    lengths = no_node;
    closed = λ n i e. let r = node_at n (Bound i) e in no_bound ts (shape_of r.0) i r.2;
    one_name = λ m n t a b. s.sound.one_name m n t a b;
  }

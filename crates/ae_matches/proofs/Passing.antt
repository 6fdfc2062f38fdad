-- A term equals some known name exactly where it equals one at a known name of its head.
use Rattle.std.specs.Prelude.{ℕ, ℤ, ◌≡◌, ◌<◌, ◌↔◌, Bool, true, false, cond, not, ◌&&◌, nat_lt, List, map, length, reverse, slice_get, Option, Some, None}
use Rattle.std.specs.List.{AllByRecursion, list_any}
use Rattle.std.proofs.Common.{refl, sym, ap, ◌∙◌, inl, inr, arith}
use Rattle.std.proofs.lemmas.Bool.{cases_Bool, and_parts, and_from, lt-ltb, ltb-true}
use Rattle.std.proofs.lemmas.List.{length-reverse}
use Rattle.std.proofs.lemmas.Option.{slice_get_within}
use Rattle.ae_base.specs.Options.{or_else, ◌>>=◌}
use Rattle.ae_base.proofs.ListFacts.{value_at}
use Rattle.ae_base.proofs.AllOf.{all_at_reverse}
use Rattle.ae_core.specs.Putting.{put_sort}
use Rattle.ae_core.specs.Inner.Induction.{by_terms}
use Rattle.ae_core.specs.declared.terms.Sort.{Sort}
use Rattle.ae_core.specs.declared.terms.Head.{Head}
use Rattle.ae_core.specs.declared.terms.Term.{Term, Bound, Num, Fresh, Apply}
use Rattle.ae_core.specs.declared.terms.Term.TheVariants.{outs-Apply, outs-Num, outs-Fresh, outs-Bound}
use Rattle.ae_core.specs.declared.problems.Signature.{Signature}
use Rattle.ae_rules.specs.Matches.{is_arithmetic}
use Rattle.ae_journal.specs.Triggers.{numbers_below}
use Rattle.ae_store.specs.declared.nodes.Node.{Node}
use Rattle.ae_store.specs.declared.nodes.NodeHead.TheVariants as node
use Rattle.ae_store.specs.Shapes.{shapes}
use Rattle.ae_store.specs.Stores.{IsStore}
use Rattle.ae_store.specs.Terms.{terms, named}
use Rattle.ae_matching.specs.Views as views
use Rattle.ae_matching.specs.Generating.{known_node, applies, is_ac}
use Rattle.ae_matching.specs.Testing.{is_known_name, test}
use Rattle.ae_matching.specs.Laws.{In, IsEquivalence}
use Rattle.ae_matching.proofs.Complete.{any_in, tst_bound}
use Rattle.ae_matching.proofs.Exact.{any_from, below_in}
use Rattle.ae_match.specs.Seen.{seen}
use Rattle.ae_known.specs.declared.known.Known.{Known}
use Rattle.ae_known.specs.Index.{with_head, HasHeads}
use Rattle.ae_finding.specs.Nodes.{made, node_passes, either_order, variable_test}
use Rattle.ae_base.specs.Decided.{decided}
use Rattle.ae_core.specs.Decided.{Term_discrete}
use Rattle.ae_core.specs.Sorts.{same_sorts}
use Rattle.ae_finding.proofs.TestRules.{test_unknown, test_num_known, test_fresh_known, test_own_known, test_nodes_known}
use Rattle.ae_matches.specs.Candidates.{is_own_root, passes, passes_layer}

-- ---- each variant
module _ (store : views.Store) (alike : ℕ → ℕ → Bool) (below : ℕ) (k : Known) (sorts : List Sort) (values : List ℕ) (vs : List Term) where
  abbrev pass_at : Term → Bool
  pass_at = passes store alike below k sorts values vs

  pub passes_bound : (i : ℕ) → pass_at (Bound i) ≡ nat_lt i (length values)
  unfolding passes
  passes_bound i = ap (passes_layer store alike below k sorts values vs (Bound i)) (outs-Bound i)

  pub passes_num : (a b : ℤ) (r : Bool) → pass_at (Num a b r) ≡ list_any (is_own_root store alike below sorts vs (Num a b r)) (with_head k (node.Num a b))
  unfolding passes
  passes_num a b r = ap (passes_layer store alike below k sorts values vs (Num a b r)) (outs-Num a b r)

  pub passes_fresh : (i : ℕ) (s : Sort) → pass_at (Fresh i s) ≡ list_any (is_own_root store alike below sorts vs (Fresh i s)) (with_head k (node.Fresh i))
  unfolding passes
  passes_fresh i s = ap (passes_layer store alike below k sorts values vs (Fresh i s)) (outs-Fresh i s)

  abbrev at_nodes : Head → List Sort → List Term → Bool
  at_nodes h ss us = list_any (λ m. node_passes store alike below sorts values h (map (put_sort sorts) ss) us m m) (with_head k (node.Of h))

  passes_apply : (h : Head) (ss : List Sort) (us : List Term)
      → pass_at (Apply h ss us) ≡ cond (is_arithmetic (Apply h ss us)) (list_any (is_own_root store alike below sorts vs (Apply h ss us)) (with_head k (node.Of h))) (at_nodes h ss us)
  unfolding passes
  passes_apply h ss us = ap (passes_layer store alike below k sorts values vs (Apply h ss us)) (outs-Apply h ss us)

  pub passes_own : (h : Head) (ss : List Sort) (us : List Term) → is_arithmetic (Apply h ss us) ≡ true
      → pass_at (Apply h ss us) ≡ list_any (is_own_root store alike below sorts vs (Apply h ss us)) (with_head k (node.Of h))
  passes_own h ss us e = passes_apply h ss us ∙ ap (λ b. cond b (list_any (is_own_root store alike below sorts vs (Apply h ss us)) (with_head k (node.Of h))) (at_nodes h ss us)) e

  pub passes_nodes : (h : Head) (ss : List Sort) (us : List Term) → is_arithmetic (Apply h ss us) ≡ false → pass_at (Apply h ss us) ≡ at_nodes h ss us
  passes_nodes h ss us e = passes_apply h ss us ∙ ap (λ b. cond b (list_any (is_own_root store alike below sorts vs (Apply h ss us)) (with_head k (node.Of h))) (at_nodes h ss us)) e

module _ (sig : Signature) (ns : List Node) (alike : ℕ → ℕ → Bool) (below : ℕ) (k : Known) (sorts : List Sort) (values : List ℕ) where
  abbrev store : views.Store
  store = seen sig ns

  abbrev vs : List Term
  vs = map (named (terms (shapes ns))) values

  abbrev pass : Term → Bool
  pass = passes store alike below k sorts values vs

  abbrev all : List ℕ
  all = numbers_below (length store.nodes)

  abbrev tst : Term → ℕ → Bool
  tst = test store alike below sorts values is_arithmetic

  abbrev Kind : ℕ → Type 0
  Kind n = is_known_name store below n ≡ true

  -- ---- at a name of its own
  module _ (s : IsStore sig ns) (has : HasHeads ns k) (q : IsEquivalence alike) (known : AllByRecursion Kind values) where
    abbrev At : (ℕ → views.Node → Bool) → ℕ → ℕ → Bool
    At t n m = known_node store alike below (t m) n m

    itself : (t : ℕ → views.Node → Bool) (n m : ℕ) → At t n m ≡ true → At t m m ≡ true
    itself t n m e = go (slice_get store.nodes m) e
      where
        go : (o : Option views.Node) → or_else (o >>= λ x. Some (nat_lt x.generation below && alike m n && t m x)) false ≡ true → or_else (o >>= λ x. Some (nat_lt x.generation below && alike m m && t m x)) false ≡ true
        go None e = cc e
        go (Some x) e =
            let a = and_parts (nat_lt x.generation below && alike m n) (t m x) e in
            let b = and_parts (nat_lt x.generation below) (alike m n) a.0 in
            λ i. b.0 i && q.reflexive m i && a.1 i

    -- the name is known, and one of the store
    there : (t : ℕ → views.Node → Bool) (m : ℕ) → At t m m ≡ true → Kind m × In all m
    there t m e = go (slice_get store.nodes m) refl e
      where
        go : (o : Option views.Node) → slice_get store.nodes m ≡ o → or_else (o >>= λ x. Some (nat_lt x.generation below && alike m m && t m x)) false ≡ true → Kind m × In all m
        go None at e = cc e
        go (Some x) at e =
            let a = and_parts (nat_lt x.generation below && alike m m) (t m x) e in
            let b = and_parts (nat_lt x.generation below) (alike m m) a.0 in
            (ap (λ o. or_else (o >>= λ y. Some (nat_lt y.generation below)) false) at ∙ b.0, below_in (length store.nodes) m (slice_get_within store.nodes m x at))

    abbrev Equal : Term → Type 0
    Equal p = (n : ℕ) × In all n × (tst p n ≡ true)

    known_of : (p : Term) (n : ℕ) → tst p n ≡ true → Kind n
    known_of p n t = elim (cases_Bool (is_known_name store below n)) as (λ _. is_known_name store below n ≡ true) [
      | inl y ↦ y
      | inr m ↦ let z : ◌≡◌ {A = Bool} false true = sym (test_unknown sig ns alike below sorts values n m p) ∙ t in cc z
    ]

    by_heads : (p : Term) (t : ℕ → views.Node → Bool) (hs : List ℕ) → pass p ≡ list_any (λ m. At t m m) hs → ((n : ℕ) → Kind n → tst p n ≡ list_any (At t n) hs) → pass p ≡ true ↔ Equal p
    by_heads p t hs e f = (right, left)
      where
        right : pass p ≡ true → Equal p
        right y =
            let r = any_in (λ m. At t m m) hs (sym e ∙ y) in
            let h = there t r.0 r.2 in
            (r.0, h.1, f r.0 h.0 ∙ any_from (At t r.0) hs r.0 r.1 r.2)

        left : Equal p → pass p ≡ true
        left y =
            let r = any_in (At t y.0) hs (sym (f y.0 (known_of p y.0 y.2)) ∙ y.2) in
            e ∙ any_from (λ m. At t m m) hs r.0 r.1 (itself t y.0 r.0 r.2)

    abbrev Says : Term → Type 0
    Says p = pass p ≡ true ↔ Equal p

    within : (n : ℕ) → Kind n → In all n
    within n e = go (slice_get store.nodes n) refl e
      where
        go : (o : Option views.Node) → slice_get store.nodes n ≡ o → or_else (o >>= λ x. Some (nat_lt x.generation below)) false ≡ true → In all n
        go None at e = cc e
        go (Some x) at e = below_in (length store.nodes) n (slice_get_within store.nodes n x at)

    bound_says : (i : ℕ) → Says (Bound i)
    bound_says i = (right, left)
      where
        right : pass (Bound i) ≡ true → Equal (Bound i)
        right y =
            let l : i < length values = ltb-true i (length values) (sym (passes_bound store alike below k sorts values vs i) ∙ y) in
            let g = value_at (reverse values) i (omega (arith, l, length-reverse values)) in
            let kv : Kind g.0 = all_at_reverse Kind values i g.0 known l g.1 in
            (g.0, within g.0 kv, tst_bound store alike below sorts values is_arithmetic i g.0 ∙ and_from _ _ kv (ap (λ o. or_else (o >>= λ v. Some (alike v g.0)) false) g.1 ∙ q.reflexive g.0))

        left : Equal (Bound i) → pass (Bound i) ≡ true
        left y = passes_bound store alike below k sorts values vs i ∙ go (slice_get (reverse values) i) refl (and_parts (is_known_name store below y.0) (variable_test alike values i y.0) (sym (tst_bound store alike below sorts values is_arithmetic i y.0) ∙ y.2)).1
          where
            go : (o : Option ℕ) → slice_get (reverse values) i ≡ o → or_else (o >>= λ v. Some (alike v y.0)) false ≡ true → nat_lt i (length values) ≡ true
            go None at e = cc e
            go (Some v) at e = lt-ltb i (length values) (omega (arith, slice_get_within (reverse values) i v at, length-reverse values))

    abbrev own_test : Term → ℕ → views.Node → Bool
    own_test p m x = decided (Term_discrete (named (terms (shapes ns)) m) (made sorts vs p))

    abbrev node_test : Head → List Sort → List Term → ℕ → views.Node → Bool
    node_test h ss us m x = not x.arithmetic && applies h x.head && same_sorts x.sorts (map (put_sort sorts) ss) && either_order store alike below sorts values (is_ac sig h) us x.args

    apply_says : (h : Head) (ss : List Sort) (us : List Term) → Says (Apply h ss us)
    apply_says h ss us = elim (cases_Bool (is_arithmetic (Apply h ss us))) as (λ _. Says (Apply h ss us)) [
      | inl y ↦ by_heads (Apply h ss us) (own_test (Apply h ss us)) (with_head k (node.Of h)) (passes_own store alike below k sorts values vs h ss us y) (λ n kn. test_own_known sig ns alike below sorts values n kn s k has h ss us y)
      | inr m ↦ by_heads (Apply h ss us) (node_test h ss us) (with_head k (node.Of h)) (passes_nodes store alike below k sorts values vs h ss us m) (λ n kn. test_nodes_known sig ns alike below sorts values n kn s k has h ss us m)
    ]

    pub pass_says : (p : Term) → Says p
    pass_says =
        by_terms Says bound_says
        (λ a b r. by_heads (Num a b r) (own_test (Num a b r)) (with_head k (node.Num a b)) (passes_num store alike below k sorts values vs a b r) (λ n kn. test_num_known sig ns alike below sorts values n kn s k has a b r))
        (λ i z. by_heads (Fresh i z) (own_test (Fresh i z)) (with_head k (node.Fresh i)) (passes_fresh store alike below k sorts values vs i z) (λ n kn. test_fresh_known sig ns alike below sorts values n kn s k has i z))
        (λ h ss us rec. apply_says h ss us)

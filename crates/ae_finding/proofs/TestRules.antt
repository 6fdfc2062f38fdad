-- The test of a term of a pattern, at each variant, by the names of their heads alone.
use Rattle.std.specs.Prelude.{ℕ, suc, ℤ, ◌≡◌, ◌≢◌, ◌≤◌, Bool, true, false, cond, not, ◌&&◌, ◌||◌, nat_lt, List, [], ◌∷◌, map, length, slice_get, Option, Some, None}
use Rattle.std.proofs.Math.Bool.{and-false}
use Rattle.std.specs.List.{filter, list_any}
use Rattle.std.specs.Option.{option_map}
use Rattle.std.proofs.Common.{refl, sym, ap, ◌∙◌}
use Rattle.std.proofs.lemmas.List.{length-map}
use Rattle.std.proofs.lemmas.Option.{slice_get-map, same_Some}
use Rattle.ae_base.specs.Options.{or_else, ◌>>=◌}
use Rattle.ae_base.specs.Decided.{decided}
use Rattle.ae_base.proofs.Decided.{decided_of}
use Rattle.ae_base.proofs.ListFacts.{get_map, map_map}
use Rattle.ae_core.specs.Decided.{Term_discrete, Head_discrete}
use Rattle.ae_core.specs.Sorts.{same_sorts}
use Rattle.ae_core.specs.Putting.{put_sort, put_terms, instance_term, variable_at}
use Rattle.ae_core.specs.Inner.Induction.{by_terms}
use Rattle.ae_core.proofs.Recursion.{para_num, para_fresh}
use Rattle.ae_core.proofs.PuttingLaws.{instance_bound, instance_num, instance_fresh, instance_apply, put_bound, put_num, put_fresh, put_apply}
use Rattle.ae_core.specs.declared.terms.Sort.{Sort}
use Rattle.ae_core.specs.declared.terms.Head.{Head}
use Rattle.ae_core.specs.declared.terms.Term.{Term, Bound, Num, Fresh, Apply}
use Rattle.ae_core.specs.declared.problems.Signature.{Signature}
use Rattle.ae_rules.specs.Matches.{is_arithmetic}
use Rattle.ae_journal.specs.Triggers.{numbers_below}
use Rattle.ae_store.specs.declared.nodes.Node.{Node}
use Rattle.ae_store.specs.declared.nodes.NodeHead.{NodeHead}
use Rattle.ae_store.specs.declared.nodes.NodeHead.TheVariants as node
use Rattle.ae_store.specs.declared.nodes.Shape.{Shape}
use Rattle.ae_store.specs.Shapes.{shapes, shape_of}
use Rattle.ae_store.specs.Stores.{IsStore}
use Rattle.ae_store.specs.Terms.{terms, term_of, named}
use Rattle.ae_store.proofs.StoreLaws.{name_term}
use Rattle.ae_store.proofs.TermLaws.{term_at}
use Rattle.ae_matching.specs.Views as views
use Rattle.ae_matching.specs.Generating.{is_ac, applies, known_node}
use Rattle.ae_matching.specs.Testing.{Test, test_each, is_known_name, node_test, own_test, test_step, test}
use Rattle.ae_matching.proofs.Complete.{tst_bound, tst_apply}
use Rattle.ae_match.specs.Seen.{applied, seen, seen_node}
use Rattle.ae_known.specs.Index.{has_head, passes_at, with_head, with_node_head, HasHeads, NodeHead_discrete}
use Rattle.ae_known.specs.declared.known.Known.{Known}
use Rattle.ae_core.specs.declared.terms.Term.TheVariants.{outs-Apply, outs-Num, outs-Fresh, outs-Bound}
use Rattle.ae_finding.specs.Nodes.{made, node_head, node_head_layer, is_near, is_site, is_named, own_among, either_order, node_passes, variable_test}
use Rattle.ae_finding.proofs.NodeLaws.{seen_missing, seen_at}

-- ---- terms with sorts and terms put
pub made_bound : (sorts : List Sort) (vs : List Term) (i : ℕ) → made sorts vs (Bound i) ≡ variable_at 0 vs i
made_bound sorts vs i = ap (put_terms 0 vs) (instance_bound sorts i) ∙ put_bound 0 vs i

pub made_num : (sorts : List Sort) (vs : List Term) (a b : ℤ) (r : Bool) → made sorts vs (Num a b r) ≡ Num a b r
made_num sorts vs a b r = ap (put_terms 0 vs) (instance_num sorts a b r) ∙ put_num 0 vs a b r

pub made_fresh : (sorts : List Sort) (vs : List Term) (k : ℕ) (s : Sort) → made sorts vs (Fresh k s) ≡ Fresh k (put_sort sorts s)
made_fresh sorts vs k s = ap (put_terms 0 vs) (instance_fresh sorts k s) ∙ put_fresh 0 vs k (put_sort sorts s)

pub made_apply : (sorts : List Sort) (vs : List Term) (h : Head) (ss : List Sort) (us : List Term) → made sorts vs (Apply h ss us) ≡ Apply h (map (put_sort sorts) ss) (map (made sorts vs) us)
made_apply sorts vs h ss us =
    ap (put_terms 0 vs) (instance_apply sorts h ss us) ∙ put_apply 0 vs h (map (put_sort sorts) ss) (map (instance_term sorts) us)
    ∙ ap (Apply h (map (put_sort sorts) ss)) (map_map (instance_term sorts) (put_terms 0 vs) us)

pub ruleset made_rules = (made_bound, made_num, made_fresh, made_apply)

-- ---- elements that don't pass are left out
any_kept : (test f : ℕ → Bool) → ((n : ℕ) → test n ≡ false → f n ≡ false) → (ns : List ℕ) → list_any f (filter test ns) ≡ list_any f ns
any_kept test f e [] = refl
any_kept test f e (n ∷ ns) = by (any_kept test f e ns) (test n) refl
  where
    by : list_any f (filter test ns) ≡ list_any f ns → (b : Bool) → test n ≡ b → list_any f (filter test (n ∷ ns)) ≡ (f n || list_any f ns)
    by r true t = ap (λ c. list_any f (cond c (n ∷ filter test ns) (filter test ns))) t ∙ ap (λ b. f n || b) r
    by r false t = ap (λ c. list_any f (cond c (n ∷ filter test ns) (filter test ns))) t ∙ r ∙ ap (λ b. b || list_any f ns) (sym (e n t))

-- ---- lists of tests
pub test_lengths : (fs : List Test) (ns : List ℕ) → length fs ≢ length ns → test_each fs ns ≡ false
test_lengths [] [] d = absurd (d refl)
test_lengths [] (n ∷ ns) d = refl
test_lengths (f ∷ fs) [] d = refl
test_lengths (f ∷ fs) (n ∷ ns) d = ap (λ b. f n && b) (test_lengths fs ns (λ e. d (ap suc e))) ∙ and-false (f n)

-- ---- heads
pub head_bound : (i : ℕ) → node_head (Bound i) ≡ None
head_bound i = ap node_head_layer (outs-Bound i)

pub head_num : (a b : ℤ) (r : Bool) → node_head (Num a b r) ≡ Some (node.Num a b)
head_num a b r = ap node_head_layer (outs-Num a b r)

pub head_fresh : (k : ℕ) (s : Sort) → node_head (Fresh k s) ≡ Some (node.Fresh k)
head_fresh k s = ap node_head_layer (outs-Fresh k s)

pub head_apply : (h : Head) (ss : List Sort) (us : List Term) → node_head (Apply h ss us) ≡ Some (node.Of h)
head_apply h ss us = ap node_head_layer (outs-Apply h ss us)

pub ruleset head_rules = (head_bound, head_num, head_fresh, head_apply)

-- ---- a store's names
module _ (sig : Signature) (ns : List Node) where
  abbrev store : views.Store
  store = seen sig ns

  abbrev ts : List Term
  ts = terms (shapes ns)

  pub known_missing : (below n : ℕ) → length ns ≤ n → is_known_name store below n ≡ false
  known_missing below n l = ap (λ o. or_else (o >>= λ x. Some (nat_lt x.generation below)) false) (seen_missing sig ns n l)

  pub known_at : (below n : ℕ) (x : Node) → slice_get ns n ≡ Some x → is_known_name store below n ≡ nat_lt x.generation below
  known_at below n x e = ap (λ o. or_else (o >>= λ x. Some (nat_lt x.generation below)) false) (seen_at sig ns n x e)

  count : length store.nodes ≡ length ns
  count = length-map ns (seen_node ts)

  -- what its own term says of a node
  head_of_term : (x : Shape) → node_head (term_of ts x) ≡ Some x.head
  head_of_term x = go x.head refl
    where
      go : (k : NodeHead) → x.head ≡ k → node_head (term_of ts x) ≡ Some x.head
      go (node.Of h) e = ap (λ (k : NodeHead). node_head (term_of ts (record x { head = k }))) e ∙ ap node_head_layer (outs-Apply h x.sorts (map (named ts) x.args)) ∙ ap Some (sym e)
      go (node.Num a b) e = ap (λ (k : NodeHead). node_head (term_of ts (record x { head = k }))) e ∙ ap node_head_layer (outs-Num a b _) ∙ ap Some (sym e)
      go (node.Fresh k) e = ap (λ (k : NodeHead). node_head (term_of ts (record x { head = k }))) e ∙ ap node_head_layer (outs-Fresh k x.sort) ∙ ap Some (sym e)

  module _ (alike : ℕ → ℕ → Bool) (below : ℕ) where
    -- no name of another head has the term
    is_not : IsStore sig ns → (h : NodeHead) (t : Term) → node_head t ≡ Some h → (n m : ℕ) → passes_at (has_head h) ns m ≡ false → is_named store alike below t n m ≡ false
    is_not s h t q n m e =
        ap (λ o. or_else (o >>= λ x. Some (nat_lt x.generation below && alike m n && decided (Term_discrete (named ts m) t))) false) (slice_get-map (seen_node ts) ns m) ∙ go (slice_get ns m) refl e
      where
        other : (x : Node) → slice_get ns m ≡ Some x → has_head h x ≡ false → decided (Term_discrete (named ts m) t) ≡ false
        other x at d = elim (Term_discrete (named ts m) t) as (λ c. decided c ≡ false) [
          | no p ↦ refl
          | yes p ↦
              let own : slice_get ts m ≡ Some (term_of ts (shape_of x)) = term_at sig (shapes ns) s.sound m (shape_of x) (get_map shape_of ns m x at) in
              let is : term_of ts (shape_of x) ≡ t = sym (name_term ts m (term_of ts (shape_of x)) own) ∙ p in
              let heads : x.head ≡ h = same_Some x.head h (sym (head_of_term (shape_of x)) ∙ ap node_head is ∙ q) in
              let z : ◌≡◌ {A = Bool} true false = sym (decided_of (NodeHead_discrete x.head h) heads) ∙ d in
              cc z
        ]

        go : (o : Option Node) → slice_get ns m ≡ o → or_else (o >>= λ x. Some (has_head h x)) false ≡ false
            → or_else (option_map (seen_node ts) o >>= λ x. Some (nat_lt x.generation below && alike m n && decided (Term_discrete (named ts m) t))) false ≡ false
        go None at d = refl
        go (Some x) at d = ap (λ b. nat_lt x.generation below && alike m n && b) (other x at d) ∙ and-false (nat_lt x.generation below && alike m n)

    pub named_missing : (t : Term) (n m : ℕ) → length ns ≤ m → is_named store alike below t n m ≡ false
    named_missing t n m l = ap (λ o. or_else (o >>= λ x. Some (nat_lt x.generation below && alike m n && decided (Term_discrete (named ts m) t))) false) (seen_missing sig ns m l)

    pub named_far : (t : Term) (n m : ℕ) → is_near store alike below n m ≡ false → is_named store alike below t n m ≡ false
    named_far t n m e = go (slice_get store.nodes m) e
      where
        go : (o : Option views.Node) → or_else (o >>= λ x. Some (nat_lt x.generation below && alike m n)) false ≡ false
            → or_else (o >>= λ x. Some (nat_lt x.generation below && alike m n && decided (Term_discrete (named ts m) t))) false ≡ false
        go None e = refl
        go (Some x) e = ap (λ b. b && decided (Term_discrete (named ts m) t)) e

    pub named_near : (t : Term) (n m : ℕ) (u : Term) → is_near store alike below n m ≡ true → slice_get ts m ≡ Some u → is_named store alike below t n m ≡ decided (Term_discrete u t)
    named_near t n m u e at = go (slice_get store.nodes m) e ∙ ap (λ v. decided (Term_discrete v t)) (name_term ts m u at)
      where
        go : (o : Option views.Node) → or_else (o >>= λ x. Some (nat_lt x.generation below && alike m n)) false ≡ true
            → or_else (o >>= λ x. Some (nat_lt x.generation below && alike m n && decided (Term_discrete (named ts m) t))) false ≡ decided (Term_discrete (named ts m) t)
        go None e = cc e
        go (Some x) e = ap (λ b. b && decided (Term_discrete (named ts m) t)) e

    module _ (sorts : List Sort) (values : List ℕ) where
      abbrev tst : Term → Test
      tst = test store alike below sorts values is_arithmetic

      abbrev vs : List Term
      vs = map (named ts) values

      -- ---- a name that isn't known passes nowhere
      pub test_num : (a b : ℤ) (r : Bool) (n : ℕ) → tst (Num a b r) n ≡ (is_known_name store below n && list_any (is_named store alike below (made sorts vs (Num a b r)) n) (numbers_below (length store.nodes)))
      unfolding test
      test_num a b r n = ap (λ f. f n) (para_num Test (test_step store alike below sorts values is_arithmetic) a b r)

      pub test_fresh : (k : ℕ) (s : Sort) (n : ℕ) → tst (Fresh k s) n ≡ (is_known_name store below n && list_any (is_named store alike below (made sorts vs (Fresh k s)) n) (numbers_below (length store.nodes)))
      unfolding test
      test_fresh k s n = ap (λ f. f n) (para_fresh Test (test_step store alike below sorts values is_arithmetic) k s)

      pub test_unknown : (n : ℕ) → is_known_name store below n ≡ false → (p : Term) → tst p n ≡ false
      test_unknown n e =
          by_terms (λ p. tst p n ≡ false) (λ i. tst_bound store alike below sorts values is_arithmetic i n ∙ ap (λ b. b && variable_test alike values i n) e)
          (λ a b r. test_num a b r n ∙ ap (λ c. c && list_any (is_named store alike below (made sorts vs (Num a b r)) n) (numbers_below (length store.nodes))) e)
          (λ k s. test_fresh k s n ∙ ap (λ c. c && list_any (is_named store alike below (made sorts vs (Fresh k s)) n) (numbers_below (length store.nodes))) e)
          (λ h ss us all. tst_apply store alike below sorts values is_arithmetic h ss us n
          ∙ ap (λ c. c && list_any (cond (is_arithmetic (Apply h ss us)) (own_test store alike below sorts values (Apply h ss us) n) (known_node store alike below (node_test store alike below sorts values h ss (map tst us)) n)) (numbers_below (length store.nodes))) e)

      -- ---- at the names of the head
      module _ (n : ℕ) (k : Known) (has : HasHeads ns k) where
        other_head : (h : Head) (x : NodeHead) → decided (NodeHead_discrete x (node.Of h)) ≡ false → applies h (applied x) ≡ false
        other_head h (node.Of x) d = elim (Head_discrete h x) as (λ c. decided c ≡ false) [
          | yes p ↦ absurd (let t : ◌≡◌ {A = Bool} true false = sym (decided_of (NodeHead_discrete (node.Of x) (node.Of h)) (ap node.Of (sym p))) ∙ d in cc t)
          | no p ↦ refl
        ]
        other_head h (node.Num a b) d = refl
        other_head h (node.Fresh i) d = refl

        four_none : (a b c d e : Bool) → c ≡ false → (a && (b && c && d && e)) ≡ false
        four_none a b c d e f = ap (λ c. a && (b && c && d && e)) f ∙ ap (λ z. a && (z && d && e)) (and-false b) ∙ and-false a

        abbrev case : Head → List Sort → List Term → ℕ → views.Node → Option Bool
        case h put us m x = Some (nat_lt x.generation below && alike m n && (not x.arithmetic && applies h x.head && same_sorts x.sorts put && either_order store alike below sorts values (is_ac sig h) us x.args))

        idle : (h : Head) (put : List Sort) (us : List Term) (m : ℕ) → passes_at (has_head (node.Of h)) ns m ≡ false → node_passes store alike below sorts values h put us n m ≡ false
        idle h put us m e =
            ap (λ o. or_else (o >>= case h put us m) false) (slice_get-map (seen_node ts) ns m) ∙ go (slice_get ns m) e
          where
            go : (o : Option Node) → or_else (o >>= λ x. Some (has_head (node.Of h) x)) false ≡ false → or_else (option_map (seen_node ts) o >>= case h put us m) false ≡ false
            go None d = refl
            go (Some x) d =
                four_none (nat_lt x.generation below && alike m n) (not (seen_node ts x).arithmetic) (applies h (applied x.head)) (same_sorts x.sorts put) (either_order store alike below sorts values (is_ac sig h) us x.args) (other_head h x.head d)

        pub any_of_head : (h : Head) (put : List Sort) (us : List Term)
            → list_any (node_passes store alike below sorts values h put us n) (with_head k (node.Of h)) ≡ list_any (node_passes store alike below sorts values h put us n) (numbers_below (length ns))
        any_of_head h put us =
            ap (list_any (node_passes store alike below sorts values h put us n)) (has.heads (node.Of h))
            ∙ any_kept (passes_at (has_head (node.Of h)) ns) (node_passes store alike below sorts values h put us n) (idle h put us) (numbers_below (length ns))

      module _ (n : ℕ) (known : is_known_name store below n ≡ true) where
        pub test_bound_known : (i : ℕ) → tst (Bound i) n ≡ variable_test alike values i n
        test_bound_known i = tst_bound store alike below sorts values is_arithmetic i n ∙ ap (λ b. b && variable_test alike values i n) known

        module _ (s : IsStore sig ns) (k : Known) (has : HasHeads ns k) where
          own_heads : (h : NodeHead) (p : Term) → node_head (made sorts vs p) ≡ Some h
              → list_any (is_named store alike below (made sorts vs p) n) (numbers_below (length store.nodes)) ≡ own_among store alike below sorts vs (with_head k h) p n
          own_heads h p q =
              ap (λ l. list_any (is_named store alike below (made sorts vs p) n) (numbers_below l)) count
              ∙ sym (any_kept (passes_at (has_head h) ns) (is_named store alike below (made sorts vs p) n) (is_not s h (made sorts vs p) q n) (numbers_below (length ns)))
              ∙ ap (list_any (is_named store alike below (made sorts vs p) n)) (sym (has.heads h))

          pub test_num_known : (a b : ℤ) (r : Bool) → tst (Num a b r) n ≡ own_among store alike below sorts vs (with_head k (node.Num a b)) (Num a b r) n
          test_num_known a b r =
              test_num a b r n ∙ ap (λ c. c && list_any (is_named store alike below (made sorts vs (Num a b r)) n) (numbers_below (length store.nodes))) known ∙ own_heads (node.Num a b) (Num a b r) (ap node_head (made_num sorts vs a b r) ∙ ap node_head_layer (outs-Num a b r))

          pub test_fresh_known : (i : ℕ) (z : Sort) → tst (Fresh i z) n ≡ own_among store alike below sorts vs (with_head k (node.Fresh i)) (Fresh i z) n
          test_fresh_known i z =
              test_fresh i z n ∙ ap (λ c. c && list_any (is_named store alike below (made sorts vs (Fresh i z)) n) (numbers_below (length store.nodes))) known
              ∙ own_heads (node.Fresh i) (Fresh i z) (ap node_head (made_fresh sorts vs i z) ∙ ap node_head_layer (outs-Fresh i (put_sort sorts z)))

          at_apply : (h : Head) (ss : List Sort) (us : List Term) (b : Bool) → is_arithmetic (Apply h ss us) ≡ b
              → tst (Apply h ss us) n
              ≡ list_any (cond b (own_test store alike below sorts values (Apply h ss us) n) (known_node store alike below (node_test store alike below sorts values h ss (map tst us)) n)) (numbers_below (length store.nodes))
          at_apply h ss us b e =
              tst_apply store alike below sorts values is_arithmetic h ss us n
              ∙ ap (λ c. c && list_any (cond (is_arithmetic (Apply h ss us)) (own_test store alike below sorts values (Apply h ss us) n) (known_node store alike below (node_test store alike below sorts values h ss (map tst us)) n)) (numbers_below (length store.nodes))) known
              ∙ ap (λ c. list_any (cond c (own_test store alike below sorts values (Apply h ss us) n) (known_node store alike below (node_test store alike below sorts values h ss (map tst us)) n)) (numbers_below (length store.nodes))) e

          pub test_own_known : (h : Head) (ss : List Sort) (us : List Term) → is_arithmetic (Apply h ss us) ≡ true
              → tst (Apply h ss us) n ≡ own_among store alike below sorts vs (with_head k (node.Of h)) (Apply h ss us) n
          test_own_known h ss us e = at_apply h ss us true e ∙ own_heads (node.Of h) (Apply h ss us) (ap node_head (made_apply sorts vs h ss us) ∙ ap node_head_layer (outs-Apply h (map (put_sort sorts) ss) (map (made sorts vs) us)))

          pub test_nodes_known : (h : Head) (ss : List Sort) (us : List Term) → is_arithmetic (Apply h ss us) ≡ false
              → tst (Apply h ss us) n ≡ list_any (node_passes store alike below sorts values h (map (put_sort sorts) ss) us n) (with_head k (node.Of h))
          test_nodes_known h ss us e =
              at_apply h ss us false e ∙ ap (λ l. list_any (node_passes store alike below sorts values h (map (put_sort sorts) ss) us n) (numbers_below l)) count
              ∙ sym (any_of_head n k has h (map (put_sort sorts) ss) us)

      -- ---- an application by the node of a name
      module _ (h : Head) (put : List Sort) (us : List Term) (n m : ℕ) where
        pub passes_no_site : is_site store alike below h n m ≡ false → node_passes store alike below sorts values h put us n m ≡ false
        passes_no_site e = go (slice_get store.nodes m) e
          where
            apart : (a b c d e : Bool) → (a && b && c) ≡ false → (a && (b && c && d && e)) ≡ false
            apart true b c d e f = ap (λ z. z && d && e) f
            apart false b c d e f = refl

            go : (o : Option views.Node) → or_else (o >>= λ x. Some (nat_lt x.generation below && alike m n && not x.arithmetic && applies h x.head)) false ≡ false
                → or_else (o >>= λ x. Some (nat_lt x.generation below && alike m n && (not x.arithmetic && applies h x.head && same_sorts x.sorts put && either_order store alike below sorts values (is_ac sig h) us x.args))) false ≡ false
            go None e = refl
            go (Some x) e = apart (nat_lt x.generation below && alike m n) (not x.arithmetic) (applies h x.head) (same_sorts x.sorts put) (either_order store alike below sorts values (is_ac sig h) us x.args) e

        pub passes_missing : length ns ≤ m → node_passes store alike below sorts values h put us n m ≡ false
        passes_missing l =
            ap (λ o. or_else (o >>= λ x. Some (nat_lt x.generation below && alike m n && (not x.arithmetic && applies h x.head && same_sorts x.sorts put && either_order store alike below sorts values (is_ac sig h) us x.args))) false)
            (seen_missing sig ns m l)

        pub passes_at_site : (x : Node) → slice_get ns m ≡ Some x → is_site store alike below h n m ≡ true
            → node_passes store alike below sorts values h put us n m ≡ (same_sorts x.sorts put && either_order store alike below sorts values (is_ac sig h) us x.args)
        passes_at_site x at e =
            let s = seen_at sig ns m x at in
            let t : (nat_lt x.generation below && alike m n && not (seen_node ts x).arithmetic && applies h (applied x.head)) ≡ true =
            sym (ap (λ o. or_else (o >>= λ x. Some (nat_lt x.generation below && alike m n && not x.arithmetic && applies h x.head)) false) s) ∙ e in
            ap (λ o. or_else (o >>= λ x. Some (nat_lt x.generation below && alike m n && (not x.arithmetic && applies h x.head && same_sorts x.sorts put && either_order store alike below sorts values (is_ac sig h) us x.args))) false) s
            ∙ joined (nat_lt x.generation below && alike m n) (not (seen_node ts x).arithmetic) (applies h (applied x.head)) (same_sorts x.sorts put) (either_order store alike below sorts values (is_ac sig h) us x.args) t
          where
            joined : (a b c d e : Bool) → (a && b && c) ≡ true → (a && (b && c && d && e)) ≡ (d && e)
            joined true b c d e f = ap (λ z. z && d && e) f
            joined false b c d e f = cc f

-- ---- where the heads of terms are looked up
module _ (sig : Signature) (ns : List Node) (alike : ℕ → ℕ → Bool) (below : ℕ) (sorts : List Sort) (values : List ℕ) (n : ℕ) (known : is_known_name (seen sig ns) below n ≡ true) (s : IsStore sig ns) (k : Known)
    (has : HasHeads ns k) where
  abbrev at_head : Term → Bool
  at_head t = own_among (seen sig ns) alike below sorts (map (named (terms (shapes ns))) values) (with_node_head k (node_head t)) t n

  abbrev tested : Term → Bool
  tested t = test (seen sig ns) alike below sorts values is_arithmetic t n

  of_head : (t : Term) (h : NodeHead) → node_head t ≡ Some h → own_among (seen sig ns) alike below sorts (map (named (terms (shapes ns))) values) (with_head k h) t n ≡ at_head t
  of_head t h e = ap (λ o. own_among (seen sig ns) alike below sorts (map (named (terms (shapes ns))) values) (with_node_head k o) t n) (sym e)

  pub tested_num : (a b : ℤ) (r : Bool) → tested (Num a b r) ≡ at_head (Num a b r)
  tested_num a b r = test_num_known sig ns alike below sorts values n known s k has a b r ∙ of_head (Num a b r) (node.Num a b) (head_num a b r)

  pub tested_fresh : (i : ℕ) (z : Sort) → tested (Fresh i z) ≡ at_head (Fresh i z)
  tested_fresh i z = test_fresh_known sig ns alike below sorts values n known s k has i z ∙ of_head (Fresh i z) (node.Fresh i) (head_fresh i z)

  pub tested_own : (h : Head) (ss : List Sort) (us : List Term) → is_arithmetic (Apply h ss us) ≡ true → tested (Apply h ss us) ≡ at_head (Apply h ss us)
  tested_own h ss us e = test_own_known sig ns alike below sorts values n known s k has h ss us e ∙ of_head (Apply h ss us) (node.Of h) (head_apply h ss us)

pub ruleset test_rules = (test_unknown, test_bound_known, tested_num, tested_fresh, tested_own, test_nodes_known)

pub ruleset passes_rules = (passes_no_site, passes_missing, passes_at_site)

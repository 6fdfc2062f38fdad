-- What a term asks for at a known name is asked for at the known names of its head.
use Rattle.std.specs.Prelude.{ℕ, ℤ, ◌≡◌, Bool, true, false, cond, not, ◌&&◌, nat_lt, List, [], ◌∷◌, map, length, slice_get, Option, Some, None}
use Rattle.std.specs.List.{AllByRecursion, flat_map, list_all}
use Rattle.std.proofs.Common.{refl, sym, ap, ◌∙◌, subst, inl, inr}
use Rattle.std.proofs.lemmas.Bool.{cases_Bool, and_parts, and_from}
use Rattle.ae_base.specs.Options.{or_else, ◌>>=◌}
use Rattle.ae_core.specs.Inner.Induction.{by_terms}
use Rattle.ae_core.proofs.Recursion.{para_num, para_fresh}
use Rattle.ae_core.specs.declared.terms.Sort.{Sort}
use Rattle.ae_core.specs.declared.terms.Head.{Head}
use Rattle.ae_core.specs.declared.terms.Term.{Term, Bound, Num, Fresh, Apply}
use Rattle.ae_core.specs.declared.terms.Term.TheVariants.{outs-Apply, outs-Num, outs-Fresh, outs-Bound}
use Rattle.ae_core.specs.declared.problems.Signature.{Signature}
use Rattle.ae_rules.specs.Matches.{is_arithmetic}
use Rattle.ae_journal.specs.Triggers.{numbers_below}
use Rattle.ae_store.specs.declared.nodes.Node.{Node}
use Rattle.ae_store.specs.declared.nodes.NodeHead.TheVariants as node
use Rattle.ae_store.specs.Shapes.{shapes}
use Rattle.ae_store.specs.Stores.{IsStore}
use Rattle.ae_store.specs.Terms.{terms}
use Rattle.ae_matching.specs.Views as views
use Rattle.ae_matching.specs.declared.bindings.Bindings.{Bindings}
use Rattle.ae_matching.specs.SortMatching.{match_sorts}
use Rattle.ae_matching.specs.SortCovers.{has_sort}
use Rattle.ae_matching.specs.Generating.{is_ac, applies, name_found, with_name, Generator, sorted_then, bind_loose, known_node, node_case, own_node, own_at, own, all_own, generate_step, generate}
use Rattle.ae_matching.specs.Testing.{is_known_name, test, Fits}
use Rattle.ae_matching.specs.Laws.{In, IsEquivalence, AreWithin}
use Rattle.ae_matching.specs.Stable.{Grows, Covers}
use Rattle.ae_matching.specs.Triggers.{AreEqual}
use Rattle.ae_matching.proofs.Complete.{gen_bound, gen_apply, in_flat}
use Rattle.ae_matching.proofs.Offers.{gen_offers}
use Rattle.ae_matching.proofs.Covers.{in_flat_back, in_cond, gen_covers, covers_carried, stays, further}
use Rattle.ae_match.specs.Seen.{seen}
use Rattle.ae_match.proofs.SeenLaws.{seen_sound}
use Rattle.ae_known.specs.declared.known.Known.{Known}
use Rattle.ae_known.specs.Index.{with_head, HasHeads}
use Rattle.ae_finding.specs.Nodes.{at_node}
use Rattle.ae_finding.proofs.OwnRules.{own_apply}
use Rattle.ae_finding.proofs.GenerateRules.{at_heads, node_idle, nothing}
use Rattle.ae_finding.proofs.TestRules.{test_unknown}
use Rattle.ae_matches.specs.Steps.{sorts_pass, AllOf}
use Rattle.ae_matches.specs.Candidates.{any_name, bound_root, own_root, node_root, roots, roots_layer, chained}
use Rattle.ae_matches.proofs.Steps.{pass_more, gen_steps}

module _ (sig : Signature) (ns : List Node) (alike : ℕ → ℕ → Bool) (below : ℕ) (k : Known) where
  abbrev store : views.Store
  store = seen sig ns

  abbrev ts : List Term
  ts = terms (shapes ns)

  abbrev all : List ℕ
  all = numbers_below (length store.nodes)

  abbrev gen : Term → Generator
  gen = generate store alike below is_arithmetic

  abbrev root : Term → Bindings → List Bindings
  root = roots store alike below k

  abbrev Kind : ℕ → Type 0
  Kind n = is_known_name store below n ≡ true

  -- ---- each variant
  pub roots_bound : (i : ℕ) (env : Bindings) → root (Bound i) env ≡ bound_root store alike below k i env (name_found i env.names)
  unfolding roots
  roots_bound i env = ap (roots_layer store alike below k (Bound i) env) (outs-Bound i)

  pub roots_num : (a b : ℤ) (r : Bool) (env : Bindings) → root (Num a b r) env ≡ env ∷ []
  unfolding roots
  roots_num a b r env = ap (roots_layer store alike below k (Num a b r) env) (outs-Num a b r)

  pub roots_fresh : (i : ℕ) (s : Sort) (env : Bindings) → root (Fresh i s) env ≡ env ∷ []
  unfolding roots
  roots_fresh i s env = ap (roots_layer store alike below k (Fresh i s) env) (outs-Fresh i s)

  roots_apply : (h : Head) (ss : List Sort) (us : List Term) (env : Bindings)
      → root (Apply h ss us) env
      ≡ cond (is_arithmetic (Apply h ss us)) (flat_map (own_root store alike below k (Apply h ss us) env) (with_head k (node.Of h))) (flat_map (node_root store alike below k h ss us env) (with_head k (node.Of h)))
  unfolding roots
  roots_apply h ss us env = ap (roots_layer store alike below k (Apply h ss us) env) (outs-Apply h ss us)

  pub roots_own : (h : Head) (ss : List Sort) (us : List Term) (env : Bindings) → is_arithmetic (Apply h ss us) ≡ true
      → root (Apply h ss us) env ≡ flat_map (own_root store alike below k (Apply h ss us) env) (with_head k (node.Of h))
  roots_own h ss us env e =
      roots_apply h ss us env ∙ ap (λ b. cond b (flat_map (own_root store alike below k (Apply h ss us) env) (with_head k (node.Of h))) (flat_map (node_root store alike below k h ss us env) (with_head k (node.Of h)))) e

  pub roots_nodes : (h : Head) (ss : List Sort) (us : List Term) (env : Bindings) → is_arithmetic (Apply h ss us) ≡ false
      → root (Apply h ss us) env ≡ flat_map (node_root store alike below k h ss us env) (with_head k (node.Of h))
  roots_nodes h ss us env e =
      roots_apply h ss us env ∙ ap (λ b. cond b (flat_map (own_root store alike below k (Apply h ss us) env) (with_head k (node.Of h))) (flat_map (node_root store alike below k h ss us env) (with_head k (node.Of h)))) e

  module _ (has : HasHeads ns k) (q : IsEquivalence alike) where
    -- ---- what is offered at a known name is offered
    true_cond : {A : Type 0} (b : Bool) (xs : List A) (y : A) → In (cond b xs []) y → b ≡ true
    true_cond true xs y h = refl
    true_cond false xs y h = elim h [ ]

    from_cond : {A : Type 0} (b : Bool) (xs : List A) (y : A) → b ≡ true → In xs y → In (cond b xs []) y
    from_cond b xs y e h = subst (λ c. In (cond c xs []) y) (sym e) h

    abbrev own_case : Head → List Sort → List Term → Bindings → ℕ → Option views.Node → List Bindings
    own_case h ss us env m o = cond (known_node store alike below (λ x. true) m m) (own_node store h ss (map (own store) us) env o) []

    own_of_head : (h : Head) (ss : List Sort) (us : List Term) (env : Bindings) → flat_map (own_root store alike below k (Apply h ss us) env) (with_head k (node.Of h)) ≡ flat_map (own_root store alike below k (Apply h ss us) env) all
    own_of_head h ss us env =
        at_heads sig ns k h (own_root store alike below k (Apply h ss us) env) (own_case h ss us env) has (λ m. ap (λ l. cond (known_node store alike below (λ x. true) m m) l []) (own_apply store h ss us m env))
        (λ m. (
          nothing sig ns alike below (known_node store alike below (λ x. true) m m),
          λ x e. ap (λ b. cond (known_node store alike below (λ x. true) m m) (cond b (sorted_then (map (own store) us) x.args false env (match_sorts ss x.sorts env.sorts)) []) []) e
              ∙ nothing sig ns alike below (known_node store alike below (λ x. true) m m),
        ))

    node_of_head : (h : Head) (ss : List Sort) (us : List Term) (env : Bindings) → flat_map (node_root store alike below k h ss us env) (with_head k (node.Of h)) ≡ flat_map (node_root store alike below k h ss us env) all
    node_of_head h ss us env =
        at_heads sig ns k h (node_root store alike below k h ss us env) (λ m. node_case store alike below h ss (map gen us) m env m) has (λ m. refl) (λ m. node_idle sig ns alike below h ss (map gen us) m env m)

    own_itself : (n m : ℕ) (o : Option views.Node) → or_else (o >>= λ x. Some (nat_lt x.generation below && alike m n && true)) false ≡ true → or_else (o >>= λ x. Some (nat_lt x.generation below && alike m m && true)) false ≡ true
    own_itself n m None e = cc e
    own_itself n m (Some x) e =
        let a = and_parts (nat_lt x.generation below && alike m n) true e in
        let b = and_parts (nat_lt x.generation below) (alike m n) a.0 in
        λ i. b.0 i && q.reflexive m i && true

    node_itself : (h : Head) (ss : List Sort) (us : List Term) (n m : ℕ) (env new : Bindings) (o : Option views.Node) → In (node_case store alike below h ss (map gen us) n env m o) new → In (node_case store alike below h ss (map gen us) m env m o) new
    node_itself h ss us n m env new None i = elim i [ ]
    node_itself h ss us n m env new (Some x) i =
        let t = true_cond (nat_lt x.generation below && alike m n && not x.arithmetic && applies h x.head) _ new i in
        let a = and_parts (nat_lt x.generation below && alike m n && not x.arithmetic) (applies h x.head) t in
        let b = and_parts (nat_lt x.generation below && alike m n) (not x.arithmetic) a.0 in
        let c = and_parts (nat_lt x.generation below) (alike m n) b.0 in
        from_cond (nat_lt x.generation below && alike m m && not x.arithmetic && applies h x.head) (sorted_then (map gen us) x.args (is_ac sig h) env (match_sorts ss x.sorts env.sorts)) new
        (λ i. c.0 i && q.reflexive m i && b.1 i && a.1 i) (in_cond (nat_lt x.generation below && alike m n && not x.arithmetic && applies h x.head) (sorted_then (map gen us) x.args (is_ac sig h) env (match_sorts ss x.sorts env.sorts)) new i)

    abbrev IsRoot : Term → Type 0
    IsRoot p = (n : ℕ) (env new : Bindings) → In all n → Kind n → In (gen p n env) new → In (root p env) new

    bound_case : (i : ℕ) → IsRoot (Bound i)
    bound_case i n env new among kn h = subst (λ l. In l new) (sym (roots_bound i env)) (go (name_found i env.names) (subst (λ l. In l new) (gen_bound store alike below [] [] is_arithmetic i n env) h))
      where
        go : (o : Option ℕ) → In (bind_loose store alike below i n env o) new → In (bound_root store alike below k i env o) new
        go (Some m) h = in_cond (alike m n) (env ∷ []) new h
        go None h = in_flat (any_name store alike below k i env) all n new among (from_cond (is_known_name store below n) (with_name env i false n ∷ []) new kn h)

    num_case : (a b : ℤ) (r : Bool) → IsRoot (Num a b r)
    unfolding generate
    num_case a b r n env new among kn h =
        subst (λ l. In l new) (sym (roots_num a b r env)) (subst (λ l. In l new) (ap (λ f. f n env) (para_num Generator (generate_step store alike below is_arithmetic) a b r)) h)

    fresh_case : (i : ℕ) (s : Sort) → IsRoot (Fresh i s)
    unfolding generate
    fresh_case i s n env new among kn h =
        subst (λ l. In l new) (sym (roots_fresh i s env)) (subst (λ l. In l new) (ap (λ f. f n env) (para_fresh Generator (generate_step store alike below is_arithmetic) i s)) h)

    apply_case : (h : Head) (ss : List Sort) (us : List Term) → AllByRecursion IsRoot us → IsRoot (Apply h ss us)
    apply_case h ss us rec n env new among kn i = go (is_arithmetic (Apply h ss us)) refl (subst (λ l. In l new) (gen_apply store alike below [] [] is_arithmetic h ss us n env) i)
      where
        go : (b : Bool) → is_arithmetic (Apply h ss us) ≡ b → In (cond b (all_own store alike below (Apply h ss us) n env) (flat_map (at_node store alike below h ss us n env) all)) new → In (root (Apply h ss us) env) new
        go true e i =
            let r = in_flat_back (own_at store alike below (Apply h ss us) n env) all new i in
            let t = true_cond (known_node store alike below (λ x. true) n r.0) (own store (Apply h ss us) r.0 env) new r.2 in
            let here = in_cond (known_node store alike below (λ x. true) n r.0) (own store (Apply h ss us) r.0 env) new r.2 in
            let mine = from_cond (known_node store alike below (λ x. true) r.0 r.0) (own store (Apply h ss us) r.0 env) new (own_itself n r.0 (slice_get store.nodes r.0) t) here in
            subst (λ l. In l new) (sym (roots_own h ss us env e ∙ own_of_head h ss us env)) (in_flat (own_root store alike below k (Apply h ss us) env) all r.0 new r.1 mine)
        go false e i =
            let r = in_flat_back (at_node store alike below h ss us n env) all new i in
            subst (λ l. In l new) (sym (roots_nodes h ss us env e ∙ node_of_head h ss us env))
            (in_flat (node_root store alike below k h ss us env) all r.0 new r.1 (node_itself h ss us n r.0 env new (slice_get store.nodes r.0) r.2))

    pub in_roots : (p : Term) → IsRoot p
    in_roots = by_terms IsRoot bound_case num_case fresh_case apply_case

    -- ---- one term after another
    module _ (s : IsStore sig ns) (sorts : List Sort) (values : List ℕ) (within : AreWithin store values)
        (closed : (m : ℕ) (x : views.Node) → Kind m → slice_get store.nodes m ≡ Some x → AllByRecursion Kind x.args)
        (near : (m : ℕ) (x : views.Node) → slice_get store.nodes m ≡ Some x → nat_lt x.generation below ≡ true → Kind m) where
      abbrev fits : Bindings → Type 0
      fits = Fits store alike below sorts values

      pub record IsChained (ps : List Term) (envs : List Bindings) (env : Bindings) : Type 0 where
        pub new : Bindings
        pub offered : In (chained store alike below k ps envs) new
        pub fitting : fits new
        pub named : AllOf Kind new
        pub grows : Grows env new
        pub kept : (i : ℕ) → has_sort env.sorts i ≡ true → has_sort new.sorts i ≡ true
        pub covers : AllByRecursion (λ p. Covers is_arithmetic p new) ps
        pub sorted : list_all (sorts_pass (has_sort new.sorts)) ps ≡ true

      tested_known : (p : Term) (n : ℕ) → test store alike below sorts values is_arithmetic p n ≡ true → Kind n
      tested_known p n t = elim (cases_Bool (is_known_name store below n)) as (λ _. is_known_name store below n ≡ true) [
        | inl y ↦ y
        | inr m ↦ let z : ◌≡◌ {A = Bool} false true = sym (test_unknown sig ns alike below sorts values n m p) ∙ t in cc z
      ]

      pub chain_found : (ps : List Term) → AreEqual store alike below sorts values is_arithmetic ps → (envs : List Bindings) (env : Bindings) → In envs env → fits env → AllOf Kind env → IsChained ps envs env
      chain_found [] t envs env i f a = record { new = env; offered = i; fitting = f; named = a; grows = stays env; kept = λ j e. e; covers = tt; sorted = refl }
      chain_found (p ∷ ps) t envs env i f a =
          let kn = tested_known p t.0.0 t.0.2 in
          let first = gen_offers store alike below sorts values is_arithmetic (seen_sound sig ns s) q within p t.0.0 env t.0.2 f in
          let here = in_roots p t.0.0 env first.env t.0.1 kn first.offered in
          let step = gen_steps Kind store closed alike below is_arithmetic near p t.0.0 env first.env kn first.offered in
          let cover = gen_covers store alike below is_arithmetic p t.0.0 env first.env first.offered in
          let rest = chain_found ps t.1 (flat_map (root p) envs) first.env (in_flat (root p) envs env first.env i here) first.fits (step.named a) in
          record {
            new = rest.new;
            offered = rest.offered;
            fitting = rest.fitting;
            named = rest.named;
            grows = further env first.env rest.new cover.0 rest.grows;
            kept = λ j e. rest.kept j (step.kept j e);
            covers = (covers_carried store alike below is_arithmetic p first.env rest.new rest.grows cover.1, rest.covers);
            sorted = and_from _ _ (pass_more (has_sort (first.env).sorts) (has_sort (rest.new).sorts) rest.kept p step.sorted) rest.sorted;
          }

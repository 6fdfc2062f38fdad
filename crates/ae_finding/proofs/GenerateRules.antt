-- The terms of a pattern at each variant, looked for at the names of their heads alone.
use Rattle.std.specs.Prelude.{ℕ, ℤ, ◌≡◌, ◌≤◌, Bool, true, false, cond, not, ◌&&◌, nat_lt, List, [], ◌∷◌, ◌++◌, map, length, slice_get, Option, Some, None}
use Rattle.std.proofs.Math.Bool.{and-false}
use Rattle.std.specs.List.{flat_map, filter}
use Rattle.std.specs.Option.{option_map}
use Rattle.std.proofs.Common.{refl, sym, ap, ◌∙◌}
use Rattle.std.proofs.lemmas.List.{length-map, append-nil}
use Rattle.std.proofs.lemmas.Option.{slice_get-map}
use Rattle.ae_base.specs.Options.{or_else, ◌>>=◌}
use Rattle.ae_base.specs.Decided.{decided}
use Rattle.ae_base.proofs.Decided.{decided_of}
use Rattle.ae_core.specs.Decided.{Head_discrete}
use Rattle.ae_core.proofs.Recursion.{para_num, para_fresh}
use Rattle.ae_core.specs.declared.terms.Sort.{Sort}
use Rattle.ae_core.specs.declared.terms.Head.{Head}
use Rattle.ae_core.specs.declared.terms.Term.{Term, Bound, Num, Fresh, Apply}
use Rattle.ae_core.specs.declared.problems.Signature.{Signature}
use Rattle.ae_rules.specs.Matches.{is_arithmetic}
use Rattle.ae_journal.specs.Triggers.{numbers_below}
use Rattle.ae_store.specs.declared.nodes.Node.{Node}
use Rattle.ae_store.specs.declared.nodes.NodeHead.{NodeHead}
use Rattle.ae_store.specs.declared.nodes.NodeHead.TheVariants as node
use Rattle.ae_store.specs.Shapes.{shapes}
use Rattle.ae_store.specs.Terms.{terms}
use Rattle.ae_matching.specs.Views as views
use Rattle.ae_matching.specs.declared.sorts.SortBinding.{SortBinding}
use Rattle.ae_matching.specs.declared.bindings.Bindings.{Bindings}
use Rattle.ae_matching.specs.SortMatching.{match_sorts}
use Rattle.ae_matching.specs.Generating.{is_ac, applies, turn, name_found, with_sorts, Generator, each, sorted_then, bind_loose, node_case, own_node, own_at, own, all_own, generate_step, generate, known_node}
use Rattle.ae_matching.proofs.Complete.{gen_bound, gen_apply}
use Rattle.ae_match.specs.Seen.{applied, seen, seen_node}
use Rattle.ae_known.specs.Index.{has_head, passes_at, with_head, HasHeads, NodeHead_discrete}
use Rattle.ae_known.specs.declared.known.Known.{Known}
use Rattle.ae_finding.specs.Nodes.{is_site, at_node, each_order, from_each}
use Rattle.ae_finding.proofs.NodeLaws.{seen_missing, seen_at}
use Rattle.ae_finding.proofs.OwnRules.{own_apply, from_start}

-- ---- elements for which a function gives nothing are left out
pub flat_kept : {B : Type 0} (test : ℕ → Bool) (f : ℕ → List B) → ((n : ℕ) → test n ≡ false → f n ≡ []) → (ns : List ℕ) → flat_map f (filter test ns) ≡ flat_map f ns
flat_kept test f e [] = refl
flat_kept test f e (n ∷ ns) = by (flat_kept test f e ns) (test n) refl
  where
    by : flat_map f (filter test ns) ≡ flat_map f ns → (b : Bool) → test n ≡ b → flat_map f (filter test (n ∷ ns)) ≡ f n ++ flat_map f ns
    by r true t = ap (λ c. flat_map f (cond c (n ∷ filter test ns) (filter test ns))) t ∙ ap (λ l. f n ++ l) r
    by r false t = ap (λ c. flat_map f (cond c (n ∷ filter test ns) (filter test ns))) t ∙ r ∙ ap (λ l. l ++ flat_map f ns) (sym (e n t))

module _ (sig : Signature) (ns : List Node) where
  abbrev store : views.Store
  store = seen sig ns

  abbrev ts : List Term
  ts = terms (shapes ns)

  count : length store.nodes ≡ length ns
  count = length-map ns (seen_node ts)

  -- what isn't of a head doesn't apply it
  abbrev pub Idle : {B : Type 0} → (Option views.Node → List B) → Head → Type 0
  Idle f h = (f None ≡ []) × ((x : views.Node) → applies h x.head ≡ false → f (Some x) ≡ [])

  idle_at : {B : Type 0} (h : Head) (f : Option views.Node → List B) → Idle f h → (m : ℕ) → passes_at (has_head (node.Of h)) ns m ≡ false → f (slice_get store.nodes m) ≡ []
  idle_at h f i m e = ap f (slice_get-map (seen_node ts) ns m) ∙ go (slice_get ns m) e
    where
      other : (k : NodeHead) → decided (NodeHead_discrete k (node.Of h)) ≡ false → applies h (applied k) ≡ false
      other (node.Of k) d = elim (Head_discrete h k) as (λ c. decided c ≡ false) [ yes p ↦ absurd (let t : ◌≡◌ {A = Bool} true false = sym (decided_of (NodeHead_discrete (node.Of k) (node.Of h)) (ap node.Of (sym p))) ∙ d in cc t) | no n ↦ refl ]
      other (node.Num a b) d = refl
      other (node.Fresh k) d = refl

      go : (o : Option Node) → or_else (o >>= λ x. Some (has_head (node.Of h) x)) false ≡ false → f (option_map (seen_node ts) o) ≡ []
      go None e = i.0
      go (Some x) e = i.1 (seen_node ts x) (other x.head e)

  -- at all names, or at those of the head
  pub at_heads : {B : Type 0} (k : Known) (h : Head) (f : ℕ → List B) (g : ℕ → Option views.Node → List B) → HasHeads ns k → ((m : ℕ) → f m ≡ g m (slice_get store.nodes m)) → ((m : ℕ) → Idle (g m) h)
      → flat_map f (with_head k (node.Of h)) ≡ flat_map f (numbers_below (length store.nodes))
  at_heads k h f g has is idle =
      ap (flat_map f) (has.heads (node.Of h)) ∙ flat_kept (passes_at (has_head (node.Of h)) ns) f (λ m e. is m ∙ idle_at h (g m) (idle m) m e) (numbers_below (length ns))
      ∙ ap (λ l. flat_map f (numbers_below l)) (sym count)

  module _ (alike : ℕ → ℕ → Bool) (below : ℕ) where
    abbrev gen : Term → Generator
    gen = generate store alike below is_arithmetic

    pub node_idle : (h : Head) (ss : List Sort) (fs : List Generator) (n : ℕ) (env : Bindings) (m : ℕ) → Idle (node_case store alike below h ss fs n env m) h
    node_idle h ss fs n env m = (refl, other)
      where
        other : (x : views.Node) → applies h x.head ≡ false → node_case store alike below h ss fs n env m (Some x) ≡ []
        other x e =
            ap (λ b. cond (nat_lt x.generation below && alike m n && not x.arithmetic && b) (sorted_then fs x.args (is_ac sig h) env (match_sorts ss x.sorts env.sorts)) []) e
            ∙ ap (λ b. cond b (sorted_then fs x.args (is_ac sig h) env (match_sorts ss x.sorts env.sorts)) []) (and-false (nat_lt x.generation below && alike m n && not x.arithmetic))

    pub nodes_of_head : (k : Known) → HasHeads ns k → (h : Head) (ss : List Sort) (us : List Term) (n : ℕ) (env : Bindings)
        → flat_map (at_node store alike below h ss us n env) (with_head k (node.Of h)) ≡ flat_map (at_node store alike below h ss us n env) (numbers_below (length store.nodes))
    nodes_of_head k has h ss us n env =
        at_heads k h (at_node store alike below h ss us n env) (node_case store alike below h ss (map gen us) n env) has (λ m. refl) (node_idle h ss (map gen us) n env)

    pub nothing : {B : Type 0} (b : Bool) → cond {A = List B} b [] [] ≡ []
    nothing true = refl
    nothing false = refl

    abbrev own_case : Head → List Sort → List Term → ℕ → Bindings → ℕ → Option views.Node → List Bindings
    own_case h ss us n env m o = cond (known_node store alike below (λ x. true) n m) (own_node store h ss (map (own store) us) env o) []

    pub own_of_head : (k : Known) → HasHeads ns k → (h : Head) (ss : List Sort) (us : List Term) (n : ℕ) (env : Bindings)
        → flat_map (own_at store alike below (Apply h ss us) n env) (with_head k (node.Of h)) ≡ all_own store alike below (Apply h ss us) n env
    own_of_head k has h ss us n env =
        at_heads k h (own_at store alike below (Apply h ss us) n env) (own_case h ss us n env) has (λ m. ap (λ l. cond (known_node store alike below (λ x. true) n m) l []) (own_apply store h ss us m env))
        (λ m. (nothing (known_node store alike below (λ x. true) n m), other m))
      where
        other : (m : ℕ) (x : views.Node) → applies h x.head ≡ false → own_case h ss us n env m (Some x) ≡ []
        other m x e =
            ap (λ b. cond (known_node store alike below (λ x. true) n m) (cond b (sorted_then (map (own store) us) x.args false env (match_sorts ss x.sorts env.sorts)) []) []) e
            ∙ nothing (known_node store alike below (λ x. true) n m)

    -- ---- each variant
    pub generate_num : (a b : ℤ) (r : Bool) (n : ℕ) (env : Bindings) → gen (Num a b r) n env ≡ env ∷ []
    unfolding generate
    generate_num a b r n env = ap (λ f. f n env) (para_num Generator (generate_step store alike below is_arithmetic) a b r)

    pub generate_fresh : (k : ℕ) (s : Sort) (n : ℕ) (env : Bindings) → gen (Fresh k s) n env ≡ env ∷ []
    unfolding generate
    generate_fresh k s n env = ap (λ f. f n env) (para_fresh Generator (generate_step store alike below is_arithmetic) k s)

    pub generate_bound : (i n : ℕ) (env : Bindings) → gen (Bound i) n env ≡ bind_loose store alike below i n env (name_found i env.names)
    generate_bound i n env = gen_bound store alike below [] [] is_arithmetic i n env

    pub generate_own : (k : Known) → HasHeads ns k → (h : Head) (ss : List Sort) (us : List Term) (n : ℕ) (env : Bindings) → is_arithmetic (Apply h ss us) ≡ true
        → gen (Apply h ss us) n env ≡ flat_map (own_at store alike below (Apply h ss us) n env) (with_head k (node.Of h))
    generate_own k has h ss us n env e =
        gen_apply store alike below [] [] is_arithmetic h ss us n env
        ∙ ap (λ b. cond b (all_own store alike below (Apply h ss us) n env) (flat_map (at_node store alike below h ss us n env) (numbers_below (length store.nodes)))) e ∙ sym (own_of_head k has h ss us n env)

    pub generate_nodes : (k : Known) → HasHeads ns k → (h : Head) (ss : List Sort) (us : List Term) (n : ℕ) (env : Bindings) → is_arithmetic (Apply h ss us) ≡ false
        → gen (Apply h ss us) n env ≡ flat_map (at_node store alike below h ss us n env) (with_head k (node.Of h))
    generate_nodes k has h ss us n env e =
        gen_apply store alike below [] [] is_arithmetic h ss us n env
        ∙ ap (λ b. cond b (all_own store alike below (Apply h ss us) n env) (flat_map (at_node store alike below h ss us n env) (numbers_below (length store.nodes)))) e ∙ sym (nodes_of_head k has h ss us n env)

    -- ---- at the node of a name
    pub at_no_site : (h : Head) (ss : List Sort) (us : List Term) (n : ℕ) (env : Bindings) (m : ℕ) → is_site store alike below h n m ≡ false → at_node store alike below h ss us n env m ≡ []
    at_no_site h ss us n env m e = go (slice_get store.nodes m) e
      where
        go : (o : Option views.Node) → or_else (o >>= λ x. Some (nat_lt x.generation below && alike m n && not x.arithmetic && applies h x.head)) false ≡ false → node_case store alike below h ss (map gen us) n env m o ≡ []
        go None e = refl
        go (Some x) e = ap (λ b. cond b (sorted_then (map gen us) x.args (is_ac sig h) env (match_sorts ss x.sorts env.sorts)) []) e

    pub at_missing : (h : Head) (ss : List Sort) (us : List Term) (n : ℕ) (env : Bindings) (m : ℕ) → length ns ≤ m → at_node store alike below h ss us n env m ≡ []
    at_missing h ss us n env m l = ap (node_case store alike below h ss (map gen us) n env m) (seen_missing sig ns m l)

    -- ---- either order
    pub order_one : (us : List Term) (ms : List ℕ) (env : Bindings) → each_order store alike below us ms false env ≡ from_each (map gen us) ms (env ∷ [])
    order_one us ms env = append-nil (each (map gen us) ms env) ∙ sym (from_start (map gen us) ms env)

    pub order_both : (us : List Term) (ms : List ℕ) (env : Bindings) → each_order store alike below us ms true env ≡ from_each (map gen us) ms (env ∷ []) ++ from_each (map gen us) (turn ms) (env ∷ [])
    order_both us ms env = λ i. sym (from_start (map gen us) ms env) i ++ sym (from_start (map gen us) (turn ms) env) i

    module _ (h : Head) (ss : List Sort) (us : List Term) (n : ℕ) (env : Bindings) (m : ℕ) (x : Node) (at : slice_get ns m ≡ Some x) (site : is_site store alike below h n m ≡ true) where
      at_site : at_node store alike below h ss us n env m ≡ sorted_then (map gen us) x.args (is_ac sig h) env (match_sorts ss x.sorts env.sorts)
      at_site =
          let s = seen_at sig ns m x at in
          let t : (nat_lt x.generation below && alike m n && not (seen_node ts x).arithmetic && applies h (applied x.head)) ≡ true =
          sym (ap (λ o. or_else (o >>= λ x. Some (nat_lt x.generation below && alike m n && not x.arithmetic && applies h x.head)) false) s) ∙ site in
          ap (node_case store alike below h ss (map gen us) n env m) s
          ∙ ap (λ b. cond b (sorted_then (map gen us) x.args (is_ac sig h) env (match_sorts ss x.sorts env.sorts)) []) t

      pub site_none : match_sorts ss x.sorts env.sorts ≡ None → at_node store alike below h ss us n env m ≡ []
      site_none e = at_site ∙ ap (sorted_then (map gen us) x.args (is_ac sig h) env) e

      pub site_some : (bs : List SortBinding) → match_sorts ss x.sorts env.sorts ≡ Some bs → at_node store alike below h ss us n env m ≡ each_order store alike below us x.args (is_ac sig h) (with_sorts env bs)
      site_some bs e = at_site ∙ ap (sorted_then (map gen us) x.args (is_ac sig h) env) e

pub ruleset generate_rules = (generate_bound, generate_num, generate_fresh, generate_own, generate_nodes)

pub ruleset site_rules = (at_no_site, at_missing, site_none, site_some)

pub ruleset order_rules = (order_one, order_both)

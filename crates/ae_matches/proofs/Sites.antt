-- An application with an argument that is to be the same as a name is found at the names that the index has for it, and tested there.
use Rattle.std.specs.Prelude.{ℕ, zero, suc, ◌≡◌, ◌⊎◌, Bool, true, false, cond, not, ◌&&◌, nat_lt, List, [], ◌∷◌, map, length, reverse, slice_get, Option, Some, None}
use Rattle.std.specs.List.{flat_map, filter, list_any}
use Rattle.std.specs.Option.{option_map}
use Rattle.std.proofs.Common.{refl, sym, ap, ◌∙◌, subst, inl, inr}
use Rattle.std.proofs.lemmas.Bool.{and_parts, or_cases}
use Rattle.std.proofs.lemmas.Option.{slice_get-map, slice_get_within, same_Some}
use Rattle.ae_base.specs.Options.{or_else, ◌>>=◌}
use Rattle.ae_base.proofs.Decided.{decided_of, decided_yes}
use Rattle.ae_base.proofs.Tests.{same_truths}
use Rattle.ae_core.specs.Decided.{Head_discrete}
use Rattle.ae_core.specs.Inner.Induction.{by_terms}
use Rattle.ae_core.specs.Sorts.{same_sorts}
use Rattle.ae_core.specs.declared.terms.Sort.{Sort}
use Rattle.ae_core.specs.declared.terms.Head.{Head}
use Rattle.ae_core.specs.declared.terms.Term.{Term, Bound}
use Rattle.ae_core.specs.declared.problems.Signature.{Signature}
use Rattle.ae_rules.specs.Matches.{is_arithmetic}
use Rattle.ae_journal.specs.Triggers.{numbers_below}
use Rattle.ae_store.specs.declared.nodes.Node.{Node}
use Rattle.ae_store.specs.declared.nodes.NodeHead.{NodeHead}
use Rattle.ae_store.specs.declared.nodes.NodeHead.TheVariants as node
use Rattle.ae_store.specs.Shapes.{shapes}
use Rattle.ae_store.specs.Terms.{terms}
use Rattle.ae_matching.specs.Views as views
use Rattle.ae_matching.specs.declared.sorts.SortBinding.{SortBinding}
use Rattle.ae_matching.specs.declared.bindings.Bindings.{Bindings}
use Rattle.ae_matching.specs.SortMatching.{match_sorts}
use Rattle.ae_matching.specs.Generating.{is_ac, applies, turn, name_found, with_sorts, Generator, each, sorted_then, bind_loose, node_case, generate}
use Rattle.ae_matching.specs.Testing.{is_known_name, test, test_each}
use Rattle.ae_matching.specs.Laws.{In}
use Rattle.ae_matching.proofs.Complete.{any_in, in_flat, gen_bound, tst_bound}
use Rattle.ae_matching.proofs.Covers.{in_parts, in_flat_back, in_cond}
use Rattle.ae_matching.proofs.Exact.{any_from, below_in}
use Rattle.ae_match.specs.Seen.{applied, seen, seen_node}
use Rattle.ae_known.specs.declared.known.Known.{Known}
use Rattle.ae_known.specs.Index.{NodeHead_discrete, has_head, passes_at, with_head, HasHeads}
use Rattle.ae_finding.specs.Nodes.{node_passes, either_order, variable_test}
use Rattle.ae_finding.specs.declared.sites.Site.{Site}
use Rattle.ae_finding.specs.Sites.{value_of, other_place, IsSite, HasNames}
use Rattle.ae_finding.proofs.SiteLaws.{value_bound, value_num, value_fresh, value_apply}
use Rattle.ae_matches.specs.Candidates.{node_root, AllAmong}
use Rattle.ae_matches.proofs.Steps.{found_kept}

true_cond : {A : Type 0} (b : Bool) (xs : List A) (y : A) → In (cond b xs []) y → b ≡ true
true_cond true xs y h = refl
true_cond false xs y h = elim h [ ]

in_filter : (f : ℕ → Bool) (xs : List ℕ) (m : ℕ) → In xs m → f m ≡ true → In (filter f xs) m
in_filter f [] m h e = elim h [ ]
in_filter f (x ∷ xs) m (inl p) e = subst (λ b. In (cond b (x ∷ filter f xs) (filter f xs)) m) (sym (ap f p ∙ e)) (inl p)
in_filter f (x ∷ xs) m (inr h) e = by (f x) (in_filter f xs m h e)
  where
    by : (b : Bool) → In (filter f xs) m → In (cond b (x ∷ filter f xs) (filter f xs)) m
    by true i = inr i
    by false i = i

-- ---- the variable at a site
abbrev Named : (ℕ → Option ℕ) → ℕ → Term → Type 0
Named value n t = (i : ℕ) × (t ≡ Bound i) × (value i ≡ Some n)

no_name : {P : Type 0} (n : ℕ) (o : Option ℕ) → o ≡ None → o ≡ Some n → P
no_name n o e f = let z : ◌≡◌ {A = Option ℕ} None (Some n) = sym e ∙ f in cc z

named_of : (value : ℕ → Option ℕ) (n : ℕ) (t : Term) → value_of value t ≡ Some n → Named value n t
named_of value n =
    by_terms (λ t. value_of value t ≡ Some n → Named value n t) (λ i e. (i, refl, sym (value_bound value i) ∙ e)) (λ a b r e. no_name n _ (value_num value a b r) e) (λ k s e. no_name n _ (value_fresh value k s) e)
    (λ h ss us all e. no_name n _ (value_apply value h ss us) e)

pub site_variable : (value : ℕ → Option ℕ) (us : List Term) (count : ℕ) (s : Site) → IsSite value us count s → (i : ℕ) × (slice_get us s.place ≡ Some (Bound i)) × (value i ≡ Some s.name)
site_variable value us count s is = go (slice_get us s.place) refl is.0
  where
    go : (o : Option Term) → slice_get us s.place ≡ o → (o >>= value_of value) ≡ Some s.name → (i : ℕ) × (slice_get us s.place ≡ Some (Bound i)) × (value i ≡ Some s.name)
    go None at e = cc e
    go (Some t) at e = let r = named_of value s.name t e in (r.0, at ∙ ap Some r.1, r.2)

-- of two names the other way round, one stands at the other place
turned_at : (ns : List ℕ) (place a : ℕ) → slice_get (turn ns) place ≡ Some a → (slice_get ns place ≡ Some a) ⊎ (slice_get ns (other_place place) ≡ Some a)
turned_at [] place a e = inl e
turned_at (x ∷ []) place a e = inl e
turned_at (x ∷ y ∷ []) zero a e = inr e
turned_at (x ∷ y ∷ []) (suc zero) a e = inr e
turned_at (x ∷ y ∷ []) (suc (suc n)) a e = cc e
turned_at (x ∷ y ∷ z ∷ ns) place a e = inl e

module _ (sig : Signature) (ns : List Node) (alike : ℕ → ℕ → Bool) (below : ℕ) (k : Known) where
  abbrev store : views.Store
  store = seen sig ns

  abbrev ts : List Term
  ts = terms (shapes ns)

  abbrev gen : Term → Generator
  gen = generate store alike below is_arithmetic

  -- what applies the head has it
  of_head : (h : Head) (y : NodeHead) → applies h (applied y) ≡ true → y ≡ node.Of h
  of_head h (node.Of q) e = ap node.Of (sym (decided_yes (Head_discrete h q) e))
  of_head h (node.Num a b) e = cc e
  of_head h (node.Fresh i) e = cc e

  -- ---- bindings that are offered
  offered_at : (us : List Term) (place n i : ℕ) → slice_get us place ≡ Some (Bound i) → (ms : List ℕ) (env new : Bindings) → name_found i env.names ≡ Some n → In (each (map gen us) ms env) new
      → (a : ℕ) × (slice_get ms place ≡ Some a) × (alike n a ≡ true)
  offered_at [] place n i e ms env new f h = cc e
  offered_at (u ∷ us) zero n i e [] env new f h = elim h [ ]
  offered_at (u ∷ us) zero n i e (m ∷ ms) env new f h =
      let r = in_flat_back (each (map gen us) ms) (gen u m env) new h in
      let b : In (gen (Bound i) m env) r.0 = subst (λ v. In (gen v m env) r.0) (same_Some u (Bound i) e) r.1 in
      let l : In (bind_loose store alike below i m env (Some n)) r.0 = subst (λ o. In (bind_loose store alike below i m env o) r.0) f (subst (λ l. In l r.0) (gen_bound store alike below [] [] is_arithmetic i m env) b) in
      (m, refl, true_cond (alike n m) (env ∷ []) r.0 l)
  offered_at (u ∷ us) (suc place) n i e [] env new f h = elim h [ ]
  offered_at (u ∷ us) (suc place) n i e (m ∷ ms) env new f h =
      let r = in_flat_back (each (map gen us) ms) (gen u m env) new h in
      offered_at us place n i e ms r.0 new (found_kept store alike below is_arithmetic u m env r.0 i n r.1 f) r.2

  module _ (h : Head) (ss : List Sort) (us : List Term) (env : Bindings) (count : ℕ) (site : Site) (is : IsSite (λ i. name_found i env.names) us count site) (names : List ℕ) (had : HasNames ns alike h (is_ac sig h) site names) where
    variable : (i : ℕ) × (slice_get us site.place ≡ Some (Bound i)) × (name_found i env.names ≡ Some site.name)
    variable = site_variable (λ i. name_found i env.names) us count site is

    sorted_in : (m : ℕ) (new : Bindings) (x : Node) → slice_get ns m ≡ Some x → x.head ≡ node.Of h → (o : Option (List SortBinding)) → In (sorted_then (map gen us) x.args (is_ac sig h) env o) new → In names m
    sorted_in m new x at head None i = elim i [ ]
    sorted_in m new x at head (Some bs) i =
        elim (in_parts (each (map gen us) x.args (with_sorts env bs)) (cond (is_ac sig h) (each (map gen us) (turn x.args) (with_sorts env bs)) []) new i) as (λ _. In names m) [
          | inl j ↦
              let r = offered_at us site.place site.name variable.0 variable.1 x.args (with_sorts env bs) new variable.2 j in
              had.straight m x r.0 at head r.1 r.2
          | inr j ↦
              let ac = true_cond (is_ac sig h) (each (map gen us) (turn x.args) (with_sorts env bs)) new j in
              let r = offered_at us site.place site.name variable.0 variable.1 (turn x.args) (with_sorts env bs) new variable.2
              (in_cond (is_ac sig h) (each (map gen us) (turn x.args) (with_sorts env bs)) new j) in
              elim (turned_at x.args site.place r.0 r.1) as (λ _. In names m) [ inl s ↦ had.straight m x r.0 at head s r.2 | inr t ↦ had.turned ac m x r.0 at head t r.2 ]
        ]

    one_of : (m : ℕ) (new : Bindings) → In (node_root store alike below k h ss us env m) new → In names m
    one_of m new i = go (slice_get ns m) refl (subst (λ o. In (node_case store alike below h ss (map gen us) m env m o) new) (slice_get-map (seen_node ts) ns m) i)
      where
        go : (o : Option Node) → slice_get ns m ≡ o → In (node_case store alike below h ss (map gen us) m env m (option_map (seen_node ts) o)) new → In names m
        go None at i = elim i [ ]
        go (Some x) at i =
            let there = sorted_then (map gen us) x.args (is_ac sig h) env (match_sorts ss x.sorts env.sorts) in
            let near = nat_lt x.generation below && alike m m && not (seen_node ts x).arithmetic in
            let head = of_head h x.head (and_parts near (applies h (applied x.head)) (true_cond (near && applies h (applied x.head)) there new i)).1 in
            sorted_in m new x at head (match_sorts ss x.sorts env.sorts) (in_cond (near && applies h (applied x.head)) there new i)

    pub roots_among : AllAmong (flat_map (node_root store alike below k h ss us env) (with_head k (node.Of h))) (flat_map (node_root store alike below k h ss us env) names)
    roots_among new i =
        let r = in_flat_back (node_root store alike below k h ss us env) (with_head k (node.Of h)) new i in
        in_flat (node_root store alike below k h ss us env) names r.0 new (one_of r.0 new r.2) r.2

  -- ---- tests
  module _ (sorts : List Sort) (values : List ℕ) where
    abbrev tst : Term → ℕ → Bool
    tst = test store alike below sorts values is_arithmetic

    tested_at : (us : List Term) (place n i : ℕ) → slice_get us place ≡ Some (Bound i) → slice_get (reverse values) i ≡ Some n → (ms : List ℕ) → test_each (map tst us) ms ≡ true
        → (a : ℕ) × (slice_get ms place ≡ Some a) × (alike n a ≡ true)
    tested_at [] place n i e f ms t = cc e
    tested_at (u ∷ us) zero n i e f [] t = cc t
    tested_at (u ∷ us) zero n i e f (m ∷ ms) t =
        let p = and_parts (tst u m) (test_each (map tst us) ms) t in
        let q = and_parts (is_known_name store below m) (variable_test alike values i m) (sym (tst_bound store alike below sorts values is_arithmetic i m) ∙ ap (λ v. tst v m) (sym (same_Some u (Bound i) e)) ∙ p.0) in
        (m, refl, sym (ap (λ o. or_else (o >>= λ v. Some (alike v m)) false) f) ∙ q.1)
    tested_at (u ∷ us) (suc place) n i e f [] t = cc t
    tested_at (u ∷ us) (suc place) n i e f (m ∷ ms) t =
        let p = and_parts (tst u m) (test_each (map tst us) ms) t in
        tested_at us place n i e f ms p.1

    module _ (has : HasHeads ns k) (h : Head) (put : List Sort) (us : List Term) (count : ℕ) (site : Site) (is : IsSite (λ i. slice_get (reverse values) i) us count site) (names : List ℕ)
        (had : HasNames ns alike h (is_ac sig h) site names) where
      abbrev passes : ℕ → Bool
      passes m = node_passes store alike below sorts values h put us m m

      put_variable : (i : ℕ) × (slice_get us site.place ≡ Some (Bound i)) × (slice_get (reverse values) i ≡ Some site.name)
      put_variable = site_variable (λ i. slice_get (reverse values) i) us count site is

      abbrev case : ℕ → views.Node → Option Bool
      case m x = Some (nat_lt x.generation below && alike m m && (not x.arithmetic && applies h x.head && same_sorts x.sorts put && either_order store alike below sorts values (is_ac sig h) us x.args))

      -- what passes applies the head, and its arguments pass
      passed : (m : ℕ) → passes m ≡ true → (x : Node) × (slice_get ns m ≡ Some x) × (x.head ≡ node.Of h) × (either_order store alike below sorts values (is_ac sig h) us x.args ≡ true)
      passed m e = go (slice_get ns m) refl (sym (ap (λ o. or_else (o >>= case m) false) (slice_get-map (seen_node ts) ns m)) ∙ e)
        where
          go : (o : Option Node) → slice_get ns m ≡ o → or_else (option_map (seen_node ts) o >>= case m) false ≡ true
              → (x : Node) × (slice_get ns m ≡ Some x) × (x.head ≡ node.Of h) × (either_order store alike below sorts values (is_ac sig h) us x.args ≡ true)
          go None at e = cc e
          go (Some x) at e =
              let order = either_order store alike below sorts values (is_ac sig h) us x.args in
              let plain = not (seen_node ts x).arithmetic in
              let is_head = applies h (applied x.head) in
              let a = and_parts (nat_lt x.generation below && alike m m) (plain && is_head && same_sorts x.sorts put && order) e in
              let b = and_parts (plain && is_head && same_sorts x.sorts put) order a.1 in
              let c = and_parts (plain && is_head) (same_sorts x.sorts put) b.0 in
              (x, at, of_head h x.head (and_parts plain is_head c.0).1, b.1)

      to_head : (m : ℕ) → passes m ≡ true → In (with_head k (node.Of h)) m
      to_head m e =
          let r = passed m e in
          let here : passes_at (has_head (node.Of h)) ns m ≡ true = ap (λ o. or_else (o >>= λ x. Some (has_head (node.Of h) x)) false) r.1 ∙ decided_of (NodeHead_discrete (r.0).head (node.Of h)) r.2 in
          subst (λ l. In l m) (sym (has.heads (node.Of h))) (in_filter (passes_at (has_head (node.Of h)) ns) (numbers_below (length ns)) m (below_in (length ns) m (slice_get_within ns m r.0 r.1)) here)

      to_names : (m : ℕ) → passes m ≡ true → In names m
      to_names m e =
          let r = passed m e in
          elim (or_cases (test_each (map tst us) (r.0).args) (is_ac sig h && test_each (map tst us) (turn (r.0).args)) r.3) as (λ _. In names m) [
            | inl y ↦
                let a = tested_at us site.place site.name put_variable.0 put_variable.1 put_variable.2 (r.0).args y in
                had.straight m r.0 a.0 r.1 r.2 a.1 a.2
            | inr y ↦
                let q = and_parts (is_ac sig h) (test_each (map tst us) (turn (r.0).args)) y in
                let a = tested_at us site.place site.name put_variable.0 put_variable.1 put_variable.2 (turn (r.0).args) q.1 in
                elim (turned_at (r.0).args site.place a.0 a.1) as (λ _. In names m) [ inl s ↦ had.straight m r.0 a.0 r.1 r.2 s a.2 | inr t ↦ had.turned q.0 m r.0 a.0 r.1 r.2 t a.2 ]
          ]

      pub passes_there : list_any passes names ≡ list_any passes (with_head k (node.Of h))
      passes_there =
          same_truths (list_any passes names) (list_any passes (with_head k (node.Of h))) (λ e. let r = any_in passes names e in any_from passes (with_head k (node.Of h)) r.0 (to_head r.0 r.2) r.2)
          (λ e. let r = any_in passes (with_head k (node.Of h)) e in any_from passes names r.0 (to_names r.0 r.2) r.2)

-- What is offered has the sorts of the term's type variables, and binds names of a kind that arguments keep.
use Rattle.std.specs.Prelude.{ℕ, ℤ, ◌≡◌, Bool, true, false, cond, not, ◌&&◌, nat_eq, nat_lt, List, [], ◌∷◌, ◌++◌, map, length, slice_get, Option, Some, None}
use Rattle.std.specs.List.{AllByRecursion, flat_map, list_all}
use Rattle.std.proofs.Common.{refl, sym, ap, ◌∙◌, subst, inl, inr}
use Rattle.std.proofs.lemmas.Bool.{cases_Bool, and_parts, and_from}
use Rattle.std.proofs.lemmas.List.Folds.{list_all-map}
use Rattle.ae_base.specs.Options.{or_else, ◌>>=◌}
use Rattle.ae_base.proofs.AllOf.{all_always, all_push}
use Rattle.ae_core.specs.Inner.Induction.{by_terms}
use Rattle.ae_core.proofs.Recursion.{para_num, para_fresh, fold_bound, fold_num, fold_fresh, fold_apply}
use Rattle.ae_core.specs.declared.terms.Sort.{Sort}
use Rattle.ae_core.specs.declared.terms.Head.{Head}
use Rattle.ae_core.specs.declared.terms.Term.{Term, Bound, Num, Fresh, Apply}
use Rattle.ae_matching.specs.Views.{Store, Node}
use Rattle.ae_matching.specs.declared.sorts.SortBinding.{SortBinding}
use Rattle.ae_matching.specs.declared.bindings.Bindings.{Bindings}
use Rattle.ae_matching.specs.declared.bindings.NameBinding.{NameBinding}
use Rattle.ae_matching.specs.SortMatching.{match_sorts}
use Rattle.ae_matching.specs.SortCovers.{sort_pass, has_sort}
use Rattle.ae_matching.specs.Generating.{is_ac, applies, turn, name_found, exact_found, with_name, with_sorts, Generator, each, sorted_then, bind_exact, bind_loose, known_node, node_case, at_node, own_node, own_at, own, all_own, generate_step, generate}
use Rattle.ae_journal.specs.Triggers.{numbers_below}
use Rattle.ae_matching.specs.Laws.{In}
use Rattle.ae_matching.proofs.Complete.{gen_bound, gen_apply}
use Rattle.ae_matching.proofs.Covers.{in_parts, in_flat_back, in_cond, in_one}
use Rattle.ae_matching.proofs.SortCovers.{sort_passes, sorts_covered}
use Rattle.ae_finding.proofs.OwnRules.{own_bound, own_num, own_fresh, own_apply}
use Rattle.ae_matches.specs.Steps.{sorts_pass, sorts_pass_step, AllOf, IsStep, AreSteps}

-- ---- sorts that pass, at each variant
pass_bound : (ex : ℕ → Bool) (i : ℕ) → sorts_pass ex (Bound i) ≡ true
unfolding sorts_pass
pass_bound ex i = fold_bound Bool (sorts_pass_step ex) i

pass_num : (ex : ℕ → Bool) (a b : ℤ) (r : Bool) → sorts_pass ex (Num a b r) ≡ true
unfolding sorts_pass
pass_num ex a b r = fold_num Bool (sorts_pass_step ex) a b r

pass_fresh : (ex : ℕ → Bool) (k : ℕ) (s : Sort) → sorts_pass ex (Fresh k s) ≡ true
unfolding sorts_pass
pass_fresh ex k s = fold_fresh Bool (sorts_pass_step ex) k s

pub pass_apply : (ex : ℕ → Bool) (h : Head) (ss : List Sort) (us : List Term) → sorts_pass ex (Apply h ss us) ≡ (list_all (sort_pass ex) ss && list_all (sorts_pass ex) us)
unfolding sorts_pass
pass_apply ex h ss us = fold_apply Bool (sorts_pass_step ex) h ss us ∙ ap (λ b. list_all (sort_pass ex) ss && b) (list_all-map (λ b. b) (sorts_pass ex) us)

module _ (f g : ℕ → Bool) (more : (i : ℕ) → f i ≡ true → g i ≡ true) where
  abbrev Passes : Term → Type 0
  Passes p = sorts_pass f p ≡ true → sorts_pass g p ≡ true

  sorts_more : (ss : List Sort) → list_all (sort_pass f) ss ≡ true → list_all (sort_pass g) ss ≡ true
  sorts_more [] e = refl
  sorts_more (s ∷ ss) e = let b = and_parts (sort_pass f s) (list_all (sort_pass f) ss) e in and_from _ _ (sort_passes f g more s b.0) (sorts_more ss b.1)

  pub each_more : (us : List Term) → AllByRecursion Passes us → list_all (sorts_pass f) us ≡ true → list_all (sorts_pass g) us ≡ true
  each_more [] all e = refl
  each_more (u ∷ us) all e = let b = and_parts (sorts_pass f u) (list_all (sorts_pass f) us) e in and_from _ _ (all.0 b.0) (each_more us all.1 b.1)

  pub pass_more : (p : Term) → Passes p
  pass_more =
      by_terms Passes (λ i e. pass_bound g i) (λ a b r e. pass_num g a b r) (λ k s e. pass_fresh g k s)
      (λ h ss us all e.
      let b = and_parts (list_all (sort_pass f) ss) (list_all (sorts_pass f) us) (sym (pass_apply f h ss us) ∙ e) in
      pass_apply g h ss us ∙ and_from _ _ (sorts_more ss b.0) (each_more us all b.1))

  pub sort_list_more : (ss : List Sort) → list_all (sort_pass f) ss ≡ true → list_all (sort_pass g) ss ≡ true
  sort_list_more = sorts_more

-- ---- a variable keeps its name
found_more : (i n : ℕ) (bs : List NameBinding) (b : NameBinding) → name_found i bs ≡ Some n → name_found i (bs ++ b ∷ []) ≡ Some n
found_more i n [] b e = cc e
found_more i n (c ∷ bs) b e = elim (cases_Bool (nat_eq c.variable i)) as (λ _. name_found i (c ∷ bs ++ b ∷ []) ≡ Some n) [
  | inl y ↦ ap (λ t. cond t (Some c.name) (name_found i (bs ++ b ∷ []))) y ∙ sym (ap (λ t. cond t (Some c.name) (name_found i bs)) y) ∙ e
  | inr f ↦ ap (λ t. cond t (Some c.name) (name_found i (bs ++ b ∷ []))) f ∙ found_more i n bs b (sym (ap (λ t. cond t (Some c.name) (name_found i bs)) f) ∙ e)
]

-- ---- steps
module _ (K : ℕ → Type 0) where
  stays : (p : Term) (env new : Bindings) → env ≡ new → ((ex : ℕ → Bool) → sorts_pass ex p ≡ true) → IsStep K p env new
  stays p env new e h = subst (λ x. IsStep K p env x) e (record { kept = λ i k. k; sorted = h (has_sort env.sorts); named = λ a. a; found = λ i m f. f })

  pub named_more : (env : Bindings) (i n : ℕ) (exact : Bool) → K n → AllOf K env → AllOf K (with_name env i exact n)
  named_more env i n exact k a = all_push (λ b. K b.name) env.names (record { variable = i; name = n; exact = exact }) a k

  binds : (p : Term) (env new : Bindings) (i n : ℕ) (exact : Bool) → with_name env i exact n ≡ new → K n → ((ex : ℕ → Bool) → sorts_pass ex p ≡ true) → IsStep K p env new
  binds p env new i n exact e k h =
      subst (λ x. IsStep K p env x) e (record { kept = λ i k. k; sorted = h (has_sort env.sorts); named = named_more env i n exact k; found = λ j m f. found_more j m env.names (record { variable = i; name = n; exact = exact }) f })

  module _ (g : Term → Generator) where
    abbrev Steps : Term → Type 0
    Steps u = (n : ℕ) (env new : Bindings) → K n → In (g u n env) new → IsStep K u env new

    pub each_steps : (us : List Term) → AllByRecursion Steps us → (ns : List ℕ) → AllByRecursion K ns → (env new : Bindings) → In (each (map g us) ns env) new → AreSteps K us env new
    each_steps [] all [] ks env new h = subst (λ x. AreSteps K [] env x) (in_one env new h) (record { kept = λ i k. k; sorted = refl; named = λ a. a; found = λ i m f. f })
    each_steps [] all (n ∷ ns) ks env new h = elim h [ ]
    each_steps (u ∷ us) all [] ks env new h = elim h [ ]
    each_steps (u ∷ us) all (n ∷ ns) ks env new h =
        let r = in_flat_back (each (map g us) ns) (g u n env) new h in
        let first = all.0 n env r.0 ks.0 r.1 in
        let rest = each_steps us all.1 ns ks.1 r.0 new r.2 in
        record {
          kept = λ i k. rest.kept i (first.kept i k);
          sorted = and_from _ _ (pass_more (has_sort (r.0).sorts) (has_sort new.sorts) rest.kept u first.sorted) rest.sorted;
          named = λ a. rest.named (first.named a);
          found = λ i m f. rest.found i m (first.found i m f);
        }

    turned_all : (ns : List ℕ) → AllByRecursion K ns → AllByRecursion K (turn ns)
    turned_all [] a = a
    turned_all (x ∷ []) a = a
    turned_all (x ∷ y ∷ []) a = (a.1.0, (a.0, tt))
    turned_all (x ∷ y ∷ z ∷ ns) a = a

    pub sorted_steps : (h : Head) (ss os : List Sort) (us : List Term) → AllByRecursion Steps us → (ns : List ℕ) → AllByRecursion K ns → (ac : Bool) (env new : Bindings)
        → In (sorted_then (map g us) ns ac env (match_sorts ss os env.sorts)) new → IsStep K (Apply h ss us) env new
    sorted_steps h ss os us all ns ks ac env new k = go (match_sorts ss os env.sorts) refl k
      where
        one : (bs : List SortBinding) → match_sorts ss os env.sorts ≡ Some bs → (ms : List ℕ) → AllByRecursion K ms → In (each (map g us) ms (with_sorts env bs)) new → IsStep K (Apply h ss us) env new
        one bs e ms all_ms k =
            let c = sorts_covered ss os env.sorts bs e in
            let r = each_steps us all ms all_ms (with_sorts env bs) new k in
            record {
              kept = λ i k. r.kept i (c.kept i k);
              sorted = pass_apply (has_sort new.sorts) h ss us ∙ and_from _ _ (sort_list_more (has_sort bs) (has_sort new.sorts) r.kept ss c.all) r.sorted;
              named = λ a. r.named a;
              found = λ i m f. r.found i m f;
            }

        go : (o : Option (List SortBinding)) → match_sorts ss os env.sorts ≡ o → In (sorted_then (map g us) ns ac env o) new → IsStep K (Apply h ss us) env new
        go None e k = elim k [ ]
        go (Some bs) e k = elim (in_parts (each (map g us) ns (with_sorts env bs)) (cond ac (each (map g us) (turn ns) (with_sorts env bs)) []) new k) as (λ _. IsStep K (Apply h ss us) env new) [
          | inl a ↦ one bs e ns ks a
          | inr b ↦ one bs e (turn ns) (turned_all ns ks) (in_cond ac (each (map g us) (turn ns) (with_sorts env bs)) new b)
        ]

  -- ---- names whose arguments are of the kind too
  module _ (store : Store) (closed : (m : ℕ) (x : Node) → K m → slice_get store.nodes m ≡ Some x → AllByRecursion K x.args) where
    abbrev OwnSteps : Term → Type 0
    OwnSteps = Steps (own store)

    own_case : (h : Head) (ss : List Sort) (us : List Term) → AllByRecursion OwnSteps us → OwnSteps (Apply h ss us)
    own_case h ss us all n env new kn k = go (slice_get store.nodes n) refl (subst (λ l. In l new) (own_apply store h ss us n env) k)
      where
        go : (o : Option Node) → slice_get store.nodes n ≡ o → In (own_node store h ss (map (own store) us) env o) new → IsStep K (Apply h ss us) env new
        go None e k = elim k [ ]
        go (Some x) e k =
            sorted_steps (own store) h ss x.sorts us all x.args (closed n x kn e) false env new
            (in_cond (applies h x.head) (sorted_then (map (own store) us) x.args false env (match_sorts ss x.sorts env.sorts)) new k)

    own_variable : (i : ℕ) → OwnSteps (Bound i)
    own_variable i n env new kn h = go (exact_found i env.names) (subst (λ l. In l new) (own_bound store i n env) h)
      where
        go : (o : Option ℕ) → In (bind_exact i n env o) new → IsStep K (Bound i) env new
        go (Some m) h = stays (Bound i) env new (in_one env new (in_cond (nat_eq m n) (env ∷ []) new h)) (λ ex. pass_bound ex i)
        go None h = binds (Bound i) env new i n true (in_one (with_name env i true n) new h) kn (λ ex. pass_bound ex i)

    pub own_steps : (p : Term) → OwnSteps p
    own_steps =
        by_terms OwnSteps own_variable
        (λ a b r n env new kn h. stays (Num a b r) env new (in_one env new (subst (λ l. In l new) (own_num store a b r n env) h)) (λ ex. pass_num ex a b r))
        (λ k s n env new kn h. stays (Fresh k s) env new (in_one env new (subst (λ l. In l new) (own_fresh store k s n env) h)) (λ ex. pass_fresh ex k s)) own_case

    module _ (alike : ℕ → ℕ → Bool) (below : ℕ) (is_own : Term → Bool) (near : (m : ℕ) (x : Node) → slice_get store.nodes m ≡ Some x → nat_lt x.generation below ≡ true → K m) where
      abbrev gen : Term → Generator
      gen = generate store alike below is_own

      near_node : (m : ℕ) (b : Bool) (x : Node) → slice_get store.nodes m ≡ Some x → (nat_lt x.generation below && b) ≡ true → K m
      near_node m b x e h = near m x e (and_parts (nat_lt x.generation below) b h).0

      abbrev GenSteps : Term → Type 0
      GenSteps = Steps gen

      gen_variable : (i : ℕ) → GenSteps (Bound i)
      gen_variable i n env new kn h = go (name_found i env.names) (subst (λ l. In l new) (gen_bound store alike below [] [] is_own i n env) h)
        where
          go : (o : Option ℕ) → In (bind_loose store alike below i n env o) new → IsStep K (Bound i) env new
          go (Some m) h = stays (Bound i) env new (in_one env new (in_cond (alike m n) (env ∷ []) new h)) (λ ex. pass_bound ex i)
          go None h = binds (Bound i) env new i n false (in_one (with_name env i false n) new h) kn (λ ex. pass_bound ex i)

      true_cond : {A : Type 0} (b : Bool) (xs : List A) (y : A) → In (cond b xs []) y → b ≡ true
      true_cond true xs y h = refl
      true_cond false xs y h = elim h [ ]

      pub node_steps : (h : Head) (ss : List Sort) (us : List Term) → AllByRecursion GenSteps us → (n : ℕ) (env new : Bindings) (m : ℕ)
          → In (at_node store alike below h ss (map gen us) n env m) new → IsStep K (Apply h ss us) env new
      node_steps h ss us all n env new m k = go (slice_get store.nodes m) refl k
        where
          go : (o : Option Node) → slice_get store.nodes m ≡ o → In (node_case store alike below h ss (map gen us) n env m o) new → IsStep K (Apply h ss us) env new
          go None e k = elim k [ ]
          go (Some x) e k =
              let c = true_cond (nat_lt x.generation below && alike m n && not x.arithmetic && applies h x.head) _ new k in
              let a = and_parts (nat_lt x.generation below && alike m n && not x.arithmetic) (applies h x.head) c in
              let b = and_parts (nat_lt x.generation below && alike m n) (not x.arithmetic) a.0 in
              let km = near_node m (alike m n) x e b.0 in
              sorted_steps gen h ss x.sorts us all x.args (closed m x km e) (is_ac store.signature h) env new
              (in_cond (nat_lt x.generation below && alike m n && not x.arithmetic && applies h x.head) (sorted_then (map gen us) x.args (is_ac store.signature h) env (match_sorts ss x.sorts env.sorts)) new k)

      pub own_at_steps : (p : Term) (n : ℕ) (env new : Bindings) (m : ℕ) → In (own_at store alike below p n env m) new → IsStep K p env new
      own_at_steps p n env new m k =
          own_steps p m env new (go (slice_get store.nodes m) refl (true_cond (known_node store alike below (λ x. true) n m) (own store p m env) new k))
          (in_cond (known_node store alike below (λ x. true) n m) (own store p m env) new k)
        where
          go : (o : Option Node) → slice_get store.nodes m ≡ o → or_else (o >>= λ x. Some (nat_lt x.generation below && alike m n && true)) false ≡ true → K m
          go None e h = cc h
          go (Some x) e h = near_node m (alike m n) x e (and_parts (nat_lt x.generation below && alike m n) true h).0

      gen_case : (h : Head) (ss : List Sort) (us : List Term) → AllByRecursion GenSteps us → GenSteps (Apply h ss us)
      gen_case h ss us all n env new kn k = go (is_own (Apply h ss us)) (subst (λ l. In l new) (gen_apply store alike below [] [] is_own h ss us n env) k)
        where
          go : (b : Bool) → In (cond b (all_own store alike below (Apply h ss us) n env) (flat_map (at_node store alike below h ss (map gen us) n env) (numbers_below (length store.nodes)))) new → IsStep K (Apply h ss us) env new
          go true k =
              let r = in_flat_back (own_at store alike below (Apply h ss us) n env) (numbers_below (length store.nodes)) new k in
              own_at_steps (Apply h ss us) n env new r.0 r.2
          go false k =
              let r = in_flat_back (at_node store alike below h ss (map gen us) n env) (numbers_below (length store.nodes)) new k in
              node_steps h ss us all n env new r.0 r.2

      gen_numeral : (a b : ℤ) (r : Bool) → GenSteps (Num a b r)
      unfolding generate
      gen_numeral a b r n env new kn h =
          stays (Num a b r) env new (in_one env new (subst (λ l. In l new) (ap (λ f. f n env) (para_num Generator (generate_step store alike below is_own) a b r)) h)) (λ ex. pass_num ex a b r)

      gen_constant : (k : ℕ) (s : Sort) → GenSteps (Fresh k s)
      unfolding generate
      gen_constant k s n env new kn h =
          stays (Fresh k s) env new (in_one env new (subst (λ l. In l new) (ap (λ f. f n env) (para_fresh Generator (generate_step store alike below is_own) k s)) h)) (λ ex. pass_fresh ex k s)

      pub gen_steps : (p : Term) → GenSteps p
      gen_steps = by_terms GenSteps gen_variable gen_numeral gen_constant gen_case

-- a variable keeps its name whatever is known
module _ (store : Store) (alike : ℕ → ℕ → Bool) (below : ℕ) (is_own : Term → Bool) where
  abbrev Any : ℕ → Type 0
  Any n = n ≡ n

  pub found_kept : (p : Term) (m : ℕ) (env new : Bindings) (i n : ℕ) → In (generate store alike below is_own p m env) new → name_found i env.names ≡ Some n → name_found i new.names ≡ Some n
  found_kept p m env new i n h f = (gen_steps Any store (λ a x k e. all_always Any (λ b. refl) x.args) alike below is_own (λ a x e l. refl) p m env new refl h).found i n f

-- The generator offers bindings for each match.
use Rattle.ae_base.proofs.AllOf.{all_push, all_always}
use Rattle.std.proofs.Common.{◌≡◌, ℕ, Bool, true, false, cond, not, ◌&&◌, ◌||◌, List, [], ◌∷◌, ◌++◌, map, length, reverse, refl, sym, ap, ◌∙◌, subst, slice_get, Option, Some, None, inl, inr, nat_eq, nat_lt}
use Rattle.std.specs.List.{AllByRecursion, flat_map, list_any}
use Rattle.std.proofs.lemmas.Bool.{cases_Bool, and_parts, or_cases, eqb-true}
use Rattle.ae_base.specs.Decided.{decided}
use Rattle.ae_core.specs.Decided.{Sorts_discrete}
use Rattle.ae_base.specs.Options.{or_else, ◌>>=◌}
use Rattle.ae_core.specs.Sorts.{same_sorts}
use Rattle.ae_core.specs.Putting.{put_sort}
use Rattle.ae_core.proofs.Recursion.{para_bound, para_apply}
use Rattle.ae_core.specs.declared.terms.Sort.{Sort}
use Rattle.ae_core.specs.declared.terms.Head.{Head}
use Rattle.ae_core.specs.declared.terms.Term.{Term, Bound, Apply}
use Rattle.ae_matching.specs.Views.{Store}
use Rattle.ae_matching.specs.Views.{Node}
use Rattle.ae_matching.specs.declared.bindings.NameBinding.{NameBinding}
use Rattle.ae_matching.specs.declared.bindings.Bindings.{Bindings}
use Rattle.ae_matching.specs.SortMatching.{match_sorts}
use Rattle.ae_matching.specs.Generating.{is_ac, applies, turn, name_found, with_name, with_sorts, Generator, each, sorted_then, bind_loose, known_node, node_case, at_node, all_own, generate_step, generate}
use Rattle.ae_journal.specs.Triggers.{numbers_below}
use Rattle.ae_matching.specs.Testing.{Test, test_each, node_test, is_known, application_test, variable_test, test_step, test, binding_fits, IsNameOf, Fits}
use Rattle.ae_matching.specs.Laws.{In, Offers, IsEquivalence}
use Rattle.ae_matching.proofs.SortLaws.{sorts_found, each_found}

-- ---- lists
pub in_left : {A : Type 0} (xs ys : List A) (y : A) → In xs y → In (xs ++ ys) y
in_left [] ys y h = elim h [ ]
in_left (x ∷ xs) ys y (inl e) = inl e
in_left (x ∷ xs) ys y (inr h) = inr (in_left xs ys y h)

pub in_right : {A : Type 0} (xs ys : List A) (y : A) → In ys y → In (xs ++ ys) y
in_right [] ys y h = h
in_right (x ∷ xs) ys y h = inr (in_right xs ys y h)

pub in_flat : {A B : Type 0} (f : A → List B) (xs : List A) (x : A) (y : B) → In xs x → In (f x) y → In (flat_map f xs) y
in_flat f [] x y k h = elim k [ ]
in_flat f (z ∷ xs) x y (inl e) h = in_left (f z) (flat_map f xs) y (subst (λ w. In (f w) y) (sym e) h)
in_flat f (z ∷ xs) x y (inr k) h = in_right (f z) (flat_map f xs) y (in_flat f xs x y k h)

-- an element that passes a test
pub any_in : {A : Type 0} (f : A → Bool) (xs : List A) → list_any f xs ≡ true → (x : A) × In xs x × (f x ≡ true)
any_in f [] e = cc e
any_in f (x ∷ xs) e = elim (cases_Bool (f x)) as (λ _. (y : _) × In (x ∷ xs) y × (f y ≡ true)) [
  | inl y ↦ (x, inl refl, y)
  | inr n ↦ let r = any_in f xs (sym (ap (λ b. b || list_any f xs) n) ∙ e) in (r.0, inr r.1, r.2)
]

pub firsts : {A : Type 0} (g : Term → A) (us : List Term) → map (λ (u : Term × A). u.0) (map (λ t. (t, g t)) us) ≡ us
firsts g [] = refl
firsts g (u ∷ us) = ap (λ w. u ∷ w) (firsts g us)

pub seconds : {A : Type 0} (g : Term → A) (us : List Term) → map (λ (u : Term × A). u.1) (map (λ t. (t, g t)) us) ≡ map g us
seconds g [] = refl
seconds g (u ∷ us) = ap (λ w. g u ∷ w) (seconds g us)

module _ (store : Store) (alike : ℕ → ℕ → Bool) (below : ℕ) (sorts : List Sort) (values : List ℕ) where
  abbrev fits : Bindings → Type 0
  fits = Fits store alike below sorts values

  abbrev offers : List Bindings → Type 0
  offers = Offers store alike below sorts values

  abbrev is_name : NameBinding → Type 0
  is_name = IsNameOf store alike below sorts values

  pub offered_left : (xs ys : List Bindings) → offers xs → offers (xs ++ ys)
  offered_left xs ys o = record { env = o.env; offered = in_left xs ys o.env o.offered; fits = o.fits }

  pub offered_right : (xs ys : List Bindings) → offers ys → offers (xs ++ ys)
  offered_right xs ys o = record { env = o.env; offered = in_right xs ys o.env o.offered; fits = o.fits }

  pub offered_itself : (env : Bindings) → fits env → offers (env ∷ [])
  offered_itself env f = record { env = env; offered = inl refl; fits = f }

  pub named_more : (env : Bindings) (i : ℕ) (exact : Bool) (n : ℕ) → fits env → binding_fits store alike below sorts values exact (slice_get (reverse values) i) n → fits (with_name env i exact n)
  named_more env i exact n f b = record { sorted = f.sorted; named_ones = all_push is_name env.names (record { variable = i; name = n; exact = exact }) f.named_ones b }

  -- generators of a list of terms, each of which offers where its test passes
  pub each_offers : (g : Term → Generator) (t : Term → Test) (us : List Term)
      → AllByRecursion (λ u. (n : ℕ) (env : Bindings) → t u n ≡ true → fits env → offers (g u n env)) us
      → (ns : List ℕ) (env : Bindings) → test_each (map t us) ns ≡ true → fits env → offers (each (map g us) ns env)
  each_offers g t [] all [] env e f = offered_itself env f
  each_offers g t [] all (n ∷ ns) env e f = cc e
  each_offers g t (u ∷ us) all [] env e f = cc e
  each_offers g t (u ∷ us) all (n ∷ ns) env e f =
      let b = and_parts (t u n) (test_each (map t us) ns) e in
      let first = all.0 n env b.0 f in
      let rest = each_offers g t us all.1 ns first.env b.1 first.fits in
      record { env = rest.env; offered = in_flat (each (map g us) ns) (g u n env) first.env rest.env first.offered rest.offered; fits = rest.fits }

  -- a name that is found for a variable is the same as the one that it was given
  pub name_right : IsEquivalence alike → (i v m : ℕ) (bs : List NameBinding) → AllByRecursion is_name bs → slice_get (reverse values) i ≡ Some v → name_found i bs ≡ Some m → alike v m ≡ true
  name_right q i v m [] a s e = cc e
  name_right q i v m (b ∷ bs) a s e = elim (cases_Bool (nat_eq b.variable i)) as (λ _. alike v m ≡ true) [
    | inl y ↦
        let here : Some b.name ≡ Some m = sym (ap (λ c. cond c (Some b.name) (name_found i bs)) y) ∙ e in
        let there : b.name ≡ m = cc here in
        let at : slice_get (reverse values) b.variable ≡ Some v = ap (slice_get (reverse values)) (eqb-true b.variable i y) ∙ s in
        subst (λ k. alike v k ≡ true) there (either b.exact v b.name (subst (λ o. binding_fits store alike below sorts values b.exact o b.name) at a.0))
    | inr n ↦ name_right q i v m bs a.1 s (sym (ap (λ c. cond c (Some b.name) (name_found i bs)) n) ∙ e)
  ]
    where
      either : (exact : Bool) (v n : ℕ) → binding_fits store alike below sorts values exact (Some v) n → alike v n ≡ true
      either true v n f = subst (λ k. alike v k ≡ true) f (q.reflexive v)
      either false v n f = f

  pub bound_offers : IsEquivalence alike → (i n : ℕ) (env : Bindings) (o : Option ℕ) → slice_get (reverse values) i ≡ o → or_else (o >>= λ v. Some (alike v n)) false ≡ true → fits env
      → (found : Option ℕ) → name_found i env.names ≡ found → offers (bind_loose store alike below i n env found)
  bound_offers q i n env None s e f found w = cc e
  bound_offers q i n env (Some v) s e f (Some m) w =
      let known = name_right q i v m env.names f.named_ones s w in
      let yes : alike m n ≡ true = q.transitive m v n (q.symmetric v m known) e in
      subst (λ b. offers (cond b (env ∷ []) [])) (sym yes) (offered_itself env f)
  bound_offers q i n env (Some v) s e f None w =
      offered_itself (with_name env i false n) (named_more env i false n f (subst (λ o. binding_fits store alike below sorts values false o n) (sym s) e))

  pub sorted_offers : (fs : List Generator) (ts : List Test) (ns : List ℕ) (ac : Bool) (ss os : List Sort) (env : Bindings) → fits env → os ≡ map (put_sort sorts) ss
      → ((ks : List ℕ) (en : Bindings) → test_each ts ks ≡ true → fits en → offers (each fs ks en))
      → (test_each ts ns || (ac && test_each ts (turn ns))) ≡ true → offers (sorted_then fs ns ac env (match_sorts ss os env.sorts))
  sorted_offers fs ts ns ac ss os env f e h t =
      let found = each_found sorts ss (all_always _ (sorts_found sorts) ss) env.sorts f.sorted in
      let next : fits (with_sorts env found.bindings) = record { sorted = found.right; named_ones = f.named_ones } in
      let here : match_sorts ss os env.sorts ≡ Some found.bindings = ap (λ z. match_sorts ss z env.sorts) e ∙ found.here in
      subst (λ o. offers (sorted_then fs ns ac env o)) (sym here) (elim (or_cases (test_each ts ns) (ac && test_each ts (turn ns)) t) as (λ _. offers (sorted_then fs ns ac env (Some found.bindings))) [
        | inl y ↦ offered_left (each fs ns (with_sorts env found.bindings)) (cond ac (each fs (turn ns) (with_sorts env found.bindings)) []) (h ns (with_sorts env found.bindings) y next)
        | inr z ↦
            let b = and_parts ac (test_each ts (turn ns)) z in
            offered_right (each fs ns (with_sorts env found.bindings)) (cond ac (each fs (turn ns) (with_sorts env found.bindings)) [])
            (subst (λ c. offers (cond c (each fs (turn ns) (with_sorts env found.bindings)) [])) (sym b.0) (h (turn ns) (with_sorts env found.bindings) b.1 next))
      ])

  pub same_sorts_are : (xs ys : List Sort) → same_sorts xs ys ≡ true → xs ≡ ys
  same_sorts_are xs ys = elim (Sorts_discrete xs ys) as (λ d. decided d ≡ true → xs ≡ ys) [ yes e ↦ λ _. e | no d ↦ λ t. cc t ]

  four : (a b c d : Bool) → a ≡ true → b ≡ true → c ≡ true → d ≡ true → (a && b && c && d) ≡ true
  four a b c d e f g h = λ i. e i && f i && g i && h i

  pub case_offers : (h : Head) (ss : List Sort) (fs : List Generator) (ts : List Test) (n m : ℕ) (env : Bindings) → fits env
      → ((ks : List ℕ) (en : Bindings) → test_each ts ks ≡ true → fits en → offers (each fs ks en))
      → (o : Option Node) → or_else (o >>= λ x. Some (nat_lt x.generation below && alike m n && node_test store alike below sorts values h ss ts x)) false ≡ true
      → offers (node_case store alike below h ss fs n env m o)
  case_offers h ss fs ts n m env f k None e = cc e
  case_offers h ss fs ts n m env f k (Some x) e =
      let a = and_parts (nat_lt x.generation below && alike m n) (node_test store alike below sorts values h ss ts x) e in
      let b = and_parts (nat_lt x.generation below) (alike m n) a.0 in
      let c = and_parts (not x.arithmetic && applies h x.head && same_sorts x.sorts (map (put_sort sorts) ss)) (test_each ts x.args || (is_ac store.signature h && test_each ts (turn x.args))) a.1 in
      let d = and_parts (not x.arithmetic && applies h x.head) (same_sorts x.sorts (map (put_sort sorts) ss)) c.0 in
      let g = and_parts (not x.arithmetic) (applies h x.head) d.0 in
      subst (λ t. offers (cond t (sorted_then fs x.args (is_ac store.signature h) env (match_sorts ss x.sorts env.sorts)) [])) (sym (four _ _ _ _ b.0 b.1 g.0 g.1))
      (sorted_offers fs ts x.args (is_ac store.signature h) ss x.sorts env f (same_sorts_are _ _ d.1) k c.1)

  pub nodes_offer : (h : Head) (ss : List Sort) (fs : List Generator) (ts : List Test) (n : ℕ) (env : Bindings) → fits env
      → ((ks : List ℕ) (en : Bindings) → test_each ts ks ≡ true → fits en → offers (each fs ks en))
      → list_any (known_node store alike below (node_test store alike below sorts values h ss ts) n) (numbers_below (length store.nodes)) ≡ true
      → offers (flat_map (at_node store alike below h ss fs n env) (numbers_below (length store.nodes)))
  nodes_offer h ss fs ts n env f k e =
      let r = any_in (known_node store alike below (node_test store alike below sorts values h ss ts) n) (numbers_below (length store.nodes)) e in
      let o = case_offers h ss fs ts n r.0 env f k (slice_get store.nodes r.0) r.2 in
      record { env = o.env; offered = in_flat (at_node store alike below h ss fs n env) (numbers_below (length store.nodes)) r.0 o.env r.1 o.offered; fits = o.fits }

  module _ (is_own : Term → Bool) where
    abbrev gen : Term → Generator
    gen = generate store alike below is_own

    abbrev tst : Term → Test
    tst = test store alike below sorts values is_own

    pub gen_bound : (i n : ℕ) (env : Bindings) → gen (Bound i) n env ≡ bind_loose store alike below i n env (name_found i env.names)
    unfolding generate
    gen_bound i n env = ap (λ f. f n env) (para_bound Generator (generate_step store alike below is_own) i)

    pub gen_apply : (h : Head) (ss : List Sort) (us : List Term) (n : ℕ) (env : Bindings)
        → gen (Apply h ss us) n env
        ≡ cond (is_own (Apply h ss us)) (all_own store alike below (Apply h ss us) n env) (flat_map (at_node store alike below h ss (map gen us) n env) (numbers_below (length store.nodes)))
    unfolding generate
    gen_apply h ss us n env =
        ap (λ f. f n env) (para_apply Generator (generate_step store alike below is_own) h ss us)
        ∙ (λ i. cond (is_own (Apply h ss (firsts gen us i))) (all_own store alike below (Apply h ss (firsts gen us i)) n env) (flat_map (at_node store alike below h ss (seconds gen us i) n env) (numbers_below (length store.nodes))))

    pub tst_bound : (i n : ℕ) → tst (Bound i) n ≡ (is_known store alike below sorts values n && variable_test store alike below sorts values i n)
    unfolding test
    tst_bound i n = ap (λ f. f n) (para_bound Test (test_step store alike below sorts values is_own) i)

    pub tst_apply : (h : Head) (ss : List Sort) (us : List Term) (n : ℕ)
        → tst (Apply h ss us) n
        ≡ application_test store alike below sorts values (is_own (Apply h ss us)) (Apply h ss us) h ss (map tst us) n
    unfolding test
    tst_apply h ss us n =
        ap (λ f. f n) (para_apply Test (test_step store alike below sorts values is_own) h ss us)
        ∙ (λ i. application_test store alike below sorts values (is_own (Apply h ss (firsts tst us i))) (Apply h ss (firsts tst us i)) h ss (seconds tst us i) n)

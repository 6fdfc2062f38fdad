-- What the generator offers binds each variable.
use Rattle.ae_base.proofs.Tests.{nat_eq_itself}
use Rattle.std.proofs.Common.{◌≡◌, ℕ, Bool, true, false, cond, not, ◌&&◌, List, [], ◌∷◌, ◌++◌, map, length, refl, sym, ap, ◌∙◌, subst, slice_get, Option, Some, None, ◌⊎◌, inl, inr, nat_eq, nat_lt}
use Rattle.std.specs.List.{AllByRecursion, flat_map, list_all}
use Rattle.std.proofs.lemmas.Bool.{cases_Bool, and_parts, and_from}
use Rattle.ae_core.specs.Inner.Induction.{by_terms}
use Rattle.ae_core.proofs.Recursion.{para_bound, para_num, para_fresh, para_apply, fold_num, fold_fresh}
use Rattle.ae_core.specs.declared.terms.Sort.{Sort}
use Rattle.ae_core.specs.declared.terms.Head.{Head}
use Rattle.ae_core.specs.declared.terms.Term.{Term, Bound, Num, Fresh, Apply}
use Rattle.ae_matching.specs.Views.{Store}
use Rattle.ae_matching.specs.Views.{Node}
use Rattle.ae_matching.specs.declared.sorts.SortBinding.{SortBinding}
use Rattle.ae_matching.specs.declared.bindings.NameBinding.{NameBinding}
use Rattle.ae_matching.specs.declared.bindings.Bindings.{Bindings}
use Rattle.ae_matching.specs.SortMatching.{match_sorts}
use Rattle.ae_matching.specs.Generating.{is_ac, applies, turn, name_found, exact_found, with_name, with_sorts, Generator, each, sorted_then, bind_exact}
use Rattle.ae_matching.specs.Generating.{own_node, own_step, own, bind_loose, known_node, node_case, at_node, own_at, all_own, generate_step, generate}
use Rattle.ae_journal.specs.Triggers.{numbers_below}
use Rattle.ae_matching.specs.Laws.{In}
use Rattle.ae_matching.specs.Stable.{all_pass, all_pass_step, own_pass, own_pass_step, has_name, has_exact, Grows, Covers}
use Rattle.ae_base.specs.Options.{known as is_some}
use Rattle.ae_matching.proofs.Complete.{seconds, gen_bound, gen_apply}
use Rattle.ae_matching.proofs.Stable.{pass_bound, pass_apply, own_pass_apply}

pub in_parts : {A : Type 0} (xs ys : List A) (y : A) → In (xs ++ ys) y → In xs y ⊎ In ys y
in_parts [] ys y h = inr h
in_parts (x ∷ xs) ys y (inl e) = inl (inl e)
in_parts (x ∷ xs) ys y (inr h) = elim (in_parts xs ys y h) as (λ _. In (x ∷ xs) y ⊎ In ys y) [ inl a ↦ inl (inr a) | inr b ↦ inr b ]

pub in_flat_back : {A B : Type 0} (f : A → List B) (xs : List A) (y : B) → In (flat_map f xs) y → (x : A) × In xs x × In (f x) y
in_flat_back f [] y h = elim h [ ]
in_flat_back f (x ∷ xs) y h = elim (in_parts (f x) (flat_map f xs) y h) as (λ _. (z : _) × In (x ∷ xs) z × In (f z) y) [
  | inl a ↦ (x, inl refl, a)
  | inr b ↦ let r = in_flat_back f xs y b in (r.0, inr r.1, r.2)
]

pub in_cond : {A : Type 0} (b : Bool) (xs : List A) (y : A) → In (cond b xs []) y → In xs y
in_cond true xs y h = h
in_cond false xs y h = elim h [ ]

pub in_one : {A : Type 0} (x y : A) → In (x ∷ []) y → x ≡ y
in_one x y (inl e) = e
in_one x y (inr h) = elim h [ ]

-- ---- bindings put behind others
name_kept : (i : ℕ) (bs : List NameBinding) (b : NameBinding) → is_some (name_found i bs) ≡ true → is_some (name_found i (bs ++ b ∷ [])) ≡ true
name_kept i [] b e = cc e
name_kept i (c ∷ bs) b e = elim (cases_Bool (nat_eq c.variable i)) as (λ _. is_some (name_found i (c ∷ bs ++ b ∷ [])) ≡ true) [
  | inl y ↦ ap (λ t. is_some (cond t (Some c.name) (name_found i (bs ++ b ∷ [])))) y
  | inr n ↦ ap (λ t. is_some (cond t (Some c.name) (name_found i (bs ++ b ∷ [])))) n ∙ name_kept i bs b (sym (ap (λ t. is_some (cond t (Some c.name) (name_found i bs))) n) ∙ e)
]

exact_kept : (i : ℕ) (bs : List NameBinding) (b : NameBinding) → is_some (exact_found i bs) ≡ true → is_some (exact_found i (bs ++ b ∷ [])) ≡ true
exact_kept i [] b e = cc e
exact_kept i (c ∷ bs) b e = elim (cases_Bool (nat_eq c.variable i && c.exact)) as (λ _. is_some (exact_found i (c ∷ bs ++ b ∷ [])) ≡ true) [
  | inl y ↦ ap (λ t. is_some (cond t (Some c.name) (exact_found i (bs ++ b ∷ [])))) y
  | inr n ↦ ap (λ t. is_some (cond t (Some c.name) (exact_found i (bs ++ b ∷ [])))) n ∙ exact_kept i bs b (sym (ap (λ t. is_some (cond t (Some c.name) (exact_found i bs))) n) ∙ e)
]

name_new : (i n : ℕ) (exact : Bool) (bs : List NameBinding) → is_some (name_found i (bs ++ record { variable = i; name = n; exact = exact } ∷ [])) ≡ true
name_new i n exact [] = ap (λ t. is_some (cond t (Some n) None)) (nat_eq_itself i)
name_new i n exact (c ∷ bs) = elim (cases_Bool (nat_eq c.variable i)) as (λ _. is_some (name_found i (c ∷ bs ++ record { variable = i; name = n; exact = exact } ∷ [])) ≡ true) [
  | inl y ↦ ap (λ t. is_some (cond t (Some c.name) (name_found i (bs ++ record { variable = i; name = n; exact = exact } ∷ [])))) y
  | inr m ↦ ap (λ t. is_some (cond t (Some c.name) (name_found i (bs ++ record { variable = i; name = n; exact = exact } ∷ [])))) m ∙ name_new i n exact bs
]

exact_new : (i n : ℕ) (bs : List NameBinding) → is_some (exact_found i (bs ++ record { variable = i; name = n; exact = true } ∷ [])) ≡ true
exact_new i n [] = ap (λ t. is_some (cond (t && true) (Some n) None)) (nat_eq_itself i)
exact_new i n (c ∷ bs) = elim (cases_Bool (nat_eq c.variable i && c.exact)) as (λ _. is_some (exact_found i (c ∷ bs ++ record { variable = i; name = n; exact = true } ∷ [])) ≡ true) [
  | inl y ↦ ap (λ t. is_some (cond t (Some c.name) (exact_found i (bs ++ record { variable = i; name = n; exact = true } ∷ [])))) y
  | inr m ↦ ap (λ t. is_some (cond t (Some c.name) (exact_found i (bs ++ record { variable = i; name = n; exact = true } ∷ [])))) m ∙ exact_new i n bs
]

-- what has a name of its own has a name
exact_named : (i : ℕ) (bs : List NameBinding) → is_some (exact_found i bs) ≡ true → is_some (name_found i bs) ≡ true
exact_named i [] e = cc e
exact_named i (c ∷ bs) e = elim (cases_Bool (nat_eq c.variable i)) as (λ _. is_some (name_found i (c ∷ bs)) ≡ true) [
  | inl y ↦ ap (λ t. is_some (cond t (Some c.name) (name_found i bs))) y
  | inr n ↦ ap (λ t. is_some (cond t (Some c.name) (name_found i bs))) n ∙ exact_named i bs (sym (ap (λ t. is_some (cond (t && c.exact) (Some c.name) (exact_found i bs))) n) ∙ e)
]

pub stays : (env : Bindings) → Grows env env
stays env = record { names = λ i e. e; exact = λ i e. e }

pub further : (a b c : Bindings) → Grows a b → Grows b c → Grows a c
further a b c g h = record { names = λ i e. h.names i (g.names i e); exact = λ i e. h.exact i (g.exact i e) }

grown : (env : Bindings) (i n : ℕ) (exact : Bool) → Grows env (with_name env i exact n)
grown env i n exact =
    record { names = λ j e. name_kept j env.names (record { variable = i; name = n; exact = exact }) e; exact = λ j e. exact_kept j env.names (record { variable = i; name = n; exact = exact }) e }

resorted : (env new : Bindings) (bs : List SortBinding) → Grows (with_sorts env bs) new → Grows env new
resorted env new bs g = record { names = g.names; exact = g.exact }

-- ---- more variables pass
module _ (f g : ℕ → Bool) (more : (i : ℕ) → f i ≡ true → g i ≡ true) where
  abbrev Passes : Term → Type 0
  Passes p = all_pass f p ≡ true → all_pass g p ≡ true

  each_passes : (us : List Term) → AllByRecursion Passes us → list_all (all_pass f) us ≡ true → list_all (all_pass g) us ≡ true
  each_passes [] all e = refl
  each_passes (u ∷ us) all e = let p = and_parts (all_pass f u) (list_all (all_pass f) us) e in and_from _ _ (all.0 p.0) (each_passes us all.1 p.1)

  pass_num : (a b : _) (r : Bool) → all_pass g (Num a b r) ≡ true
  unfolding all_pass
  pass_num a b r = fold_num Bool (all_pass_step g) a b r

  pass_fresh : (k : ℕ) (s : Sort) → all_pass g (Fresh k s) ≡ true
  unfolding all_pass
  pass_fresh k s = fold_fresh Bool (all_pass_step g) k s

  pub passes : (p : Term) → Passes p
  passes =
      by_terms Passes (λ i e. pass_bound g i ∙ more i (sym (pass_bound f i) ∙ e)) (λ a b r e. pass_num a b r) (λ k s e. pass_fresh k s)
      (λ h ss us all e. pass_apply g h ss us ∙ each_passes us all (sym (pass_apply f h ss us) ∙ e))

  module _ (is_own : Term → Bool) where
    abbrev OwnPasses : Term → Type 0
    OwnPasses p = own_pass is_own f p ≡ true → own_pass is_own g p ≡ true

    each_own_passes : (us : List Term) → AllByRecursion OwnPasses us → list_all (own_pass is_own f) us ≡ true → list_all (own_pass is_own g) us ≡ true
    each_own_passes [] all e = refl
    each_own_passes (u ∷ us) all e = let p = and_parts (own_pass is_own f u) (list_all (own_pass is_own f) us) e in and_from _ _ (all.0 p.0) (each_own_passes us all.1 p.1)

    own_bound : (i : ℕ) → own_pass is_own g (Bound i) ≡ true
    unfolding own_pass
    own_bound i = para_bound Bool (own_pass_step is_own g) i

    own_num : (a b : _) (r : Bool) → own_pass is_own g (Num a b r) ≡ true
    unfolding own_pass
    own_num a b r = para_num Bool (own_pass_step is_own g) a b r

    own_fresh : (k : ℕ) (s : Sort) → own_pass is_own g (Fresh k s) ≡ true
    unfolding own_pass
    own_fresh k s = para_fresh Bool (own_pass_step is_own g) k s

    own_apply : (h : Head) (ss : List Sort) (us : List Term) → AllByRecursion OwnPasses us → OwnPasses (Apply h ss us)
    own_apply h ss us all e = own_pass_apply is_own g h ss us ∙ go (is_own (Apply h ss us)) (sym (own_pass_apply is_own f h ss us) ∙ e)
      where
        go : (b : Bool) → cond b (all_pass f (Apply h ss us)) (list_all (own_pass is_own f) us) ≡ true → cond b (all_pass g (Apply h ss us)) (list_all (own_pass is_own g) us) ≡ true
        go true e = passes (Apply h ss us) e
        go false e = each_own_passes us all e

    pub own_passes : (p : Term) → OwnPasses p
    own_passes = by_terms OwnPasses (λ i e. own_bound i) (λ a b r e. own_num a b r) (λ k s e. own_fresh k s) own_apply

-- ---- lists of generators
from_sorted : (fs : List Generator) (ns : List ℕ) (ac : Bool) (env new : Bindings) (o : Option (List SortBinding)) → In (sorted_then fs ns ac env o) new → (ks : List ℕ) × (bs : List SortBinding) × In (each fs ks (with_sorts env bs)) new
from_sorted fs ns ac env new None h = elim h [ ]
from_sorted fs ns ac env new (Some bs) h = elim (in_parts (each fs ns (with_sorts env bs)) (cond ac (each fs (turn ns) (with_sorts env bs)) []) new h) as
    (λ _. (ks : List ℕ) × (bs : List SortBinding) × In (each fs ks (with_sorts env bs)) new) [
      | inl a ↦ (ns, bs, a)
      | inr b ↦ (turn ns, bs, in_cond ac (each fs (turn ns) (with_sorts env bs)) new b)
    ]

module _ (g : Term → Generator) (C : Term → Bindings → Type 0) (carried : (p : Term) (a b : Bindings) → Grows a b → C p a → C p b) where
  abbrev IsCovered : Term → Type 0
  IsCovered u = (n : ℕ) (env new : Bindings) → In (g u n env) new → Grows env new × C u new

  all_carried : (us : List Term) (a b : Bindings) → Grows a b → AllByRecursion (λ u. C u a) us → AllByRecursion (λ u. C u b) us
  all_carried [] a b h c = tt
  all_carried (u ∷ us) a b h c = (carried u a b h c.0, all_carried us a b h c.1)

  pub each_covered : (us : List Term) → AllByRecursion IsCovered us → (ns : List ℕ) (env new : Bindings) → In (each (map g us) ns env) new → Grows env new × AllByRecursion (λ u. C u new) us
  each_covered [] all [] env new h = (subst (λ e. Grows env e) (in_one env new h) (stays env), tt)
  each_covered [] all (n ∷ ns) env new h = elim h [ ]
  each_covered (u ∷ us) all [] env new h = elim h [ ]
  each_covered (u ∷ us) all (n ∷ ns) env new h =
      let r = in_flat_back (each (map g us) ns) (g u n env) new h in
      let first = all.0 n env r.0 r.1 in
      let rest = each_covered us all.1 ns r.0 new r.2 in
      (further env r.0 new first.0 rest.0, (carried u r.0 new rest.0 first.1, rest.1))

-- ---- a term that equals its own name alone
module _ (store : Store) where
  abbrev Exactly : Term → Bindings → Type 0
  Exactly p env = all_pass (has_exact env) p ≡ true

  pub exactly_carried : (p : Term) (a b : Bindings) → Grows a b → Exactly p a → Exactly p b
  exactly_carried p a b g e = passes (has_exact a) (has_exact b) g.exact p e

  abbrev OwnCovered : Term → Type 0
  OwnCovered = IsCovered (own store) Exactly exactly_carried

  list_exact : (us : List Term) (env : Bindings) → AllByRecursion (λ u. Exactly u env) us → list_all (all_pass (has_exact env)) us ≡ true
  list_exact [] env c = refl
  list_exact (u ∷ us) env c = and_from _ _ c.0 (list_exact us env c.1)

  exact_bound : (i : ℕ) → OwnCovered (Bound i)
  unfolding own
  exact_bound i n env new h = go (exact_found i env.names) refl (subst (λ l. In l new) (ap (λ f. f n env) (para_bound Generator (own_step store) i)) h)
    where
      go : (o : Option ℕ) → exact_found i env.names ≡ o → In (bind_exact i n env o) new → Grows env new × Exactly (Bound i) new
      go (Some m) s h =
          let e = in_one env new (in_cond (nat_eq m n) (env ∷ []) new h) in
          (subst (λ x. Grows env x) e (stays env), pass_bound (has_exact new) i ∙ subst (λ x. has_exact x i ≡ true) e (ap is_some s))
      go None s h =
          let e = in_one (with_name env i true n) new h in
          (subst (λ x. Grows env x) e (grown env i n true), pass_bound (has_exact new) i ∙ subst (λ x. has_exact x i ≡ true) e (exact_new i n env.names))

  exact_num : (a b : _) (r : Bool) → OwnCovered (Num a b r)
  unfolding own
  exact_num a b r n env new h =
      let e = in_one env new (subst (λ l. In l new) (ap (λ f. f n env) (para_num Generator (own_step store) a b r)) h) in
      (subst (λ x. Grows env x) e (stays env), pass_num (has_exact new) (has_exact new) (λ i e. e) a b r)

  exact_fresh : (k : ℕ) (s : Sort) → OwnCovered (Fresh k s)
  unfolding own
  exact_fresh k s n env new h =
      let e = in_one env new (subst (λ l. In l new) (ap (λ f. f n env) (para_fresh Generator (own_step store) k s)) h) in
      (subst (λ x. Grows env x) e (stays env), pass_fresh (has_exact new) (has_exact new) (λ i e. e) k s)

  exact_apply : (h : Head) (ss : List Sort) (us : List Term) → AllByRecursion OwnCovered us → OwnCovered (Apply h ss us)
  unfolding own
  exact_apply h ss us all n env new k =
      go (slice_get store.nodes n)
      (subst (λ l. In l new) (ap (λ f. f n env) (para_apply Generator (own_step store) h ss us) ∙ ap (λ fs. own_node store h ss fs env (slice_get store.nodes n)) (seconds (own store) us)) k)
    where
      go : (o : Option Node) → In (own_node store h ss (map (own store) us) env o) new → Grows env new × Exactly (Apply h ss us) new
      go None k = elim k [ ]
      go (Some x) k =
          let r = from_sorted (map (own store) us) x.args false env new (match_sorts ss x.sorts env.sorts) (in_cond (applies h x.head) _ new k) in
          let c = each_covered (own store) Exactly exactly_carried us all r.0 (with_sorts env r.1) new r.2 in
          (resorted env new r.1 c.0, pass_apply (has_exact new) h ss us ∙ list_exact us new c.1)

  pub own_covers : (p : Term) → OwnCovered p
  own_covers = by_terms OwnCovered exact_bound exact_num exact_fresh exact_apply

-- ---- the other terms
module _ (store : Store) (alike : ℕ → ℕ → Bool) (below : ℕ) (is_own : Term → Bool) where
  abbrev gen : Term → Generator
  gen = generate store alike below is_own

  pub covers_carried : (p : Term) (a b : Bindings) → Grows a b → Covers is_own p a → Covers is_own p b
  covers_carried p a b g c = record { names = passes (has_name a) (has_name b) g.names p c.names; exact = own_passes (has_exact a) (has_exact b) g.exact is_own p c.exact }

  abbrev GenCovered : Term → Type 0
  GenCovered = IsCovered gen (Covers is_own) covers_carried

  yes_more : (f : ℕ → Bool) (i : ℕ) → f i ≡ true → f i ≡ true
  yes_more f i e = e

  gen_bound_covered : (i : ℕ) → GenCovered (Bound i)
  gen_bound_covered i n env new h = go (name_found i env.names) refl (subst (λ l. In l new) (gen_bound store alike below [] [] is_own i n env) h)
    where
      covered : has_name new i ≡ true → Covers is_own (Bound i) new
      covered e = record { names = pass_bound (has_name new) i ∙ e; exact = own_bound (has_exact new) (has_exact new) (yes_more (has_exact new)) is_own i }

      go : (o : Option ℕ) → name_found i env.names ≡ o → In (bind_loose store alike below i n env o) new → Grows env new × Covers is_own (Bound i) new
      go (Some m) s h =
          let e = in_one env new (in_cond (alike m n) (env ∷ []) new h) in
          (subst (λ x. Grows env x) e (stays env), covered (subst (λ x. has_name x i ≡ true) e (ap is_some s)))
      go None s h =
          let e = in_one (with_name env i false n) new h in
          (subst (λ x. Grows env x) e (grown env i n false), covered (subst (λ x. has_name x i ≡ true) e (name_new i n false env.names)))

  list_named : (us : List Term) (env : Bindings) → AllByRecursion (λ u. Covers is_own u env) us → list_all (all_pass (has_name env)) us ≡ true
  list_named [] env c = refl
  list_named (u ∷ us) env c = and_from _ _ c.0.names (list_named us env c.1)

  list_owned : (us : List Term) (env : Bindings) → AllByRecursion (λ u. Covers is_own u env) us → list_all (own_pass is_own (has_exact env)) us ≡ true
  list_owned [] env c = refl
  list_owned (u ∷ us) env c = and_from _ _ c.0.exact (list_owned us env c.1)

  gen_apply_covered : (h : Head) (ss : List Sort) (us : List Term) → AllByRecursion GenCovered us → GenCovered (Apply h ss us)
  gen_apply_covered h ss us all n env new k = go (is_own (Apply h ss us)) refl (subst (λ l. In l new) (gen_apply store alike below [] [] is_own h ss us n env) k)
    where
      at : (m : ℕ) (o : Option Node) → In (node_case store alike below h ss (map gen us) n env m o) new → (is_own (Apply h ss us) ≡ false) → Grows env new × Covers is_own (Apply h ss us) new
      at m None k b = elim k [ ]
      at m (Some x) k b =
          let r = from_sorted (map gen us) x.args (is_ac store.signature h) env new (match_sorts ss x.sorts env.sorts) (in_cond (nat_lt x.generation below && alike m n && not x.arithmetic && applies h x.head) _ new k) in
          let c = each_covered gen (Covers is_own) covers_carried us all r.0 (with_sorts env r.1) new r.2 in (
            resorted env new r.1 c.0,
            record {
              names = pass_apply (has_name new) h ss us ∙ list_named us new c.1;
              exact =
                  own_pass_apply is_own (has_exact new) h ss us ∙ ap (λ t. cond t (all_pass (has_exact new) (Apply h ss us)) (list_all (own_pass is_own (has_exact new)) us)) b
                  ∙ list_owned us new c.1;
            },
          )

      go : (b : Bool) → is_own (Apply h ss us) ≡ b → In (cond b (all_own store alike below (Apply h ss us) n env) (flat_map (at_node store alike below h ss (map gen us) n env) (numbers_below (length store.nodes)))) new
          → Grows env new × Covers is_own (Apply h ss us) new
      go true b k =
          let r = in_flat_back (own_at store alike below (Apply h ss us) n env) (numbers_below (length store.nodes)) new k in
          let c = own_covers store (Apply h ss us) r.0 env new (in_cond (known_node store alike below (λ x. true) n r.0) (own store (Apply h ss us) r.0 env) new r.2) in (
            c.0,
            record {
              names = passes (has_exact new) (has_name new) (λ i e. exact_named i new.names e) (Apply h ss us) c.1;
              exact = own_pass_apply is_own (has_exact new) h ss us ∙ ap (λ t. cond t (all_pass (has_exact new) (Apply h ss us)) (list_all (own_pass is_own (has_exact new)) us)) b ∙ c.1;
            },
          )
      go false b k =
          let r = in_flat_back (at_node store alike below h ss (map gen us) n env) (numbers_below (length store.nodes)) new k in
          at r.0 (slice_get store.nodes r.0) r.2 b

  gen_num_covered : (a b : _) (r : Bool) → GenCovered (Num a b r)
  unfolding generate
  gen_num_covered a b r n env new h =
      let e = in_one env new (subst (λ l. In l new) (ap (λ f. f n env) (para_num Generator (generate_step store alike below is_own) a b r)) h) in
      (subst (λ x. Grows env x) e (stays env), record { names = pass_num (has_name new) (has_name new) (yes_more (has_name new)) a b r; exact = own_num (has_exact new) (has_exact new) (yes_more (has_exact new)) is_own a b r })

  gen_fresh_covered : (k : ℕ) (s : Sort) → GenCovered (Fresh k s)
  unfolding generate
  gen_fresh_covered k s n env new h =
      let e = in_one env new (subst (λ l. In l new) (ap (λ f. f n env) (para_fresh Generator (generate_step store alike below is_own) k s)) h) in
      (subst (λ x. Grows env x) e (stays env), record { names = pass_fresh (has_name new) (has_name new) (yes_more (has_name new)) k s; exact = own_fresh (has_exact new) (has_exact new) (yes_more (has_exact new)) is_own k s })

  pub gen_covers : (p : Term) (n : ℕ) (env new : Bindings) → In (generate store alike below is_own p n env) new → Grows env new × Covers is_own p new
  gen_covers = by_terms GenCovered gen_bound_covered gen_num_covered gen_fresh_covered gen_apply_covered

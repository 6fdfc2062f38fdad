-- Each match is found, up to names that are the same.
use Rattle.ae_base.proofs.ListFacts.{get_seam, get_before}
use Rattle.std.proofs.Common.{◌≡◌, ◌≢◌, ℕ, zero, suc, ◌<◌, arith, Bool, true, false, cond, ◌&&◌, ◌||◌, List, [], ◌∷◌, ◌++◌, map, length, reverse, refl, sym, ap, ◌∙◌, subst, slice_get, Option, Some, None, inl, inr, nat_eq, length-append}
use Rattle.std.specs.List.{AllByRecursion, list_any, list_all}
use Rattle.std.specs.Option.{option_map}
use Rattle.std.proofs.lemmas.Option.{slice_get-map, slice_get_within, same_Some}
use Rattle.std.proofs.lemmas.List.{reverse-reverse, length-reverse, length-map}
use Rattle.std.proofs.lemmas.Bool.{cases_Bool, eqb-true, eq-eqb, and_parts}
use Rattle.ae_base.specs.Options.{or_else}
use Rattle.ae_core.specs.Inner.Induction.{by_terms}
use Rattle.ae_core.specs.Signatures.{has_variable, has_variable_step}
use Rattle.ae_core.proofs.Recursion.{fold_bound, fold_num, fold_fresh, fold_apply}
use Rattle.ae_core.specs.declared.terms.Sort.{Sort}
use Rattle.ae_core.specs.declared.terms.Head.{Head}
use Rattle.ae_core.specs.declared.terms.Term.{Term, Bound, Num, Fresh, Apply}
use Rattle.ae_matching.specs.Views.{Store}
use Rattle.ae_matching.specs.declared.bindings.NameBinding.{NameBinding}
use Rattle.ae_matching.specs.declared.bindings.Bindings.{Bindings}
use Rattle.ae_matching.specs.Generating.{name_found, exact_found, generate}
use Rattle.ae_journal.specs.Triggers.{numbers_below}
use Rattle.ae_matching.specs.Testing.{Fits, IsNameOf, binding_fits}
use Rattle.ae_matching.specs.Laws.{In, Offers, IsSoundStore, IsEquivalence, AreWithin}
use Rattle.ae_matching.specs.Stable.{AreClose, all_pass, has_name, has_exact, Grows, Covers}
use Rattle.ae_base.specs.Options.{known as is_some}
use Rattle.ae_matching.specs.Triggers.{at_names, chain, choose, picked, empty, AreEqual, IsFound}
use Rattle.ae_matching.proofs.Complete.{in_flat, name_right}
use Rattle.ae_matching.proofs.Offers.{gen_offers}
use Rattle.ae_matching.proofs.Stable.{test_stable, pass_bound, pass_apply}
use Rattle.ae_matching.proofs.Covers.{in_flat_back, in_one, gen_covers, covers_carried, stays, further}

-- ---- numbers
length_below : (n : ℕ) → length (numbers_below n) ≡ n
length_below zero = refl
length_below (suc n) = omega (arith, length-append (numbers_below n) (n ∷ []), length_below n)

at_number : (n i : ℕ) → i < n → slice_get (numbers_below n) i ≡ Some i
at_number zero i h = absurd (omega (arith, h))
at_number (suc n) i h = elim (cases_Bool (nat_eq i n)) as (λ _. slice_get (numbers_below n ++ n ∷ []) i ≡ Some i) [
  | inl y ↦
      let e = eqb-true i n y in
      ap (slice_get (numbers_below n ++ n ∷ [])) (e ∙ sym (length_below n)) ∙ get_seam (numbers_below n) [] n ∙ ap Some (sym e)
  | inr m ↦ let l : i < n = omega (arith, h, other i n m) in get_before (numbers_below n) (n ∷ []) i (subst (λ k. i < k) (sym (length_below n)) l) ∙ at_number n i l
]
  where
    other : (i n : ℕ) → nat_eq i n ≡ false → i ≢ n
    other i n f e = let t = sym f ∙ eq-eqb i n e in cc t

pub at_picked : (vars : ℕ) (env : Bindings) (i : ℕ) → i < vars → slice_get (reverse (picked vars env)) i ≡ Some (choose env i)
at_picked vars env i h =
    ap (λ l. slice_get l i) (reverse-reverse (map (choose env) (numbers_below vars))) ∙ slice_get-map (choose env) (numbers_below vars) i ∙ ap (option_map (choose env)) (at_number vars i h)

as_many : (vars : ℕ) (env : Bindings) → length (picked vars env) ≡ vars
as_many vars env = length-reverse (map (choose env) (numbers_below vars)) ∙ length-map (numbers_below vars) (choose env) ∙ length_below vars

-- ---- a variable of a term passes where all do
module _ (ex : ℕ → Bool) (i : ℕ) where
  abbrev Passing : Term → Type 0
  Passing p = all_pass ex p ≡ true → has_variable i p ≡ true → ex i ≡ true

  var_bound : (j : ℕ) → has_variable i (Bound j) ≡ nat_eq i j
  unfolding has_variable
  var_bound j = fold_bound Bool (has_variable_step i) j

  var_num : (a b : _) (r : Bool) → has_variable i (Num a b r) ≡ false
  unfolding has_variable
  var_num a b r = fold_num Bool (has_variable_step i) a b r

  var_fresh : (k : ℕ) (s : Sort) → has_variable i (Fresh k s) ≡ false
  unfolding has_variable
  var_fresh k s = fold_fresh Bool (has_variable_step i) k s

  any_map : (f : Term → Bool) (us : List Term) → list_any (λ b. b) (map f us) ≡ list_any f us
  any_map f [] = refl
  any_map f (u ∷ us) = ap (λ b. f u || b) (any_map f us)

  var_apply : (h : Head) (ss : List Sort) (us : List Term) → has_variable i (Apply h ss us) ≡ list_any (has_variable i) us
  unfolding has_variable
  var_apply h ss us = fold_apply Bool (has_variable_step i) h ss us ∙ any_map (has_variable i) us

  each_passing : (us : List Term) → AllByRecursion Passing us → list_all (all_pass ex) us ≡ true → list_any (has_variable i) us ≡ true → ex i ≡ true
  each_passing [] all a e = cc e
  each_passing (u ∷ us) all a e =
      let p = and_parts (all_pass ex u) (list_all (all_pass ex) us) a in
      elim (cases_Bool (has_variable i u)) as (λ _. ex i ≡ true) [
        | inl y ↦ all.0 p.0 y
        | inr n ↦ each_passing us all.1 p.1 (sym (ap (λ b. b || list_any (has_variable i) us) n) ∙ e)
      ]

  pub passing : (p : Term) → Passing p
  passing =
      by_terms Passing (λ j a e. ap ex (eqb-true i j (sym (var_bound j) ∙ e)) ∙ sym (pass_bound ex j) ∙ a) (λ a b r c e. let f = sym (var_num a b r) ∙ e in cc f)
      (λ k s c e. let f = sym (var_fresh k s) ∙ e in cc f) (λ h ss us all a e. each_passing us all (sym (pass_apply ex h ss us) ∙ a) (sym (var_apply h ss us) ∙ e))

module _ (store : Store) (alike : ℕ → ℕ → Bool) (below : ℕ) (sorts : List Sort) (values : List ℕ) (is_own : Term → Bool) (sound : IsSoundStore store) (q : IsEquivalence alike) (within : AreWithin store values) where
  abbrev fits : Bindings → Type 0
  fits = Fits store alike below sorts values

  -- ---- the chain offers bindings, and they cover each term
  chain_offers : (ps : List Term) → AreEqual store alike below sorts values is_own ps → (env : Bindings) → fits env → Offers store alike below sorts values (chain store alike below is_own ps env)
  chain_offers [] all env f = record { env = env; offered = inl refl; fits = f }
  chain_offers (p ∷ ps) all env f =
      let first = gen_offers store alike below sorts values is_own sound q within p all.0.0 env all.0.2 f in
      let here = in_flat (λ n. generate store alike below is_own p n env) (numbers_below (length store.nodes)) all.0.0 first.env all.0.1 first.offered in
      let rest = chain_offers ps all.1 first.env first.fits in
      record { env = rest.env; offered = in_flat (chain store alike below is_own ps) (at_names store alike below is_own p env) first.env rest.env here rest.offered; fits = rest.fits }

  chain_covers : (ps : List Term) (env new : Bindings) → In (chain store alike below is_own ps env) new → Grows env new × AllByRecursion (λ p. Covers is_own p new) ps
  chain_covers [] env new h = (subst (λ e. Grows env e) (in_one env new h) (stays env), tt)
  chain_covers (p ∷ ps) env new h =
      let r = in_flat_back (chain store alike below is_own ps) (at_names store alike below is_own p env) new h in
      let s = in_flat_back (λ n. generate store alike below is_own p n env) (numbers_below (length store.nodes)) r.0 r.1 in
      let first = gen_covers store alike below is_own p s.0 env r.0 s.2 in
      let rest = chain_covers ps r.0 new r.2 in
      (further env r.0 new first.0 rest.0, (covers_carried store alike below is_own p r.0 new rest.0 first.1, rest.1))

  -- each variable of the terms has a name
  pub named_all : (env : Bindings) (i : ℕ) (ps : List Term) → AllByRecursion (λ p. Covers is_own p env) ps → list_any (has_variable i) ps ≡ true → has_name env i ≡ true
  named_all env i [] c e = cc e
  named_all env i (p ∷ ps) c e = elim (cases_Bool (has_variable i p)) as (λ _. has_name env i ≡ true) [
    | inl y ↦ passing (has_name env) i p c.0.names y
    | inr n ↦ named_all env i ps c.1 (sym (ap (λ b. b || list_any (has_variable i) ps) n) ∙ e)
  ]

  exact_value : (i m : ℕ) (bs : List NameBinding) → AllByRecursion (IsNameOf store alike below sorts values) bs → exact_found i bs ≡ Some m → slice_get (reverse values) i ≡ Some m
  exact_value i m [] a e = cc e
  exact_value i m (b ∷ bs) a e = elim (cases_Bool (nat_eq b.variable i && b.exact)) as (λ _. slice_get (reverse values) i ≡ Some m) [
    | inl y ↦
        let parts = and_parts (nat_eq b.variable i) b.exact y in
        let here : Some b.name ≡ Some m = sym (ap (λ c. cond c (Some b.name) (exact_found i bs)) y) ∙ e in
        let there : b.name ≡ m = cc here in
        let f : binding_fits store alike below sorts values true (slice_get (reverse values) i) m =
        subst (λ k. binding_fits store alike below sorts values true (slice_get (reverse values) i) k) there
        (subst (λ x. binding_fits store alike below sorts values x (slice_get (reverse values) i) b.name) parts.1
        (subst (λ j. binding_fits store alike below sorts values b.exact (slice_get (reverse values) j) b.name) (eqb-true b.variable i parts.0) a.0)) in
        go (slice_get (reverse values) i) f
    | inr n ↦ exact_value i m bs a.1 (sym (ap (λ c. cond c (Some b.name) (exact_found i bs)) n) ∙ e)
  ]
    where
      go : (o : Option ℕ) → binding_fits store alike below sorts values true o m → o ≡ Some m
      go None f = elim f [ ]
      go (Some v) f = ap Some f

  within_values : (i v : ℕ) → slice_get (reverse values) i ≡ Some v → i < length values
  within_values i v e = subst (λ k. i < k) (length-reverse values) (slice_get_within (reverse values) i v e)

  pub close_by : (env : Bindings) → fits env → ((i : ℕ) → i < length values → has_name env i ≡ true) → AreClose alike (has_exact env) values (picked (length values) env)
  close_by env f named = record {
    as_many = as_many (length values) env;
    other = λ i v e. (choose env i, at_picked (length values) env i (within_values i v e), near i v e (exact_found i env.names) refl (name_found i env.names) refl);
    exact = λ i e. own i (exact_found i env.names) refl e;
  }
    where
      near : (i v : ℕ) → slice_get (reverse values) i ≡ Some v → (o : Option ℕ) → exact_found i env.names ≡ o → (p : Option ℕ) → name_found i env.names ≡ p → alike (or_else o (or_else p 0)) v ≡ true
      near i v e (Some m) x p y = subst (λ k. alike k v ≡ true) (same_Some v m (sym e ∙ exact_value i m env.names f.named_ones x)) (q.reflexive v)
      near i v e None x (Some m) y = q.symmetric v m (name_right store alike below sorts values q i v m env.names f.named_ones e y)
      near i v e None x None y = let z = sym (ap is_some y) ∙ named i (within_values i v e) in cc z

      own : (i : ℕ) (o : Option ℕ) → exact_found i env.names ≡ o → is_some o ≡ true → slice_get (reverse (picked (length values) env)) i ≡ slice_get (reverse values) i
      own i None x e = cc e
      own i (Some m) x e =
          let s = exact_value i m env.names f.named_ones x in
          at_picked (length values) env i (within_values i m s) ∙ ap (λ o. Some (or_else o (or_else (name_found i env.names) 0))) x ∙ sym s

  pub still : (env : Bindings) → AreClose alike (has_exact env) values (picked (length values) env) → (ps : List Term) → AllByRecursion (λ p. Covers is_own p env) ps → AreEqual store alike below sorts values is_own ps
      → AreEqual store alike below sorts (picked (length values) env) is_own ps
  still env c [] v t = tt
  still env c (p ∷ ps) v t =
      ((t.0.0, t.0.1, test_stable store alike below sorts values (picked (length values) env) is_own (has_exact env) q c p t.0.0 v.0.exact t.0.2), still env c ps v.1 t.1)

  pub each_found : (ps : List Term) → ((i : ℕ) → i < length values → list_any (has_variable i) ps ≡ true) → AreEqual store alike below sorts values is_own ps → IsFound store alike below sorts values is_own ps
  each_found ps occur tested =
      let o = chain_offers ps tested empty (record { sorted = tt; named_ones = tt }) in
      let c = chain_covers ps empty o.env o.offered in
      let close = close_by o.env o.fits (λ i h. named_all o.env i ps c.1 (occur i h)) in
      record { env = o.env; offered = o.offered; fits = o.fits; close = close; equal = still o.env close ps c.1 tested }

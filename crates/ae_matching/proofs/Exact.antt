-- The test on names agrees with the definition of what a term of a trigger equals.
use Rattle.std.proofs.Common.{◌≡◌, ℕ, zero, suc, ◌<◌, arith, Bool, true, false, cond, not, ◌&&◌, ◌||◌, List, [], ◌∷◌, map, length, reverse, refl, sym, ap, ◌∙◌, subst, slice_get, Option, Some, None, ◌⊎◌, inl, inr, nat_lt, ◌↔◌}
use Rattle.std.specs.List.{AllByRecursion, list_any}
use Rattle.std.specs.Option.{option_map}
use Rattle.std.proofs.lemmas.Option.{slice_get-map, slice_get_within, none-some}
use Rattle.std.proofs.lemmas.Bool.{cases_Bool, ltb-true, ltb-false, and_parts, or_cases, not-true, not_from_false, or_left, or_right}
use Rattle.ae_base.specs.Decided.{decided}
use Rattle.ae_core.specs.Decided.{Term_discrete, Sorts_discrete, Head_discrete}
use Rattle.ae_base.specs.Options.{or_else, ◌>>=◌}
use Rattle.ae_core.specs.Sorts.{same_sorts}
use Rattle.ae_core.specs.Putting.{put_sort}
use Rattle.ae_core.specs.Putting.{instance_term, put_terms}
use Rattle.ae_core.specs.Inner.Induction.{by_terms}
use Rattle.ae_rules.specs.Matches.{Equals, EqualEach, is_arithmetic, is_arithmetic_layer, is_own, is_own_layer}
use Rattle.ae_rules.specs.Matches.Equals.{variable, application, turned, own as owned}
use Rattle.ae_rules.specs.Matches.EqualEach.{none, more}
use Rattle.ae_rules.specs.Lines.{IsAc}
use Rattle.ae_core.proofs.Recursion.{para_num, para_fresh}
use Rattle.ae_core.specs.declared.terms.Sort.{Sort}
use Rattle.ae_core.specs.declared.terms.Head.{Head}
use Rattle.ae_core.specs.declared.terms.Head.TheVariants as head
use Rattle.ae_core.specs.declared.terms.Op.TheVariants as op
use Rattle.ae_core.specs.declared.problems.Signature.{Signature}
use Rattle.ae_core.specs.declared.problems.Nature.{Nature}
use Rattle.ae_core.specs.declared.problems.Nature.TheVariants.{Free, Ac, Choice}
use Rattle.ae_core.specs.declared.problems.SymbolEntry.{SymbolEntry}
use Rattle.ae_core.specs.declared.terms.Term.{Term, Bound, Num, Fresh, Apply}
use Rattle.ae_core.specs.declared.terms.Term.TheVariants.{outs-Apply, outs-Num, outs-Fresh, outs-Bound}
use Rattle.ae_matching.specs.Views.{Store}
use Rattle.ae_matching.specs.Views.{Node}
use Rattle.ae_matching.specs.Generating.{is_ac, applies, turn, known_node}
use Rattle.ae_journal.specs.Triggers.{numbers_below}
use Rattle.ae_matching.specs.Testing.{named, Test, test_each, node_test, is_known_name, own_test, application_test, variable_test, test, test_step}
use Rattle.ae_matching.specs.Laws.{In, IsSoundStore, AreWithin, IsKnownTerm, AreSame}
use Rattle.ae_matching.proofs.Complete.{any_in, tst_bound, tst_apply, in_left, in_right, same_sorts_are}
use Rattle.ae_matching.proofs.Own.{reverse_map, same_head_yes}

-- ---- small things
pub any_from : {A : Type 0} (f : A → Bool) (xs : List A) (x : A) → In xs x → f x ≡ true → list_any f xs ≡ true
any_from f [] x h e = elim h [ ]
any_from f (y ∷ xs) x (inl p) e = ap (λ b. b || list_any f xs) (ap f p ∙ e)
any_from f (y ∷ xs) x (inr h) e = elim (cases_Bool (f y)) as (λ _. (f y || list_any f xs) ≡ true) [ inl t ↦ ap (λ b. b || list_any f xs) t | inr n ↦ ap (λ b. b || list_any f xs) n ∙ any_from f xs x h e ]

pub below_in : (k m : ℕ) → m < k → In (numbers_below k) m
below_in zero m h = absurd (omega (arith, h))
below_in (suc k) m h = elim (split k m h) as (λ _. In (numbers_below (suc k)) m) [
  | inl l ↦ in_left (numbers_below k) (k ∷ []) m (below_in k m l)
  | inr e ↦ in_right (numbers_below k) (k ∷ []) m (inl e)
]
  where
    split : (k m : ℕ) → m < suc k → (m < k) ⊎ (k ≡ m)
    split k m h = elim (cases_Bool (nat_lt m k)) as (λ _. (m < k) ⊎ (k ≡ m)) [ inl y ↦ inl (ltb-true m k y) | inr n ↦ inr (omega (arith, h, ltb-false m k n)) ]

same_term_are : (t u : Term) → decided (Term_discrete t u) ≡ true → t ≡ u
same_term_are t u = elim (Term_discrete t u) as (λ d. decided d ≡ true → t ≡ u) [ yes q ↦ λ _. q | no d ↦ λ e. cc e ]

same_term_yes : (t u : Term) → t ≡ u → decided (Term_discrete t u) ≡ true
same_term_yes t u e = elim (Term_discrete t u) as (λ d. decided d ≡ true) [ yes p ↦ refl | no n ↦ absurd (n e) ]

same_sorts_yes : (xs ys : List Sort) → xs ≡ ys → same_sorts xs ys ≡ true
same_sorts_yes a b e = elim (Sorts_discrete a b) as (λ d. decided d ≡ true) [ yes p ↦ refl | no n ↦ absurd (n e) ]

applies_are : (h : Head) (o : Option Head) → applies h o ≡ true → o ≡ Some h
applies_are h None e = cc e
applies_are h (Some k) e = ap Some (sym (go (Head_discrete h k) e))
  where
    go : (d : Dec (h ≡ k)) → decided d ≡ true → h ≡ k
    go (yes p) e = p
    go (no n) e = cc e

ac_is : (sig : Signature) (h : Head) → is_ac sig h ≡ true → IsAc sig h
ac_is sig (head.Symbol n) e = go (slice_get sig.symbols n) refl e
  where
    nature : (k : Nature) → elim k [ Ac ↦ true | Free ↦ false | Choice of place ↦ false ] ≡ true → k ≡ Ac
    nature Ac e = refl
    nature Free e = cc e
    nature (Choice of place) e = cc e

    go : (o : Option SymbolEntry) → slice_get sig.symbols n ≡ o → or_else (o >>= λ e. Some (elim e.nature [ Ac ↦ true | Free ↦ false | Choice of place ↦ false ])) false ≡ true → IsAc sig (head.Symbol n)
    go None s e = cc e
    go (Some x) s e = (x, s, nature x.nature e)
ac_is sig (head.Int op.Mul) e = tt
ac_is sig (head.Real op.Mul) e = tt
ac_is sig h e = cc e

ac_yes : (sig : Signature) (h : Head) → IsAc sig h → is_ac sig h ≡ true
ac_yes sig (head.Symbol n) a =
    ap (λ o. or_else (o >>= λ e. Some (elim e.nature [ Ac ↦ true | Free ↦ false | Choice of place ↦ false ])) false) a.1
    ∙ ap (λ k. elim k [ Ac ↦ true | Free ↦ false | Choice of place ↦ false ]) a.2
ac_yes sig (head.Int op.Mul) a = refl
ac_yes sig (head.Real op.Mul) a = refl
ac_yes sig h a = elim a [ ]

is_arithmetic_of : (h : Head) (ss : List Sort) (us : List Term) → is_own (Apply h ss us) ≡ is_arithmetic (Apply h ss us)
unfolding is_own is_arithmetic
is_arithmetic_of h ss us = ap is_own_layer (outs-Apply h ss us) ∙ ap is_arithmetic_layer (sym (outs-Apply h ss us))

own_num : (a b : _) (r : Bool) → is_own (Num a b r) ≡ true
unfolding is_own
own_num a b r = ap is_own_layer (outs-Num a b r)

own_fresh : (k : ℕ) (s : Sort) → is_own (Fresh k s) ≡ true
unfolding is_own
own_fresh k s = ap is_own_layer (outs-Fresh k s)

own_bound : (i : ℕ) → is_own (Bound i) ≡ true → ⊥
unfolding is_own
own_bound i e = let f = sym (ap is_own_layer (outs-Bound i)) ∙ e in cc f

module _ (store : Store) (alike : ℕ → ℕ → Bool) (below : ℕ) (sorts : List Sort) (values : List ℕ) (sound : IsSoundStore store) (within : AreWithin store values) where
  abbrev tst : Term → Test
  tst = test store alike below sorts values is_arithmetic

  abbrev names : List Term
  names = map (named store.terms) values

  abbrev made : Term → Term
  made p = put_terms 0 names (instance_term sorts p)

  abbrev is_known : Term → Type 0
  is_known = IsKnownTerm store below

  abbrev are_same : Term → Term → Type 0
  are_same = AreSame store alike

  abbrev equals : Term → Term → Type 0
  equals = Equals store.signature is_known are_same sorts names

  abbrev equal_each : List Term → List Term → Type 0
  equal_each = EqualEach store.signature is_known are_same sorts names

  -- ---- from the test
  name_term : (n : ℕ) (t : Term) → slice_get store.terms n ≡ Some t → named store.terms n ≡ t
  name_term n t e = ap (λ o. or_else o (Bound 0)) e

  variable_value : (i v : ℕ) → slice_get (reverse values) i ≡ Some v → slice_get (reverse names) i ≡ Some (named store.terms v)
  variable_value i v e = ap (λ l. slice_get l i) (reverse_map (named store.terms) values) ∙ slice_get-map (named store.terms) (reverse values) i ∙ ap (option_map (named store.terms)) e

  abbrev Says : Term → Type 0
  Says p = (n : ℕ) (u : Term) → slice_get store.terms n ≡ Some u → tst p n ≡ true → equals p u

  bound_says : (i : ℕ) → Says (Bound i)
  bound_says i n u at e =
      let parts = and_parts (is_known_name store below n) (variable_test store alike below sorts values i n) (sym (tst_bound store alike below sorts values is_arithmetic i n) ∙ e) in
      go (slice_get (reverse values) i) refl parts.0 parts.1
    where
      go : (o : Option ℕ) → slice_get (reverse values) i ≡ o → is_known_name store below n ≡ true → or_else (o >>= λ v. Some (alike v n)) false ≡ true → equals (Bound i) u
      go None s k e = cc e
      go (Some v) s k e =
          variable (variable_value i v s) (record { name = n; at = at; young = k }) (record { left = v; right = n; left_at = within.each i v s; right_at = at; alike_ones = e })

  each_says : (us : List Term) → AllByRecursion Says us → (ns : List ℕ) (ts : List Term) → map (slice_get store.terms) ns ≡ map Some ts → test_each (map tst us) ns ≡ true → equal_each us ts
  each_says [] all [] [] at e = none
  each_says [] all [] (t ∷ ts) at e = cc at
  each_says [] all (n ∷ ns) ts at e = cc e
  each_says (u ∷ us) all [] ts at e = cc e
  each_says (u ∷ us) all (n ∷ ns) [] at e = cc at
  each_says (u ∷ us) all (n ∷ ns) (t ∷ ts) at e =
      let e1 : slice_get store.terms n ≡ Some t = cc at in
      let e2 : map (slice_get store.terms) ns ≡ map Some ts = cc at in
      let parts = and_parts (tst u n) (test_each (map tst us) ns) e in
      more (all.0 n t e1 parts.0) (each_says us all.1 ns ts e2 parts.1)

  -- either order
  orders_say : (h : Head) (ss : List Sort) (us : List Term) (u : Term) (ns : List ℕ) → AllByRecursion Says us → is_arithmetic (Apply h ss us) ≡ false
      → map (slice_get store.terms) ns ≡ map Some (map (named store.terms) ns)
      → is_known (Apply h (map (put_sort sorts) ss) (map (named store.terms) ns)) → is_arithmetic (Apply h (map (put_sort sorts) ss) (map (named store.terms) ns)) ≡ false
      → is_known u → are_same (Apply h (map (put_sort sorts) ss) (map (named store.terms) ns)) u
      → (test_each (map tst us) ns || (is_ac store.signature h && test_each (map tst us) (turn ns))) ≡ true → equals (Apply h ss us) u
  orders_say h ss us u ns all a at k b l s e = elim (or_cases (test_each (map tst us) ns) _ e) as (λ _. equals (Apply h ss us) u) [
    | inl y ↦ application a (each_says us all ns (map (named store.terms) ns) at y) b (k, l, s)
    | inr z ↦ let parts = and_parts (is_ac store.signature h) (test_each (map tst us) (turn ns)) z in go us ns all a at k b s parts.0 parts.1
  ]
    where
      go : (us : List Term) (ns : List ℕ) → AllByRecursion Says us → is_arithmetic (Apply h ss us) ≡ false → map (slice_get store.terms) ns ≡ map Some (map (named store.terms) ns)
          → is_known (Apply h (map (put_sort sorts) ss) (map (named store.terms) ns)) → is_arithmetic (Apply h (map (put_sort sorts) ss) (map (named store.terms) ns)) ≡ false
          → are_same (Apply h (map (put_sort sorts) ss) (map (named store.terms) ns)) u
          → is_ac store.signature h ≡ true → test_each (map tst us) (turn ns) ≡ true → equals (Apply h ss us) u
      go us [] all a at k b s c e = application a (each_says us all [] [] at e) b (k, l, s)
      go us (x ∷ []) all a at k b s c e = application a (each_says us all (x ∷ []) (named store.terms x ∷ []) at e) b (k, l, s)
      go us (x ∷ y ∷ z ∷ ns) all a at k b s c e = application a (each_says us all (x ∷ y ∷ z ∷ ns) (map (named store.terms) (x ∷ y ∷ z ∷ ns)) at e) b (k, l, s)
      go [] (x ∷ y ∷ []) all a at k b s c e = cc e
      go (p ∷ []) (x ∷ y ∷ []) all a at k b s c e = let f = (and_parts (tst p y) false e).1 in cc f
      go (p ∷ q ∷ []) (x ∷ y ∷ []) all a at k b s c e =
          let one = and_parts (tst p y) (tst q x && true) e in
          let two = and_parts (tst q x) true one.1 in
          let e1 : slice_get store.terms x ≡ Some (named store.terms x) = cc at in
          let e2 : slice_get store.terms y ≡ Some (named store.terms y) = cc at in
          turned (ac_is store.signature h c) a (all.0 y (named store.terms y) e2 one.0) (all.1.0 x (named store.terms x) e1 two.0) b (k, l, s)
      go (p ∷ q ∷ r ∷ us) (x ∷ y ∷ []) all a at k b s c e =
          let one = and_parts (tst p y) (tst q x && false) e in
          let two = and_parts (tst q x) false one.1 in
          let f = two.1 in cc f

  node_says : (h : Head) (ss : List Sort) (us : List Term) (n m : ℕ) (u : Term) → AllByRecursion Says us → is_arithmetic (Apply h ss us) ≡ false → slice_get store.terms n ≡ Some u → is_known_name store below n ≡ true
      → (o : Option Node) → slice_get store.nodes m ≡ o → or_else (o >>= λ x. Some (nat_lt x.generation below && alike m n && node_test store alike below sorts values h ss (map tst us) x)) false ≡ true → equals (Apply h ss us) u
  node_says h ss us n m u all a at k None s e = cc e
  node_says h ss us n m u all a at k (Some x) s e =
      let p = and_parts (nat_lt x.generation below && alike m n) (node_test store alike below sorts values h ss (map tst us) x) e in
      let b = and_parts (nat_lt x.generation below) (alike m n) p.0 in
      let c = and_parts (not x.arithmetic && applies h x.head && same_sorts x.sorts (map (put_sort sorts) ss)) (test_each (map tst us) x.args || (is_ac store.signature h && test_each (map tst us) (turn x.args))) p.1 in
      let d = and_parts (not x.arithmetic && applies h x.head) (same_sorts x.sorts (map (put_sort sorts) ss)) c.0 in
      let g = and_parts (not x.arithmetic) (applies h x.head) d.0 in
      let its : slice_get store.terms m ≡ Some (Apply h (map (put_sort sorts) ss) (map (named store.terms) x.args)) =
      sound.terms m x h s (applies_are h x.head g.1) ∙ ap (λ w. Some (Apply h w (map (named store.terms) x.args))) (same_sorts_are store alike below sorts values x.sorts (map (put_sort sorts) ss) d.1) in
      let young : is_known_name store below m ≡ true = ap (λ o. or_else (o >>= λ y. Some (nat_lt y.generation below)) false) s ∙ b.0 in
      orders_say h ss us u x.args all a (sound.args m x s) (record { name = m; at = its; young = young }) (sym (sound.arithmetic m x _ s its) ∙ not-true x.arithmetic g.0) (record { name = n; at = at; young = k })
      (record { left = m; right = n; left_at = its; right_at = at; alike_ones = b.1 }) c.1

  own_says : (p : Term) (n : ℕ) (u : Term) → is_own p ≡ true → slice_get store.terms n ≡ Some u → is_known_name store below n ≡ true
      → list_any (own_test store alike below sorts values p n) (numbers_below (length store.nodes)) ≡ true → equals p u
  own_says p n u o at k e =
      let r = any_in (own_test store alike below sorts values p n) (numbers_below (length store.nodes)) e in
      go r.0 (slice_get store.nodes r.0) refl r.2
    where
      go : (m : ℕ) (x : Option Node) → slice_get store.nodes m ≡ x → or_else (x >>= λ x. Some (nat_lt x.generation below && alike m n && decided (Term_discrete (named store.terms m) (made p)))) false ≡ true → equals p u
      go m None s e = cc e
      go m (Some x) s e =
          let a = and_parts (nat_lt x.generation below && alike m n) (decided (Term_discrete (named store.terms m) (made p))) e in
          let b = and_parts (nat_lt x.generation below) (alike m n) a.0 in
          let its = term_at m (slice_get store.terms m) refl (λ z. none-some x (sym (sound.lengths m z) ∙ s)) (same_term_are (named store.terms m) (made p) a.1) in
          let young : is_known_name store below m ≡ true = ap (λ o. or_else (o >>= λ y. Some (nat_lt y.generation below)) false) s ∙ b.0 in
          owned o (record { name = m; at = its; young = young }, record { name = n; at = at; young = k }, record { left = m; right = n; left_at = its; right_at = at; alike_ones = b.1 })
        where
          term_at : (m : ℕ) (o : Option Term) → slice_get store.terms m ≡ o → (o ≡ None → ⊥) → named store.terms m ≡ made p → slice_get store.terms m ≡ Some (made p)
          term_at m None s k e = absurd (k refl)
          term_at m (Some t) s k e = s ∙ ap Some (sym (name_term m t s) ∙ e)

  apply_says : (h : Head) (ss : List Sort) (us : List Term) → AllByRecursion Says us → Says (Apply h ss us)
  apply_says h ss us all n u at e =
      let parts = and_parts (is_known_name store below n) _ (sym (tst_apply store alike below sorts values is_arithmetic h ss us n) ∙ e) in
      go (is_arithmetic (Apply h ss us)) refl parts.0 parts.1
    where
      go : (b : Bool) → is_arithmetic (Apply h ss us) ≡ b → is_known_name store below n ≡ true
          → list_any (cond b (own_test store alike below sorts values (Apply h ss us) n) (known_node store alike below (node_test store alike below sorts values h ss (map tst us)) n)) (numbers_below (length store.nodes)) ≡ true
          → equals (Apply h ss us) u
      go true a k e = own_says (Apply h ss us) n u (is_arithmetic_of h ss us ∙ a) at k e
      go false a k e =
          let r = any_in (known_node store alike below (node_test store alike below sorts values h ss (map tst us)) n) (numbers_below (length store.nodes)) e in
          node_says h ss us n r.0 u all a at k (slice_get store.nodes r.0) refl r.2

  tst_num : (a b : _) (r : Bool) (n : ℕ) → tst (Num a b r) n ≡ (is_known_name store below n && list_any (own_test store alike below sorts values (Num a b r) n) (numbers_below (length store.nodes)))
  unfolding test
  tst_num a b r n = ap (λ f. f n) (para_num Test (test_step store alike below sorts values is_arithmetic) a b r)

  tst_fresh : (k : ℕ) (s : Sort) (n : ℕ) → tst (Fresh k s) n ≡ (is_known_name store below n && list_any (own_test store alike below sorts values (Fresh k s) n) (numbers_below (length store.nodes)))
  unfolding test
  tst_fresh k s n = ap (λ f. f n) (para_fresh Test (test_step store alike below sorts values is_arithmetic) k s)

  num_says : (a b : _) (r : Bool) → Says (Num a b r)
  num_says a b r n u at e =
      let parts = and_parts (is_known_name store below n) _ (sym (tst_num a b r n) ∙ e) in
      own_says (Num a b r) n u (own_num a b r) at parts.0 parts.1

  fresh_says : (k : ℕ) (s : Sort) → Says (Fresh k s)
  fresh_says k s n u at e =
      let parts = and_parts (is_known_name store below n) _ (sym (tst_fresh k s n) ∙ e) in
      own_says (Fresh k s) n u (own_fresh k s) at parts.0 parts.1

  pub test_says : (p : Term) → Says p
  test_says = by_terms Says bound_says num_says fresh_says apply_says

  -- ---- to the test
  known_of : (n : ℕ) (u : Term) → slice_get store.terms n ≡ Some u → is_known u → is_known_name store below n ≡ true
  known_of n u at k = subst (λ m. is_known_name store below m ≡ true) (sound.one_name k.name n u k.at at) k.young

  -- the two names are the same, where their terms are
  alike_of : (m n : ℕ) (t u : Term) → slice_get store.terms m ≡ Some t → slice_get store.terms n ≡ Some u → are_same t u → alike m n ≡ true
  alike_of m n t u a b s = (λ i. alike (sound.one_name m s.left t a s.left_at i) (sound.one_name n s.right u b s.right_at i)) ∙ s.alike_ones

  young_node : (m : ℕ) (x : Node) → slice_get store.nodes m ≡ Some x → is_known_name store below m ≡ true → nat_lt x.generation below ≡ true
  young_node m x s k = sym (ap (λ o. or_else (o >>= λ y. Some (nat_lt y.generation below)) false) s) ∙ k

  -- a name passes where its node does
  passes : (f : Node → Bool) (n m : ℕ) (x : Node) → slice_get store.nodes m ≡ Some x → is_known_name store below m ≡ true → alike m n ≡ true → f x ≡ true → known_node store alike below f n m ≡ true
  passes f n m x s k a e =
      ap (λ o. or_else (o >>= λ x. Some (nat_lt x.generation below && alike m n && f x)) false) s ∙ (λ i. young_node m x s k i && a i && e i)

  passed : (f : ℕ → Bool) (m : ℕ) (x : Node) → slice_get store.nodes m ≡ Some x → f m ≡ true → list_any f (numbers_below (length store.nodes)) ≡ true
  passed f m x s e = any_from f (numbers_below (length store.nodes)) m (below_in (length store.nodes) m (slice_get_within store.nodes m x s)) e

  node_of : (m : ℕ) (t : Term) → slice_get store.terms m ≡ Some t → (k : is_known_name store below m ≡ true) → (x : Node) × (slice_get store.nodes m ≡ Some x)
  node_of m t at k = go (slice_get store.nodes m) refl k
    where
      go : (o : Option Node) → slice_get store.nodes m ≡ o → or_else (o >>= λ y. Some (nat_lt y.generation below)) false ≡ true → (x : Node) × (slice_get store.nodes m ≡ Some x)
      go None s e = cc e
      go (Some x) s e = (x, s)

  own_test_of : (p u : Term) (n : ℕ) → slice_get store.terms n ≡ Some u → is_known (made p) → are_same (made p) u → list_any (own_test store alike below sorts values p n) (numbers_below (length store.nodes)) ≡ true
  own_test_of p u n at k s =
      let x = node_of k.name (made p) k.at k.young in
      passed (own_test store alike below sorts values p n) k.name x.0 x.1
      (passes (λ x. decided (Term_discrete (named store.terms k.name) (made p))) n k.name x.0 x.1 k.young (alike_of k.name n (made p) u k.at at s) (same_term_yes (named store.terms k.name) (made p) (name_term k.name (made p) k.at)))

  -- an application's node passes where its arguments do, in one of the orders
  app_test_of : (h : Head) (ss : List Sort) (us vs : List Term) (u : Term) (n : ℕ) → slice_get store.terms n ≡ Some u → is_arithmetic (Apply h ss us) ≡ false
      → is_known (Apply h (map (put_sort sorts) ss) vs) → is_arithmetic (Apply h (map (put_sort sorts) ss) vs) ≡ false → is_known u → are_same (Apply h (map (put_sort sorts) ss) vs) u
      → ((ns : List ℕ) → map (slice_get store.terms) ns ≡ map Some vs → (test_each (map tst us) ns || (is_ac store.signature h && test_each (map tst us) (turn ns))) ≡ true)
      → tst (Apply h ss us) n ≡ true
  app_test_of h ss us vs u n at a k b l s each =
      let node = sound.nodes k.name h (map (put_sort sorts) ss) vs k.at in
      let x = node.node in
      let plain : not x.arithmetic ≡ true = not_from_false x.arithmetic (sound.arithmetic k.name x _ node.at k.at ∙ b) in
      let head : applies h x.head ≡ true = ap (applies h) node.head ∙ same_head_yes h h refl in
      let here : same_sorts x.sorts (map (put_sort sorts) ss) ≡ true = same_sorts_yes x.sorts (map (put_sort sorts) ss) node.sorts in
      let pass : node_test store alike below sorts values h ss (map tst us) x ≡ true = λ i. plain i && head i && here i && each x.args node.args i in
      tst_apply store alike below sorts values is_arithmetic h ss us n
      ∙ ap (λ c. application_test store alike below sorts values c (Apply h ss us) h ss (map tst us) n) a
      ∙ (λ i. known_of n u at l i
      && passed (known_node store alike below (node_test store alike below sorts values h ss (map tst us)) n) k.name x node.at
      (passes (node_test store alike below sorts values h ss (map tst us)) n k.name x node.at k.young (alike_of k.name n _ u k.at at s) pass) i)

  abbrev Whole : Term → Type 0
  Whole p = (u : Term) (n : ℕ) → is_own p ≡ true → slice_get store.terms n ≡ Some u → is_known (made p) → is_known u → are_same (made p) u → tst p n ≡ true

  whole_bound : (i : ℕ) → Whole (Bound i)
  whole_bound i u n o at k l s = absurd (own_bound i o)

  whole_num : (a b : _) (r : Bool) → Whole (Num a b r)
  whole_num a b r u n o at k l s = tst_num a b r n ∙ (λ i. known_of n u at l i && own_test_of (Num a b r) u n at k s i)

  whole_fresh : (j : ℕ) (t : Sort) → Whole (Fresh j t)
  whole_fresh j t u n o at k l s = tst_fresh j t n ∙ (λ i. known_of n u at l i && own_test_of (Fresh j t) u n at k s i)

  whole_apply : (h : Head) (ss : List Sort) (us : List Term) → AllByRecursion Whole us → Whole (Apply h ss us)
  whole_apply h ss us all u n o at k l s =
      tst_apply store alike below sorts values is_arithmetic h ss us n
      ∙ ap (λ c. application_test store alike below sorts values c (Apply h ss us) h ss (map tst us) n)
      (sym (is_arithmetic_of h ss us) ∙ o)
      ∙ (λ i. known_of n u at l i && own_test_of (Apply h ss us) u n at k s i)

  own_test_whole : (p u : Term) (n : ℕ) → is_own p ≡ true → slice_get store.terms n ≡ Some u → is_known (made p) → is_known u → are_same (made p) u → tst p n ≡ true
  own_test_whole p u n o at k l s = by_terms Whole whole_bound whole_num whole_fresh whole_apply p u n o at k l s

  variable_index : (i : ℕ) (t : Term) → slice_get (reverse names) i ≡ Some t → (v : ℕ) × (slice_get (reverse values) i ≡ Some v) × (slice_get store.terms v ≡ Some t)
  variable_index i t e = go (slice_get (reverse values) i) refl
    where
      go : (o : Option ℕ) → slice_get (reverse values) i ≡ o → (v : ℕ) × (slice_get (reverse values) i ≡ Some v) × (slice_get store.terms v ≡ Some t)
      go None s =
          absurd (none-some t (sym (ap (λ l. slice_get l i) (reverse_map (named store.terms) values) ∙ slice_get-map (named store.terms) (reverse values) i ∙ ap (option_map (named store.terms)) s) ∙ e))
      go (Some v) s = (v, s, within.each i v s ∙ (sym (variable_value i v s) ∙ e))

  bound_test : (i : ℕ) (v u : Term) (n : ℕ) → slice_get store.terms n ≡ Some u → slice_get (reverse names) i ≡ Some v → is_known u → are_same v u → tst (Bound i) n ≡ true
  bound_test i v u n at e k s =
      let w = variable_index i v e in
      tst_bound store alike below sorts values is_arithmetic i n
      ∙ (λ j. known_of n u at k j && (ap (λ o. or_else (o >>= λ v. Some (alike v n)) false) w.1 ∙ alike_of w.0 n v u w.2 at s) j)

  turned_tests : (h : Head) (p q a b : Term) → IsAc store.signature h → ((n : ℕ) → slice_get store.terms n ≡ Some b → tst p n ≡ true) → ((n : ℕ) → slice_get store.terms n ≡ Some a → tst q n ≡ true)
      → (ns : List ℕ) → map (slice_get store.terms) ns ≡ map Some (a ∷ b ∷ []) → (test_each (map tst (p ∷ q ∷ [])) ns || (is_ac store.signature h && test_each (map tst (p ∷ q ∷ [])) (turn ns))) ≡ true
  turned_tests h p q a b c f g [] e = cc e
  turned_tests h p q a b c f g (x ∷ []) e = cc e
  turned_tests h p q a b c f g (x ∷ y ∷ z ∷ ns) e = cc e
  turned_tests h p q a b c f g (x ∷ y ∷ []) e =
      let e1 : slice_get store.terms x ≡ Some a = cc e in
      let e2 : slice_get store.terms y ≡ Some b = cc e in
      or_right (test_each (map tst (p ∷ q ∷ [])) (x ∷ y ∷ [])) (is_ac store.signature h && test_each (map tst (p ∷ q ∷ [])) (y ∷ x ∷ []))
      (λ i. ac_yes store.signature h c i && (f y e2 i && (g x e1 i && true)))

  mutual
    equal_tests : {p u : Term} → equals p u → (n : ℕ) → slice_get store.terms n ≡ Some u → tst p n ≡ true
    equal_tests (variable {i} {v} {u} e k s) n at = bound_test i v u n at e k s
    equal_tests (application {h} {ss} {ps} {us} {u} a es b s) n at =
        app_test_of h ss ps us u n at a s.0 b s.1 s.2 (λ ns e. or_left (test_each (map tst ps) ns) (is_ac store.signature h && test_each (map tst ps) (turn ns)) (each_tests es ns e))
    equal_tests (turned {h} {ss} {p} {q} {a} {b} {u} c r e f g s) n at =
        app_test_of h ss (p ∷ q ∷ []) (a ∷ b ∷ []) u n at r s.0 g s.1 s.2 (turned_tests h p q a b c (equal_tests e) (equal_tests f))
    equal_tests (owned {p} {u} o s) n at = own_test_whole p u n o at s.0 s.1 s.2

    each_tests : {ps us : List Term} → equal_each ps us → (ns : List ℕ) → map (slice_get store.terms) ns ≡ map Some us → test_each (map tst ps) ns ≡ true
    each_tests none [] e = refl
    each_tests none (n ∷ ns) e = cc e
    each_tests (more x xs) [] e = cc e
    each_tests (more {p} {u} {ps} {us} x xs) (n ∷ ns) e =
        let e1 : slice_get store.terms n ≡ Some u = cc e in
        let e2 : map (slice_get store.terms) ns ≡ map Some us = cc e in
        λ i. equal_tests x n e1 i && each_tests xs ns e2 i

  pub test_exact : (p : Term) (n : ℕ) (u : Term) → slice_get store.terms n ≡ Some u → tst p n ≡ true ↔ equals p u
  test_exact p n u at = (test_says p n u at, λ e. equal_tests e n at)

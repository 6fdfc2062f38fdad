-- A test stays true where names are put for others that are the same.
use Rattle.std.proofs.lemmas.List.{length-map}
use Rattle.std.proofs.lemmas.List.Folds.{list_all-map}
use Rattle.ae_base.proofs.ListFacts.{map_map}
use Rattle.std.proofs.lemmas.Bool.{and_parts, or_right}
use Rattle.std.proofs.Common.{◌≡◌, ℕ, ◌-◌, Bool, true, false, cond, not, ◌&&◌, ◌||◌, List, [], ◌∷◌, map, length, reverse, refl, sym, ap, ◌∙◌, subst, slice_get, Option, Some, None, nat_lt}
use Rattle.std.specs.List.{AllByRecursion, list_any, list_all}
use Rattle.std.specs.Option.{option_map}
use Rattle.std.proofs.lemmas.Option.{slice_get-map}
use Rattle.ae_base.specs.Decided.{decided}
use Rattle.ae_core.specs.Decided.{Term_discrete}
use Rattle.ae_base.specs.Options.{or_else, ◌>>=◌}
use Rattle.ae_core.specs.Sorts.{same_sorts}
use Rattle.ae_core.specs.Putting.{put_sort}
use Rattle.ae_core.specs.Putting.{instance_term, put_terms}
use Rattle.ae_core.specs.Inner.Induction.{by_terms}
use Rattle.ae_core.proofs.Recursion.{para_num, para_fresh, para_apply, fold_bound, fold_apply}
use Rattle.ae_core.proofs.PuttingLaws.{instance_bound, instance_num, instance_fresh, instance_apply, put_bound, put_num, put_fresh, put_apply}
use Rattle.ae_core.specs.declared.terms.Sort.{Sort}
use Rattle.ae_core.specs.declared.terms.Head.{Head}
use Rattle.ae_core.specs.declared.terms.Term.{Term, Bound, Num, Fresh, Apply}
use Rattle.ae_matching.specs.Views.{Store}
use Rattle.ae_matching.specs.Views.{Node}
use Rattle.ae_matching.specs.Generating.{is_ac, applies, turn, known_node}
use Rattle.ae_journal.specs.Triggers.{numbers_below}
use Rattle.ae_matching.specs.Testing.{named, Test, test_each, node_test, is_known_name, own_test, variable_test, test, test_step}
use Rattle.ae_matching.specs.Laws.{IsEquivalence}
use Rattle.ae_matching.specs.Stable.{all_pass, all_pass_step, own_pass, own_pass_step, AreClose}
use Rattle.ae_matching.proofs.Complete.{any_in, firsts, tst_bound, tst_apply}
use Rattle.ae_matching.proofs.Own.{reverse_map, minus_none}
use Rattle.ae_matching.proofs.Exact.{any_from}

-- a test that holds wherever another does
any_weaker : {A : Type 0} (f g : A → Bool) → ((x : A) → f x ≡ true → g x ≡ true) → (xs : List A) → list_any f xs ≡ true → list_any g xs ≡ true
any_weaker f g h xs e = let r = any_in f xs e in any_from g xs r.0 r.1 (h r.0 r.2)

all_seconds : (g : Term → Bool) (us : List Term) → list_all (λ (u : Term × Bool). u.1) (map (λ t. (t, g t)) us) ≡ list_all g us
all_seconds g [] = refl
all_seconds g (u ∷ us) = ap (λ w. g u && w) (all_seconds g us)

pub pass_bound : (ex : ℕ → Bool) (i : ℕ) → all_pass ex (Bound i) ≡ ex i
unfolding all_pass
pass_bound ex i = fold_bound Bool (all_pass_step ex) i

pub pass_apply : (ex : ℕ → Bool) (h : Head) (ss : List Sort) (us : List Term) → all_pass ex (Apply h ss us) ≡ list_all (all_pass ex) us
unfolding all_pass
pass_apply ex h ss us = fold_apply Bool (all_pass_step ex) h ss us ∙ list_all-map (λ b. b) (all_pass ex) us

pub own_pass_apply : (is_own : Term → Bool) (ex : ℕ → Bool) (h : Head) (ss : List Sort) (us : List Term)
    → own_pass is_own ex (Apply h ss us) ≡ cond (is_own (Apply h ss us)) (all_pass ex (Apply h ss us)) (list_all (own_pass is_own ex) us)
unfolding own_pass
own_pass_apply is_own ex h ss us =
    para_apply Bool (own_pass_step is_own ex) h ss us
    ∙ (λ i. cond (is_own (Apply h ss (firsts (own_pass is_own ex) us i))) (all_pass ex (Apply h ss (firsts (own_pass is_own ex) us i))) (all_seconds (own_pass is_own ex) us i))

module _ (store : Store) (alike : ℕ → ℕ → Bool) (below : ℕ) (sorts : List Sort) (values others : List ℕ) (is_own : Term → Bool) (ex : ℕ → Bool) (q : IsEquivalence alike) (close : AreClose alike ex values others) where
  abbrev made : List ℕ → Term → Term
  made vs p = put_terms 0 (map (named store.terms) vs) (instance_term sorts p)

  abbrev tst : List ℕ → Term → Test
  tst vs = test store alike below sorts vs is_own

  -- ---- what is put into a term whose variables pass
  abbrev IsPutAlike : Term → Type 0
  IsPutAlike p = all_pass ex p ≡ true → made values p ≡ made others p

  at_variable : (vs : List ℕ) (i : ℕ) → made vs (Bound i) ≡ cond (nat_lt i 0) (Bound i) (or_else (option_map (named store.terms) (slice_get (reverse vs) (i - 0))) (Bound (i - length vs)))
  at_variable vs i =
      ap (put_terms 0 (map (named store.terms) vs)) (instance_bound sorts i) ∙ put_bound 0 (map (named store.terms) vs) i
      ∙ (λ j. cond (nat_lt i 0) (Bound i) (or_else ((ap (λ l. slice_get l (i - 0)) (reverse_map (named store.terms) vs) ∙ slice_get-map (named store.terms) (reverse vs) (i - 0)) j) (Bound (i - length-map vs (named store.terms) j))))

  bound_put : (i : ℕ) → IsPutAlike (Bound i)
  bound_put i e =
      let same = close.exact i (sym (pass_bound ex i) ∙ e) in
      let at : slice_get (reverse others) (i - 0) ≡ slice_get (reverse values) (i - 0) = ap (slice_get (reverse others)) (minus_none i) ∙ same ∙ sym (ap (slice_get (reverse values)) (minus_none i)) in
      at_variable values i
      ∙ sym (at_variable others i ∙ (λ j. cond (nat_lt i 0) (Bound i) (or_else (option_map (named store.terms) (at j)) (Bound (i - close.as_many j)))))

  each_put : (us : List Term) → AllByRecursion IsPutAlike us → list_all (all_pass ex) us ≡ true → map (made values) us ≡ map (made others) us
  each_put [] all e = refl
  each_put (u ∷ us) all e = let p = and_parts (all_pass ex u) (list_all (all_pass ex) us) e in λ i. all.0 p.0 i ∷ each_put us all.1 p.1 i

  at_apply : (vs : List ℕ) (h : Head) (ss : List Sort) (us : List Term) → made vs (Apply h ss us) ≡ Apply h (map (put_sort sorts) ss) (map (made vs) us)
  at_apply vs h ss us =
      ap (put_terms 0 (map (named store.terms) vs)) (instance_apply sorts h ss us) ∙ put_apply 0 (map (named store.terms) vs) h (map (put_sort sorts) ss) (map (instance_term sorts) us)
      ∙ ap (Apply h (map (put_sort sorts) ss)) (map_map (instance_term sorts) (put_terms 0 (map (named store.terms) vs)) us)

  apply_put : (h : Head) (ss : List Sort) (us : List Term) → AllByRecursion IsPutAlike us → IsPutAlike (Apply h ss us)
  apply_put h ss us all e = at_apply values h ss us ∙ ap (Apply h (map (put_sort sorts) ss)) (each_put us all (sym (pass_apply ex h ss us) ∙ e)) ∙ sym (at_apply others h ss us)

  at_num : (vs : List ℕ) (a b : _) (r : Bool) → made vs (Num a b r) ≡ Num a b r
  at_num vs a b r = ap (put_terms 0 (map (named store.terms) vs)) (instance_num sorts a b r) ∙ put_num 0 (map (named store.terms) vs) a b r

  at_fresh : (vs : List ℕ) (k : ℕ) (s : Sort) → made vs (Fresh k s) ≡ Fresh k (put_sort sorts s)
  at_fresh vs k s = ap (put_terms 0 (map (named store.terms) vs)) (instance_fresh sorts k s) ∙ put_fresh 0 (map (named store.terms) vs) k (put_sort sorts s)

  pub put_alike : (p : Term) → IsPutAlike p
  put_alike = by_terms IsPutAlike bound_put (λ a b r e. at_num values a b r ∙ sym (at_num others a b r)) (λ k s e. at_fresh values k s ∙ sym (at_fresh others k s)) apply_put

  -- ---- the test
  abbrev IsStable : Term → Type 0
  IsStable p = (n : ℕ) → own_pass is_own ex p ≡ true → tst values p n ≡ true → tst others p n ≡ true

  own_stays : (p : Term) (n : ℕ) → made values p ≡ made others p → list_any (own_test store alike below sorts values p n) (numbers_below (length store.nodes)) ≡ true
      → list_any (own_test store alike below sorts others p n) (numbers_below (length store.nodes)) ≡ true
  own_stays p n e h =
      subst (λ t. list_any (λ m. known_node store alike below (λ x. decided (Term_discrete (named store.terms m) t)) n m) (numbers_below (length store.nodes)) ≡ true) e h

  bound_stable : (i : ℕ) → IsStable (Bound i)
  bound_stable i n o e =
      let parts = and_parts (is_known_name store below n) (variable_test store alike below sorts values i n) (sym (tst_bound store alike below sorts values is_own i n) ∙ e) in
      tst_bound store alike below sorts others is_own i n ∙ (λ j. parts.0 j && go (slice_get (reverse values) i) refl parts.1 j)
    where
      go : (o : Option ℕ) → slice_get (reverse values) i ≡ o → or_else (o >>= λ v. Some (alike v n)) false ≡ true → variable_test store alike below sorts others i n ≡ true
      go None s e = cc e
      go (Some v) s e =
          let w = close.other i v s in
          ap (λ o. or_else (o >>= λ v. Some (alike v n)) false) w.1 ∙ q.transitive w.0 v n w.2 e

  each_stable : (us : List Term) → AllByRecursion IsStable us → list_all (own_pass is_own ex) us ≡ true → (ns : List ℕ) → test_each (map (tst values) us) ns ≡ true → test_each (map (tst others) us) ns ≡ true
  each_stable [] all o [] e = refl
  each_stable [] all o (n ∷ ns) e = cc e
  each_stable (u ∷ us) all o [] e = cc e
  each_stable (u ∷ us) all o (n ∷ ns) e =
      let a = and_parts (own_pass is_own ex u) (list_all (own_pass is_own ex) us) o in
      let b = and_parts (tst values u n) (test_each (map (tst values) us) ns) e in
      λ i. all.0 n a.0 b.0 i && each_stable us all.1 a.1 ns b.1 i

  or_stays : (a b c d : Bool) → (a ≡ true → c ≡ true) → (b ≡ true → d ≡ true) → (a || b) ≡ true → (c || d) ≡ true
  or_stays true b c d f g e = ap (λ x. x || d) (f refl)
  or_stays false b c d f g e = or_right c d (g e)

  and_stays : (a b c : Bool) → (b ≡ true → c ≡ true) → (a && b) ≡ true → (a && c) ≡ true
  and_stays true b c f e = f e
  and_stays false b c f e = cc e

  node_stays : (h : Head) (ss : List Sort) (us : List Term) → AllByRecursion IsStable us → list_all (own_pass is_own ex) us ≡ true → (n m : ℕ)
      → known_node store alike below (node_test store alike below sorts values h ss (map (tst values) us)) n m ≡ true → known_node store alike below (node_test store alike below sorts others h ss (map (tst others) us)) n m ≡ true
  node_stays h ss us all o n m = go (slice_get store.nodes m)
    where
      go : (k : Option Node) → or_else (k >>= λ x. Some (nat_lt x.generation below && alike m n && node_test store alike below sorts values h ss (map (tst values) us) x)) false ≡ true
          → or_else (k >>= λ x. Some (nat_lt x.generation below && alike m n && node_test store alike below sorts others h ss (map (tst others) us) x)) false ≡ true
      go None e = cc e
      go (Some x) e =
          and_stays (nat_lt x.generation below && alike m n) (node_test store alike below sorts values h ss (map (tst values) us) x) (node_test store alike below sorts others h ss (map (tst others) us) x)
          (and_stays (not x.arithmetic && applies h x.head && same_sorts x.sorts (map (put_sort sorts) ss)) _ _
          (or_stays (test_each (map (tst values) us) x.args) (is_ac store.signature h && test_each (map (tst values) us) (turn x.args)) _ _ (each_stable us all o x.args)
          (and_stays (is_ac store.signature h) (test_each (map (tst values) us) (turn x.args)) (test_each (map (tst others) us) (turn x.args)) (each_stable us all o (turn x.args)))))
          e

  apply_stable : (h : Head) (ss : List Sort) (us : List Term) → AllByRecursion IsStable us → IsStable (Apply h ss us)
  apply_stable h ss us all n o e =
      let parts = and_parts (is_known_name store below n) _ (sym (tst_apply store alike below sorts values is_own h ss us n) ∙ e) in
      tst_apply store alike below sorts others is_own h ss us n ∙ (λ j. parts.0 j && go (is_own (Apply h ss us)) (sym (own_pass_apply is_own ex h ss us) ∙ o) parts.1 j)
    where
      go : (b : Bool) → cond b (all_pass ex (Apply h ss us)) (list_all (own_pass is_own ex) us) ≡ true
          → list_any (cond b (own_test store alike below sorts values (Apply h ss us) n) (known_node store alike below (node_test store alike below sorts values h ss (map (tst values) us)) n)) (numbers_below (length store.nodes)) ≡ true
          → list_any (cond b (own_test store alike below sorts others (Apply h ss us) n) (known_node store alike below (node_test store alike below sorts others h ss (map (tst others) us)) n)) (numbers_below (length store.nodes)) ≡ true
      go true o e = own_stays (Apply h ss us) n (put_alike (Apply h ss us) o) e
      go false o e = any_weaker _ _ (node_stays h ss us all o n) (numbers_below (length store.nodes)) e

  num_stable : (a b : _) (r : Bool) → IsStable (Num a b r)
  unfolding test
  num_stable a b r n o e =
      let parts = and_parts (is_known_name store below n) (list_any (own_test store alike below sorts values (Num a b r) n) (numbers_below (length store.nodes))) (sym (ap
      (λ f. f n) (para_num Test (test_step store alike below sorts values is_own) a b r)) ∙ e) in
      ap (λ f. f n) (para_num Test (test_step store alike below sorts others is_own) a b r) ∙ (λ i. parts.0 i && own_stays (Num a b r) n (at_num values a b r ∙ sym (at_num others a b r)) parts.1 i)

  fresh_stable : (k : ℕ) (s : Sort) → IsStable (Fresh k s)
  unfolding test
  fresh_stable k s n o e =
      let parts = and_parts (is_known_name store below n) (list_any (own_test store alike below sorts values (Fresh k s) n) (numbers_below (length store.nodes))) (sym (ap
      (λ f. f n) (para_fresh Test (test_step store alike below sorts values is_own) k s)) ∙ e) in
      ap (λ f. f n) (para_fresh Test (test_step store alike below sorts others is_own) k s) ∙ (λ i. parts.0 i && own_stays (Fresh k s) n (at_fresh values k s ∙ sym (at_fresh others k s)) parts.1 i)

  pub test_stable : (p : Term) → IsStable p
  test_stable = by_terms IsStable bound_stable num_stable fresh_stable apply_stable

-- What is kept of the candidates are the matches.
use Rattle.std.specs.Prelude.{ℕ, zero, suc, ◌-◌, ◌≡◌, ◌<◌, ◌≤◌, Bool, true, false, cond, ◌&&◌, ◌||◌, nat_eq, nat_lt, MatchBool, List, [], ◌∷◌, ◌++◌, map, take, length, slice_get, Option, Some, None}
use Rattle.std.specs.List.{AllByRecursion, list_any, list_all}
use Rattle.std.proofs.Common.{refl, sym, ap, ◌∙◌, subst, inl, inr, arith}
use Rattle.std.proofs.lemmas.Bool.{cases_Bool, or_parts, and_parts, and_from, lt-ltb, ltb-true, eqb-true, eq-eqb, or_cases}
use Rattle.std.proofs.lemmas.List.{length-map, map_push}
use Rattle.std.proofs.lemmas.Option.{slice_get_within, slice_get-map, same_Some}
use Rattle.ae_base.specs.Options.{or_else, ◌>>=◌, known as is_known, all_known}
use Rattle.ae_base.proofs.Decided.{decided_of, decided_yes}
use Rattle.ae_base.proofs.Options.{mapped_some, known_each}
use Rattle.ae_base.proofs.ListFacts.{value_at, get_map, map_map}
use Rattle.ae_base.proofs.Tests.{nat_eq_itself, false_true}
use Rattle.std.proofs.lemmas.List.Folds.{list_all-append}
use Rattle.ae_matching.specs.declared.bindings.NameBinding.{NameBinding}
use Rattle.ae_base.proofs.AllOf.{all_append, all_push, all_of_map, all_before_map, all_both, all_at, all_from_places, all_of_test, test_of_all, all_front, all_weaker}
use Rattle.ae_core.specs.Decided.{Sort_discrete}
use Rattle.ae_core.specs.Sorts.{sort_of, sorts_of, is_closed_sort, same_sort, same_sorts}
use Rattle.ae_core.specs.Putting.{put_sort}
use Rattle.ae_core.specs.Signatures.{has_variable}
use Rattle.ae_core.specs.Inner.Induction.{by_terms, by_sorts}
use Rattle.ae_core.proofs.SortFacts.{sorts_known}
use Rattle.ae_core.proofs.Recursion.{fold_fresh, fold_apply}
use Rattle.ae_core.specs.declared.terms.Sort.{Sort, Var, Unit as UnitSort}
use Rattle.ae_core.specs.declared.terms.Head.{Head}
use Rattle.ae_core.specs.declared.terms.Term.{Term, Bound, Fresh, Apply}
use Rattle.ae_core.specs.declared.problems.Signature.{Signature}
use Rattle.ae_rules.specs.Instances.{have_sorts}
use Rattle.ae_rules.specs.Matches.{is_arithmetic, term_has, sort_has}
use Rattle.ae_journal.specs.Triggers.{numbers_below}
use Rattle.ae_store.specs.declared.nodes.Node.{Node}
use Rattle.ae_store.specs.Shapes.{shapes, shape_of}
use Rattle.ae_store.specs.Stores.{IsStore}
use Rattle.ae_store.specs.Parts.{IsPart}
use Rattle.ae_store.specs.Parts.IsPart.{root, argument}
use Rattle.ae_store.specs.Terms.{terms, named}
use Rattle.ae_store.proofs.TermLaws.{length_terms}
use Rattle.ae_store.proofs.StoreLaws.{name_term}
use Rattle.ae_theory.specs.Names.{HaveOneSort}
use Rattle.ae_trigger.proofs.OccurrenceRules.{any_map, variable_bound, sort_var, sort_rigid, sort_int, sort_real, sort_bool, sort_unit, sort_named, term_bound, term_num, term_fresh, term_apply}
use Rattle.ae_matching.proofs.SortCovers.{pass_var, pass_named}
use Rattle.ae_matching.specs.Views as views
use Rattle.ae_matching.specs.declared.bindings.Bindings.{Bindings}
use Rattle.ae_matching.specs.SortMatching.{found}
use Rattle.ae_matching.specs.SortCovers.{sort_pass, has_sort}
use Rattle.ae_matching.specs.Generating.{name_found, exact_found}
use Rattle.ae_matching.specs.Testing.{is_known_name, test}
use Rattle.ae_matching.specs.Laws.{In, IsEquivalence, AreWithin, IsKnownTerm}
use Rattle.ae_matching.specs.Stable.{AreClose, has_name, has_exact}
use Rattle.ae_matching.specs.Triggers.{AreEqual, choose, picked, empty}
use Rattle.ae_matching.proofs.Complete.{in_right}
use Rattle.ae_matching.proofs.Exact.{any_from, below_in}
use Rattle.ae_matching.proofs.Found.{at_picked, close_by, still, named_all}
use Rattle.ae_matching.proofs.SortLaws.{found_right}
use Rattle.ae_match.specs.Seen.{seen, seen_node}
use Rattle.ae_match.proofs.SeenLaws.{seen_sound}
use Rattle.ae_match.proofs.MatchLaws.{names_within, equal_tested, tested_equal}
use Rattle.ae_known.specs.declared.known.Known.{Known}
use Rattle.ae_known.specs.Index.{HasHeads}
use Rattle.ae_trigger.specs.declared.patterns.Pattern.{Pattern}
use Rattle.ae_trigger.specs.declared.patterns.Subst.{Subst}
use Rattle.ae_matches.specs.Steps.{sorts_pass, fresh_has, fresh_has_step}
use Rattle.ae_matches.specs.Answers.{IsMatchOf, is_same_match, IsAnswered, AreMatches, HasClosedConstants}
use Rattle.ae_matches.specs.Candidates.{AllAmong, chained, with_variables, sort_of_variable, picked_sorts, subst_of, passes, is_unit_at, is_determined, sorted_match, is_match, once_each}
use Rattle.ae_matches.proofs.Steps.{pass_apply}
use Rattle.ae_matches.proofs.Roots.{chain_found, IsChained}
use Rattle.ae_matches.proofs.Close.{near_at, from_back, same_by, map_by}
use Rattle.ae_matches.proofs.Passing.{pass_says, passes_bound}
use Rattle.ae_matches.proofs.Once.{sorts_yes, on, once_passes, once_distinct, once_answers}

-- ---- what a test says
pub told : {P : Type 0} (b t : Bool) → b ≡ t → (t ≡ true → P) → (P → t ≡ true) → MatchBool b P (¬ P)
told true t e f g = f (sym e)
told false t e f g = λ p. false_true (e ∙ g p)

-- ---- numbers
all_numbers : (n : ℕ) (P : ℕ → Type 0) → ((i : ℕ) → i < n → P i) → AllByRecursion P (numbers_below n)
all_numbers zero P f = tt
all_numbers (suc n) P f = all_push P (numbers_below n) n (all_numbers n P (λ i h. f i (omega (arith, h)))) (f n (omega arith))

in_map : {A B : Type 0} (f : A → B) (xs : List A) (x : A) → In xs x → In (map f xs) (f x)
in_map f [] x i = elim i [ ]
in_map f (y ∷ xs) x (inl e) = inl (ap f e)
in_map f (y ∷ xs) x (inr i) = inr (in_map f xs x i)

one_more : (ys : List Sort) (m : ℕ) (y : Sort) → slice_get ys m ≡ Some y → take (suc m) ys ≡ take m ys ++ y ∷ []
one_more [] m y e = cc e
one_more (z ∷ ys) zero y e = ap (λ w. w ∷ []) (same_Some z y e)
one_more (z ∷ ys) (suc m) y e = ap (λ l. z ∷ l) (one_more ys m y e)

-- the sorts of so many numbers
taken : (f : ℕ → Sort) (xs : List Sort) → ((i : ℕ) (x : Sort) → slice_get xs i ≡ Some x → f i ≡ x) → (n : ℕ) → n ≤ length xs → map f (numbers_below n) ≡ take n xs
taken f xs h zero l = refl
taken f xs h (suc n) l =
    let g = value_at xs n (omega (arith, l)) in
    map_push f (numbers_below n) n ∙ (λ i. taken f xs h n (omega (arith, l)) i ++ h n g.0 g.1 i ∷ []) ∙ sym (one_more xs n g.0 g.1)

all_in : (f : ℕ → Bool) (xs : List ℕ) (i : ℕ) → In xs i → list_all f xs ≡ true → f i ≡ true
all_in f [] i h e = elim h [ ]
all_in f (x ∷ xs) i (inl h) e = subst (λ y. f y ≡ true) h (and_parts (f x) (list_all f xs) e).0
all_in f (x ∷ xs) i (inr h) e = all_in f xs i h (and_parts (f x) (list_all f xs) e).1

take_all : (xs : List Sort) → take (length xs) xs ≡ xs
take_all [] = refl
take_all (x ∷ xs) = ap (λ l. x ∷ l) (take_all xs)

-- ---- a type variable of the trigger has a sort
module _ (ex : ℕ → Bool) (i : ℕ) where
  abbrev SortHas : Sort → Type 0
  SortHas s = sort_pass ex s ≡ true → sort_has i s ≡ true → ex i ≡ true

  no : {P : Type 0} (b : Bool) → b ≡ false → b ≡ true → P
  no b e f = let z : ◌≡◌ {A = Bool} false true = sym e ∙ f in cc z

  each_sort : (ss : List Sort) → AllByRecursion SortHas ss → list_all (sort_pass ex) ss ≡ true → list_any (sort_has i) ss ≡ true → ex i ≡ true
  each_sort [] all a e = cc e
  each_sort (s ∷ ss) all a e =
      let p = and_parts (sort_pass ex s) (list_all (sort_pass ex) ss) a in
      elim (or_cases (sort_has i s) (list_any (sort_has i) ss) e) as (λ _. ex i ≡ true) [ inl y ↦ all.0 p.0 y | inr n ↦ each_sort ss all.1 p.1 n ]

  sort_found : (s : Sort) → SortHas s
  sort_found =
      by_sorts SortHas (λ j a e. ap ex (eqb-true i j (sym (sort_var i j) ∙ e)) ∙ sym (pass_var ex j) ∙ a) (λ j a e. no _ (sort_rigid i j) e) (λ a e. no _ (sort_int i) e) (λ a e. no _ (sort_real i) e)
      (λ a e. no _ (sort_bool i) e) (λ a e. no _ (sort_unit i) e) (λ h ss all a e. each_sort ss all (sym (pass_named ex h ss) ∙ a) (sym (sort_named i h ss) ∙ e))

  all_sorts_found : (ss : List Sort) → AllByRecursion SortHas ss
  all_sorts_found [] = tt
  all_sorts_found (s ∷ ss) = (sort_found s, all_sorts_found ss)

  fresh_fresh : (k : ℕ) (s : Sort) → fresh_has i (Fresh k s) ≡ sort_has i s
  unfolding fresh_has
  fresh_fresh k s = fold_fresh Bool (fresh_has_step i) k s

  fresh_apply : (h : Head) (ss : List Sort) (us : List Term) → fresh_has i (Apply h ss us) ≡ list_any (fresh_has i) us
  unfolding fresh_has
  fresh_apply h ss us = fold_apply Bool (fresh_has_step i) h ss us ∙ any_map (λ b. b) (fresh_has i) us

  abbrev TermHas : Term → Type 0
  TermHas p = sorts_pass ex p ≡ true → fresh_has i p ≡ false → term_has i p ≡ true → ex i ≡ true

  each_term : (us : List Term) → AllByRecursion TermHas us → list_all (sorts_pass ex) us ≡ true → list_any (fresh_has i) us ≡ false → list_any (term_has i) us ≡ true → ex i ≡ true
  each_term [] all a f e = cc e
  each_term (u ∷ us) all a f e =
      let p = and_parts (sorts_pass ex u) (list_all (sorts_pass ex) us) a in
      let g = or_parts (fresh_has i u) (list_any (fresh_has i) us) f in
      elim (or_cases (term_has i u) (list_any (term_has i) us) e) as (λ _. ex i ≡ true) [ inl y ↦ all.0 p.0 g.0 y | inr n ↦ each_term us all.1 p.1 g.1 n ]

  apply_found : (h : Head) (ss : List Sort) (us : List Term) → AllByRecursion TermHas us → TermHas (Apply h ss us)
  apply_found h ss us all a f e =
      let p = and_parts (list_all (sort_pass ex) ss) (list_all (sorts_pass ex) us) (sym (pass_apply ex h ss us) ∙ a) in
      elim (or_cases (list_any (sort_has i) ss) (list_any (term_has i) us) (sym (term_apply i h ss us) ∙ e)) as (λ _. ex i ≡ true) [
        | inl y ↦ each_sort ss (all_sorts_found ss) p.0 y
        | inr n ↦ each_term us all p.1 (sym (fresh_apply h ss us) ∙ f) n
      ]

  term_found : (p : Term) → TermHas p
  term_found =
      by_terms TermHas (λ j a f e. no _ (term_bound i j) e) (λ n d r a f e. no _ (term_num i n d r) e)
      (λ k s a f e. no (sort_has i s) (sym (fresh_fresh k s) ∙ f) (sym (term_fresh i k s) ∙ e)) apply_found

  all_terms_found : (ps : List Term) → AllByRecursion TermHas ps
  all_terms_found [] = tt
  all_terms_found (p ∷ ps) = (term_found p, all_terms_found ps)

  pub sort_of_trigger : (ps : List Term) → list_all (sorts_pass ex) ps ≡ true → list_any (fresh_has i) ps ≡ false → list_any (term_has i) ps ≡ true → ex i ≡ true
  sort_of_trigger ps = each_term ps (all_terms_found ps)

-- ---- a store's names
module _ (sig : Signature) (ns : List Node) (s : IsStore sig ns) (below : ℕ) where
  abbrev store : views.Store
  store = seen sig ns

  abbrev ts : List Term
  ts = terms (shapes ns)

  abbrev Kind : ℕ → Type 0
  Kind n = is_known_name store below n ≡ true

  pub near : (m : ℕ) (x : views.Node) → slice_get store.nodes m ≡ Some x → nat_lt x.generation below ≡ true → Kind m
  near m x e t = ap (λ o. or_else (o >>= λ y. Some (nat_lt y.generation below)) false) e ∙ t

  node_of : (m : ℕ) (x : views.Node) → slice_get store.nodes m ≡ Some x → (y : Node) × (slice_get ns m ≡ Some y) × (seen_node ts y ≡ x)
  node_of m x e = mapped_some (seen_node ts) (slice_get ns m) x (sym (slice_get-map (seen_node ts) ns m) ∙ e)

  -- a known name has a node
  pub known_node_of : (m : ℕ) → Kind m → (y : Node) × (slice_get ns m ≡ Some y) × (y.generation < below)
  known_node_of m e = go (slice_get store.nodes m) refl e
    where
      go : (o : Option views.Node) → slice_get store.nodes m ≡ o → or_else (o >>= λ y. Some (nat_lt y.generation below)) false ≡ true → (y : Node) × (slice_get ns m ≡ Some y) × (y.generation < below)
      go None at e = cc e
      go (Some x) at e = let r = node_of m x at in (r.0, r.1, ltb-true (r.0).generation below (ap (λ z. nat_lt z.generation below) r.2 ∙ e))

  pub closed : (m : ℕ) (x : views.Node) → Kind m → slice_get store.nodes m ≡ Some x → AllByRecursion Kind x.args
  closed m x km e =
      let r = node_of m x e in
      let k = known_node_of m km in
      let same : k.0 ≡ r.0 = same_Some k.0 r.0 (sym k.1 ∙ r.1) in
      subst (λ z. AllByRecursion Kind z.args) r.2 (all_from_places Kind (r.0).args (λ i a at.
      let b : a < m = all_at (λ a. a < m) (r.0).args i a (s.sound.places m (shape_of r.0) (get_map shape_of ns m r.0 r.1)).args at in
      let g = value_at ns a (omega (arith, b, slice_get_within ns m r.0 r.1)) in
      let part : IsPart sig (shapes ns) (m ∷ []) a = argument m (shape_of r.0) a (root m (record { place = 0; is = refl })) (get_map shape_of ns m r.0 r.1) (record { place = i; is = at }) in
      let le : (g.0).generation ≤ (r.0).generation = s.nested.each m a r.0 g.0 part r.1 g.1 in
      let lt : (r.0).generation < below = subst (λ z. z.generation < below) same k.2 in
      near a (seen_node ts g.0) (get_map (seen_node ts) ns a g.0 g.1) (lt-ltb (g.0).generation below (omega (arith, le, lt)))))

  known_below : (m : ℕ) → Kind m → m < length ns
  known_below m e = let r = known_node_of m e in slice_get_within ns m r.0 r.1

  -- ---- matches
  module _ (alike : ℕ → ℕ → Bool) (q : IsEquivalence alike) (sorted : (m n : ℕ) → alike m n ≡ true → HaveOneSort (record { signature = sig; nodes = ns }) m n) (k : Known) (has : HasHeads ns k)
      (p : Pattern) (constants : HasClosedConstants p) where
    abbrev full : List Term
    full = with_variables (length p.vars) p.terms

    abbrev Matches : Subst → Type 0
    Matches = IsMatchOf (record { signature = sig; nodes = ns }) alike below p

    abbrev terms_of : List ℕ → List Term
    terms_of = map (named ts)

    abbrev test_of : Subst → Bool
    test_of m = is_match sig store alike below k p (terms_of m.terms) m

    -- what passes the test is a match
    pub five : (a b c d e : Bool) → (a && b && c && d && e) ≡ true → (a ≡ true) × (b ≡ true) × (c ≡ true) × (d ≡ true) × (e ≡ true)
    five a b c d e f =
        let w = and_parts (a && b && c && d) e f in
        let x = and_parts (a && b && c) d w.0 in
        let y = and_parts (a && b) c x.0 in
        let z = and_parts a b y.0 in
        (z.0, z.1, y.1, x.1, w.1)

    all_kind : (vs : List ℕ) → list_all (is_known_name store below) vs ≡ true → AllByRecursion Kind vs
    all_kind vs e = all_of_test (is_known_name store below) Kind (λ x y. y) vs e

    within_of : (vs : List ℕ) → AllByRecursion Kind vs → AllByRecursion (λ v. v < length ns) vs
    within_of vs a = all_weaker Kind (λ v. v < length ns) known_below vs a

    name_known : (v : ℕ) → Kind v → IsKnownTerm store below (named ts v)
    name_known v e =
        let g = value_at ts v (omega (arith, known_below v e, length_terms (shapes ns), length-map ns shape_of)) in
        record { name = v; at = g.1 ∙ ap Some (sym (name_term ts v g.0 g.1)); young = e }

    pub test_sound : (m : Subst) → test_of m ≡ true → Matches m
    test_sound m e =
        let r = five (nat_eq (length m.sorts) p.sort_vars) (list_all (is_closed_sort sig) m.sorts) (list_all (is_determined p.terms m.sorts) (numbers_below p.sort_vars)) (list_all (is_known_name store below) m.terms) (sorted_match sig store alike below k p (terms_of m.terms) m) e in
        let count : length m.sorts ≡ p.sort_vars = eqb-true (length m.sorts) p.sort_vars r.0 in
        let t = and_parts (have_sorts sig (terms_of m.terms) (map (put_sort m.sorts) p.vars)) (list_all (passes store alike below k m.sorts m.terms (terms_of m.terms)) p.terms) r.4 in
        let kinds = all_kind m.terms r.3 in
        let inside = within_of m.terms kinds in
        record {
          within = inside;
          is = record {
            one_each = count;
            closed = r.1;
            determined = λ i l o. unit_at i (omega (arith, l, count)) (all_in (is_determined p.terms m.sorts) (numbers_below p.sort_vars) i (below_in p.sort_vars i l) r.2) o;
            all_known = all_of_map (IsKnownTerm store below) (named ts) m.terms (all_weaker Kind (λ v. IsKnownTerm store below (named ts v)) name_known m.terms kinds);
            sorted = t.0;
            equal = tested_equal sig ns alike below m.sorts m.terms s inside p.terms
                (all_of_test (passes store alike below k m.sorts m.terms (terms_of m.terms)) (λ u. (n : ℕ) × In (numbers_below (length store.nodes)) n × (test store alike below m.sorts m.terms is_arithmetic u n ≡ true))
                (λ u y. (pass_says sig ns alike below k m.sorts m.terms s has q kinds u).0 y) p.terms t.1);
          };
        }
      where
        unit_at : (i : ℕ) → i < length m.sorts → is_determined p.terms m.sorts i ≡ true → list_any (term_has i) p.terms ≡ false → slice_get m.sorts i ≡ Some UnitSort
        unit_at i l d o =
            let g = value_at m.sorts i l in
            let y : is_unit_at (slice_get m.sorts i) ≡ true = sym (ap (λ b. b || is_unit_at (slice_get m.sorts i)) o) ∙ d in
            let z : same_sort g.0 UnitSort ≡ true = sym (ap is_unit_at g.1) ∙ y in
            g.1 ∙ ap Some (decided_yes (Sort_discrete g.0 UnitSort) z)

    -- ---- each match is the same as one that passes the test
    module _ (m : Subst) (is : Matches m) where
      abbrev sorts : List Sort
      sorts = m.sorts

      abbrev values : List ℕ
      values = m.terms

      have : sorts_of sig (terms_of values) ≡ Some (map (put_sort sorts) p.vars)
      have = sorts_known (sorts_of sig (terms_of values)) (map (put_sort sorts) p.vars) is.is.sorted

      as_many : length values ≡ length p.vars
      as_many =
          let e = ap length (known_each (sort_of sig) (terms_of values) (map (put_sort sorts) p.vars) have) in
          sym (length-map values (named ts)) ∙ sym (length-map (terms_of values) (sort_of sig)) ∙ e ∙ length-map (map (put_sort sorts) p.vars) Some ∙ length-map p.vars (put_sort sorts)

      inside : AreWithin store values
      inside = names_within sig ns alike below sorts values s is.within

      kinds : AllByRecursion Kind values
      kinds = all_both (λ v. IsKnownTerm store below (named ts v)) (λ v. v < length ns) Kind one values (all_before_map (IsKnownTerm store below) (named ts) values is.is.all_known) is.within
        where
          one : (v : ℕ) → IsKnownTerm store below (named ts v) → v < length ns → Kind v
          one v t l =
              let g = value_at ts v (omega (arith, l, length_terms (shapes ns), length-map ns shape_of)) in
              let here : slice_get ts v ≡ Some (named ts v) = g.1 ∙ ap Some (sym (name_term ts v g.0 g.1)) in
              subst (λ n. is_known_name store below n ≡ true) (s.sound.one_name t.name v (named ts v) t.at here) t.young

      tested : AreEqual store alike below sorts values is_arithmetic p.terms
      tested = equal_tested sig ns alike below sorts values s is.within p.terms is.is.equal

      variable_tested : (i : ℕ) → i < length p.vars → (n : ℕ) × In (numbers_below (length store.nodes)) n × (test store alike below sorts values is_arithmetic (Bound i) n ≡ true)
      variable_tested i l = (pass_says sig ns alike below k sorts values s has q kinds (Bound i)).0 (passes_bound store alike below k sorts values (terms_of values) i ∙ lt-ltb i (length values) (omega (arith, l, as_many)))

      full_tested : AreEqual store alike below sorts values is_arithmetic full
      full_tested =
          all_append (λ u. (n : ℕ) × In (numbers_below (length store.nodes)) n × (test store alike below sorts values is_arithmetic u n ≡ true)) p.terms (map Bound (numbers_below (length p.vars))) tested
          (all_of_map (λ u. (n : ℕ) × In (numbers_below (length store.nodes)) n × (test store alike below sorts values is_arithmetic u n ≡ true)) Bound (numbers_below (length p.vars))
          (all_numbers (length p.vars) (λ i. (n : ℕ) × In (numbers_below (length store.nodes)) n × (test store alike below sorts values is_arithmetic (Bound i) n ≡ true)) variable_tested))

      abbrev Chain : Type 0
      Chain = IsChained sig ns alike below k has q s sorts values inside closed near full (empty ∷ []) empty

      chain : Chain
      chain = chain_found sig ns alike below k has q s sorts values inside closed near full full_tested (empty ∷ []) empty (inl refl) (record { sorted = tt; named_ones = tt }) tt

      abbrev env : Bindings
      env = chain.new

      abbrev others : List ℕ
      others = picked (length values) env

      occur : (i : ℕ) → i < length values → list_any (has_variable i) full ≡ true
      occur i l =
          any_from (has_variable i) full (Bound i)
          (in_right p.terms (map Bound (numbers_below (length p.vars))) (Bound i) (in_map Bound (numbers_below (length p.vars)) i (below_in (length p.vars) i (omega (arith, l, as_many)))))
          (variable_bound i i ∙ nat_eq_itself i)

      named_at : (i : ℕ) → i < length values → has_name env i ≡ true
      named_at i l = named_all store alike below sorts values is_arithmetic (seen_sound sig ns s) q inside env i full chain.covers (occur i l)

      close : AreClose alike (has_exact env) values others
      close = close_by store alike below sorts values is_arithmetic (seen_sound sig ns s) q inside env chain.fitting named_at

      others_tested : AreEqual store alike below sorts others is_arithmetic full
      others_tested = still store alike below sorts values is_arithmetic (seen_sound sig ns s) q inside env close full chain.covers full_tested

      -- ---- the names that are picked are known
      kind_of_name : (i n : ℕ) (bs : List NameBinding) → AllByRecursion (λ b. Kind b.name) bs → name_found i bs ≡ Some n → Kind n
      kind_of_name i n [] a e = cc e
      kind_of_name i n (b ∷ bs) a e = elim (cases_Bool (nat_eq b.variable i)) as (λ _. Kind n) [
        | inl y ↦ subst Kind (same_Some b.name n (sym (ap (λ c. cond c (Some b.name) (name_found i bs)) y) ∙ e)) a.0
        | inr o ↦ kind_of_name i n bs a.1 (sym (ap (λ c. cond c (Some b.name) (name_found i bs)) o) ∙ e)
      ]

      kind_of_exact : (i n : ℕ) (bs : List NameBinding) → AllByRecursion (λ b. Kind b.name) bs → exact_found i bs ≡ Some n → Kind n
      kind_of_exact i n [] a e = cc e
      kind_of_exact i n (b ∷ bs) a e = elim (cases_Bool (nat_eq b.variable i && b.exact)) as (λ _. Kind n) [
        | inl y ↦ subst Kind (same_Some b.name n (sym (ap (λ c. cond c (Some b.name) (exact_found i bs)) y) ∙ e)) a.0
        | inr o ↦ kind_of_exact i n bs a.1 (sym (ap (λ c. cond c (Some b.name) (exact_found i bs)) o) ∙ e)
      ]

      chosen_kind : (i : ℕ) → i < length values → Kind (choose env i)
      chosen_kind i l = go (exact_found i env.names) refl (name_found i env.names) refl
        where
          go : (o : Option ℕ) → exact_found i env.names ≡ o → (r : Option ℕ) → name_found i env.names ≡ r → Kind (or_else o (or_else r 0))
          go (Some n) e r f = kind_of_exact i n env.names chain.named e
          go None e (Some n) f = kind_of_name i n env.names chain.named f
          go None e None f = let z = sym (ap is_known f) ∙ named_at i l in cc z

      others_kind : AllByRecursion Kind others
      others_kind = all_from_places Kind others one
        where
          one : (j x : ℕ) → slice_get others j ≡ Some x → Kind x
          one j x at =
              let f = from_back others j x at in
              let l : length others - 1 - j < length values = omega (arith, slice_get_within others j x at, close.as_many) in
              subst Kind (same_Some (choose env (length others - 1 - j)) x (sym (at_picked (length values) env (length others - 1 - j) l) ∙ f)) (chosen_kind (length others - 1 - j) l)

      -- ---- the sorts that are picked are those of the match
      terms_sorted : list_all (sorts_pass (has_sort env.sorts)) p.terms ≡ true
      terms_sorted =
          (and_parts (list_all (sorts_pass (has_sort env.sorts)) p.terms) (list_all (sorts_pass (has_sort env.sorts)) (map Bound (numbers_below (length p.vars))))
          (sym (list_all-append (sorts_pass (has_sort env.sorts)) p.terms (map Bound (numbers_below (length p.vars)))) ∙ chain.sorted)).0

      sort_at : (i : ℕ) (x : Sort) → slice_get sorts i ≡ Some x → sort_of_variable env i ≡ x
      sort_at i x at = go (found i env.sorts) refl
        where
          go : (o : Option Sort) → found i env.sorts ≡ o → sort_of_variable env i ≡ x
          go (Some t) e =
              ap (λ o. or_else o UnitSort) e ∙ sym (found_right sorts i env.sorts t chain.fitting.sorted e) ∙ ap (λ o. or_else o (Var i)) at
          go None e =
              let l : i < p.sort_vars = omega (arith, slice_get_within sorts i x at, is.is.one_each) in
              elim (cases_Bool (list_any (term_has i) p.terms)) as (λ _. sort_of_variable env i ≡ x) [
                | inl y ↦ let z : is_known {A = Sort} None ≡ true = sym (ap is_known e) ∙ sort_of_trigger (has_sort env.sorts) i p.terms terms_sorted (constants.none i l) y in cc z
                | inr o ↦ ap (λ o. or_else o UnitSort) e ∙ same_Some UnitSort x (sym (is.is.determined i l o) ∙ at)
              ]

      sorts_same : picked_sorts p.sort_vars env ≡ sorts
      sorts_same =
          taken (sort_of_variable env) sorts sort_at p.sort_vars (omega (arith, is.is.one_each)) ∙ ap (λ n. take n sorts) (sym is.is.one_each) ∙ take_all sorts

      -- ---- what is picked passes the test
      one_sort : (j v w : ℕ) → slice_get others j ≡ Some v → slice_get values j ≡ Some w → sort_of sig (named ts v) ≡ sort_of sig (named ts w)
      one_sort j v w e f = sorted v w (near_at alike (has_exact env) values others close j w v f e) (named ts v) (named ts w) (term_there v (known_below v (all_at Kind others j v others_kind e))) (term_there w (all_at (λ n. n < length ns) values j w is.within f))
        where
          term_there : (n : ℕ) → n < length ns → slice_get ts n ≡ Some (named ts n)
          term_there n l =
              let g = value_at ts n (omega (arith, l, length_terms (shapes ns), length-map ns shape_of)) in
              g.1 ∙ ap Some (sym (name_term ts n g.0 g.1))

      sorts_kept : sorts_of sig (terms_of others) ≡ sorts_of sig (terms_of values)
      sorts_kept =
          ap all_known (map_map (named ts) (sort_of sig) others ∙ map_by (λ n. sort_of sig (named ts n)) others values close.as_many one_sort ∙ sym (map_map (named ts) (sort_of sig) values))

      determined : (i : ℕ) → i < p.sort_vars → is_determined p.terms sorts i ≡ true
      determined i l = elim (cases_Bool (list_any (term_has i) p.terms)) as (λ _. is_determined p.terms sorts i ≡ true) [
        | inl y ↦ ap (λ b. b || is_unit_at (slice_get sorts i)) y
        | inr o ↦
            ap (λ b. b || is_unit_at (slice_get sorts i)) o ∙ ap is_unit_at (is.is.determined i l o)
            ∙ decided_of (Sort_discrete UnitSort UnitSort) refl
      ]

      -- a match passes the test itself
      pub passes_itself : test_of m ≡ true
      passes_itself =
          and_from _ _
          (and_from _ _
          (and_from _ _ (and_from _ _ (eq-eqb (length sorts) p.sort_vars is.is.one_each) is.is.closed)
          (test_of_all (λ i. is_determined p.terms sorts i ≡ true) (is_determined p.terms sorts) (λ x y. y) (numbers_below p.sort_vars) (all_numbers p.sort_vars (λ i. is_determined p.terms sorts i ≡ true) determined)))
          (test_of_all Kind (is_known_name store below) (λ x y. y) values kinds))
          (and_from _ _ is.is.sorted
          (test_of_all (λ u. (n : ℕ) × In (numbers_below (length store.nodes)) n × (test store alike below sorts values is_arithmetic u n ≡ true)) (passes store alike below k sorts values (terms_of values))
          (λ u y. (pass_says sig ns alike below k sorts values s has q kinds u).1 y) p.terms tested))

      abbrev answer : Subst
      answer = record { sorts = sorts; terms = others }

      answer_is : answer ≡ subst_of p env
      answer_is = λ i. record { sorts = sym sorts_same i; terms = picked (as_many i) env }

      answer_passes : test_of answer ≡ true
      answer_passes =
          and_from _ _
          (and_from _ _
          (and_from _ _ (and_from _ _ (eq-eqb (length sorts) p.sort_vars is.is.one_each) is.is.closed)
          (test_of_all (λ i. is_determined p.terms sorts i ≡ true) (is_determined p.terms sorts) (λ x y. y) (numbers_below p.sort_vars) (all_numbers p.sort_vars (λ i. is_determined p.terms sorts i ≡ true) determined)))
          (test_of_all Kind (is_known_name store below) (λ x y. y) others others_kind))
          (and_from _ _ (ap (λ o. or_else (o >>= λ os. Some (same_sorts os (map (put_sort sorts) p.vars))) false) sorts_kept ∙ is.is.sorted)
          (test_of_all (λ u. (n : ℕ) × In (numbers_below (length store.nodes)) n × (test store alike below sorts others is_arithmetic u n ≡ true)) (passes store alike below k sorts others (terms_of others))
          (λ u y. (pass_says sig ns alike below k sorts others s has q others_kind u).1 y) p.terms
          (all_front (λ u. (n : ℕ) × In (numbers_below (length store.nodes)) n × (test store alike below sorts others is_arithmetic u n ≡ true)) p.terms (map Bound (numbers_below (length p.vars))) others_tested)))

      answer_same : is_same_match alike m answer ≡ true
      answer_same =
          and_from _ _ (sorts_yes sorts sorts refl)
          (same_by alike values others (sym close.as_many) (λ j v w e f. q.symmetric w v (near_at alike (has_exact env) values others close j v w e f)))

      pub test_complete : (all : List Bindings) → AllAmong (chained store alike below k full (empty ∷ [])) all → IsAnswered alike (once_each test_of alike [] (map (subst_of p) all)) m
      test_complete all among =
          let r = once_answers alike q test_of (map (subst_of p) all) [] (subst_of p env) (in_map (subst_of p) all env (among env chain.offered)) (subst (λ x. test_of x ≡ true) answer_is answer_passes) in
          record { answer = r.answer; among = r.among; same = on alike q m (subst_of p env) r.answer (subst (λ x. is_same_match alike m x ≡ true) answer_is answer_same) r.same }

    -- of whatever is offered, if all that the trigger asks for is among it
    pub are_matches : (all : List Bindings) → AllAmong (chained store alike below k full (empty ∷ [])) all → AreMatches (record { signature = sig; nodes = ns }) alike below p (once_each test_of alike [] (map (subst_of p) all))
    are_matches all among = record {
      sound = λ m i. test_sound m (once_passes alike q test_of (map (subst_of p) all) [] (λ x j. elim j [ ]) m i);
      complete = λ m is. test_complete m is all among;
      once = once_distinct alike q test_of (map (subst_of p) all) [] (λ i j m k e f g. cc e);
    }

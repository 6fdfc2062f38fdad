-- A decision whether a state without quantified literals is saturated.
use Rattle.std.specs.Prelude.{ℕ, zero, suc, ◌<◌, Bool, true, false, cond, nat_eq, nat_lt, ◌≡◌, ◌≢◌, ◌⊎◌, List, [], ◌∷◌, slice_get, Option, Some}
use Rattle.std.specs.List.{AllByRecursion, Contains}
use Rattle.std.proofs.Common.{inl, inr}
use Rattle.std.proofs.lemmas.Bool.{eqb-true}
use mathlib.Core.Path.{refl, sym, ap, subst, ◌∙◌}
use native.Mathlib.Decide.{map_dec, ℕ_discrete}
use native.Mathlib.Omega.{arith}
use Rattle.ae_base.specs.Options.{only}
use Rattle.ae_base.proofs.Options.{never_some, bind_some, only_some}
use Rattle.ae_math.specs.Fractions.{zero_ℚ, one_ℚ, ℚ_discrete, is_positive}
use Rattle.ae_math.specs.Forms.{value}
use Rattle.ae_core.specs.Decided.{Head_discrete, Lit_discrete, Sorts_discrete, Term_discrete}
use Rattle.ae_core.specs.Sorts.{sort_of}
use Rattle.ae_core.specs.declared.formulas.Formula.{Formula, Formula-F, Eq, Pred, out-Formula, roll-Formula, roll-out-Formula}
use Rattle.ae_core.specs.declared.formulas.Formula.TheOpen as layer
use Rattle.ae_core.specs.declared.formulas.Formula.TheVariants.{outs-Eq, outs-Pred, rolls-Eq, rolls-Pred}
use Rattle.ae_core.specs.declared.formulas.Lit.{Lit}
use Rattle.ae_core.specs.declared.formulas.Quant.{Quant}
use Rattle.ae_core.specs.declared.problems.Nature.{Nature}
use Rattle.ae_core.specs.declared.problems.Nature.TheVariants.{Free, Ac, Choice}
use Rattle.ae_core.specs.declared.problems.Problem.{Problem}
use Rattle.ae_core.specs.declared.terms.Head.{Head}
use Rattle.ae_core.specs.declared.terms.Head.TheVariants as head
use Rattle.ae_core.specs.declared.terms.Sort.{Sort, Int, out-Sort}
use Rattle.ae_core.specs.declared.terms.Term.{Term, Apply}
use Rattle.ae_rules.specs.Clauses.{Clause, opposite, is_true, is_false, yes_of, no_of, row, row_of}
use Rattle.ae_rules.specs.Derivations.{goal_body, IsConstructor}
use Rattle.ae_rules.specs.Instances.{hypothesis, choices_of}
use Rattle.ae_rules.specs.declared.rows.TheConstants.{AND_TO_LEFT, AND_TO_RIGHT, AND_FROM_BOTH, OR_FROM_LEFT, OR_FROM_RIGHT, OR_TO_EITHER, IFF_TO_RIGHT, IFF_TO_LEFT}
use Rattle.ae_rules.specs.declared.rows.TheConstants.{IFF_FROM_NEITHER, IFF_FROM_BOTH, XOR_TO_EITHER, XOR_TO_NOT_BOTH, XOR_FROM_LEFT, XOR_FROM_RIGHT, TRUE_STANDS, FALSE_FAILS}
use Rattle.ae_num.specs.declared.forms.Lin.{Lin}
use Rattle.ae_num.specs.declared.forms.Value.{Value, Value-F, Number, out-Value, roll-Value, roll-out-Value}
use Rattle.ae_num.specs.declared.forms.Value.TheOpen as value_layer
use Rattle.ae_num.specs.declared.forms.Value.TheVariants.{outs-Number, rolls-Number}
use Rattle.ae_journal.specs.Values.{Val, Sum, Parts_discrete, minus_val, sum_in}
use Rattle.ae_journal.specs.Systems.{Has, IsCompleted, IsName, IsNamed, ValueOf, value_at}
use Rattle.ae_journal.specs.States.{AllSame, AreSame, HoldsAt, IsFirst, IsSaturated, SomeStands, at_point, inequality, outside, all_taken}
use Rattle.ae_journal.specs.States.{Comes, HasGeneration, Matches, Owner, of_literal, of_axiom, quant_of, is_universal_by}
use Rattle.ae_journal.specs.States.AreSame.{itself, by_value}
use Rattle.ae_journal.specs.States.IsFirst.{of_hypothesis, of_goal}
use Rattle.ae_journal.specs.States.Comes.{first as comes_first, by_row, by_block}
use Rattle.ae_journal.specs.declared.systems.Saturated.{Saturated}
use Rattle.ae_journal.proofs.Splits.{all_contained, contains_cases, contains_here, contains_later}
use Rattle.ae_system_checks.specs.Tests.{IsQuantifierFree}
use Rattle.ae_system_checks.specs.Whole.{IsWhole}
use Rattle.ae_decide.specs.Inner.Decisions.{both, denied, of_each}
use Rattle.ae_system_checks.proofs.Decide.{either, implied, at_all, at_some, where_known, known_with}
use Rattle.ae_system_checks.proofs.Overlaps.{decide_completed}
use Rattle.ae_system_checks.proofs.Tests.{each_applied, has_value, is_named, sort_is, value_is}
use Rattle.ae_system_checks.proofs.WholeValues.{decide_whole}

is_sign : (a b : Bool) → Dec (a ≡ b)
is_sign true true = yes refl
is_sign false false = yes refl
is_sign true false = no (λ e. cc)
is_sign false true = no (λ e. cc)

-- ---- elements of lists
module _ {A : Type 0} where
  each_of : (xs : List A) (P : A → Type 0) → ((x : A) → Dec (P x)) → Dec ((x : A) → Contains xs x → P x)
  each_of xs P d = map_dec (λ a x i. all_contained P xs x a i) (back xs) (of_each P d xs)
    where
      back : (xs : List A) → ((x : A) → Contains xs x → P x) → AllByRecursion P xs
      back [] f = tt
      back (x ∷ xs) f = (f x (contains_here x xs), back xs (λ z i. f z (contains_later x xs z i)))

  some_of : (xs : List A) (P : A → Type 0) → ((x : A) → Dec (P x)) → Dec ((x : A) × Contains xs x × P x)
  some_of [] P d = no (λ (x, i, p). omega (arith, i.1))
  some_of (x ∷ xs) P d =
      map_dec (λ s. elim s as (λ _. (z : A) × Contains (x ∷ xs) z × P z) [ inl p ↦ (x, contains_here x xs, p) | inr w ↦ (w.0, contains_later x xs w.0 w.1, w.2) ])
      there (either (d x) (some_of xs P d))
    where
      there : (z : A) × Contains (x ∷ xs) z × P z → P x ⊎ ((z : A) × Contains xs z × P z)
      there (z, i, p) = elim (contains_cases x xs z i) [ inl e ↦ inl (subst P (sym e) p) | inr j ↦ inr (z, j, p) ]

  contains : Discrete A → (xs : List A) (x : A) → Dec (Contains xs x)
  contains d xs x =
      map_dec (λ (z, i, e). subst (Contains xs) e i) (λ i. (x, i, refl)) (some_of xs (λ z. z ≡ x) (λ z. d z x))

each_below : (n : ℕ) (P : ℕ → Type 0) → ((k : ℕ) → Dec (P k)) → Dec ((k : ℕ) → k < n → P k)
each_below zero P d = yes (λ k h. absurd (omega (arith, h)))
each_below (suc n) P d =
    map_dec (λ (p, f) k h. by_place p f k h (ℕ_discrete n k)) (λ f. (f n (omega arith), λ k h. f k (omega (arith, h)))) (both (d n) (each_below n P d))
  where
    by_place : P n → ((k : ℕ) → k < n → P k) → (k : ℕ) → k < suc n → Dec (n ≡ k) → P k
    by_place p f k h (yes e) = subst P e p
    by_place p f k h (no m) = f k (below k h m)
      where
        below : (k : ℕ) → k < suc n → n ≢ k → k < n
        below k h m = omega (arith, h, m)

-- ---- formulas by their shape
is_equation : (f : Formula) (s t : Term) → out-Formula f ≡ layer.Eq s t → f ≡ Eq s t
is_equation f s t e = sym (roll-out-Formula f) ∙ ap roll-Formula e ∙ rolls-Eq s t

is_predicate : (f : Formula) (q : ℕ) (ss : List Sort) (ts : List Term) → out-Formula f ≡ layer.Pred q ss ts → f ≡ Pred q ss ts
is_predicate f q ss ts e = sym (roll-out-Formula f) ∙ ap roll-Formula e ∙ rolls-Pred q ss ts

tells_equation : (f : Formula) (g : Formula-F Formula Quant) → out-Formula f ≡ g → (s t : Term) → f ≡ Eq s t → g ≡ layer.Eq s t
tells_equation f g e s t w = sym e ∙ ap out-Formula w ∙ outs-Eq s t

tells_predicate : (f : Formula) (g : Formula-F Formula Quant) → out-Formula f ≡ g → (q : ℕ) (ss : List Sort) (ts : List Term) → f ≡ Pred q ss ts
    → g ≡ layer.Pred q ss ts
tells_predicate f g e q ss ts w = sym e ∙ ap out-Formula w ∙ outs-Pred q ss ts

module _ (f : Formula) (P : Term → Term → Type 0) (d : (s t : Term) → Dec (P s t)) where
  where_equation : Dec ((s t : Term) → f ≡ Eq s t → P s t)
  where_equation = go (out-Formula f) refl
    where
      moved : (a b s t : Term) → ◌≡◌ {A = Formula-F Formula Quant} (layer.Eq a b) (layer.Eq s t) → P a b → P s t
      moved a b s t e p =
          let x : a ≡ s = cc in
          let z : b ≡ t = cc in
          subst (λ (w : Term × Term). P w.0 w.1) (λ i. (x i, z i)) p

      go : (g : Formula-F Formula Quant) → out-Formula f ≡ g → Dec ((s t : Term) → f ≡ Eq s t → P s t)
      go (layer.Eq a b) e =
          map_dec (λ p s t w. moved a b s t (tells_equation f _ e s t w) p) (λ h. h a b (is_equation f a b e)) (d a b)
      go layer.True e = yes (λ s t w. let z = tells_equation f _ e s t w in absurd (cc))
      go layer.False e = yes (λ s t w. let z = tells_equation f _ e s t w in absurd (cc))
      go (layer.Lt a b) e = yes (λ s t w. let z = tells_equation f _ e s t w in absurd (cc))
      go (layer.Le a b) e = yes (λ s t w. let z = tells_equation f _ e s t w in absurd (cc))
      go (layer.Pred p os us) e = yes (λ s t w. let z = tells_equation f _ e s t w in absurd (cc))
      go (layer.Not a) e = yes (λ s t w. let z = tells_equation f _ e s t w in absurd (cc))
      go (layer.And a b) e = yes (λ s t w. let z = tells_equation f _ e s t w in absurd (cc))
      go (layer.Or a b) e = yes (λ s t w. let z = tells_equation f _ e s t w in absurd (cc))
      go (layer.Xor a b) e = yes (λ s t w. let z = tells_equation f _ e s t w in absurd (cc))
      go (layer.Iff a b) e = yes (λ s t w. let z = tells_equation f _ e s t w in absurd (cc))
      go (layer.All q) e = yes (λ s t w. let z = tells_equation f _ e s t w in absurd (cc))
      go (layer.Ex q) e = yes (λ s t w. let z = tells_equation f _ e s t w in absurd (cc))

module _ (f : Formula) (P : ℕ → List Sort → List Term → Type 0) (d : (q : ℕ) (ss : List Sort) (ts : List Term) → Dec (P q ss ts)) where
  where_predicate : Dec ((q : ℕ) (ss : List Sort) (ts : List Term) → f ≡ Pred q ss ts → P q ss ts)
  where_predicate = go (out-Formula f) refl
    where
      moved : (p q : ℕ) (os ss : List Sort) (us ts : List Term) → ◌≡◌ {A = Formula-F Formula Quant} (layer.Pred p os us) (layer.Pred q ss ts)
          → P p os us → P q ss ts
      moved p q os ss us ts e w =
          let x : p ≡ q = cc in
          let y : os ≡ ss = cc in
          let z : us ≡ ts = cc in
          subst (λ (v : ℕ × List Sort × List Term). P v.0 v.1 v.2) (λ i. (x i, y i, z i)) w

      go : (g : Formula-F Formula Quant) → out-Formula f ≡ g → Dec ((q : ℕ) (ss : List Sort) (ts : List Term) → f ≡ Pred q ss ts → P q ss ts)
      go (layer.Pred p os us) e =
          map_dec (λ x q ss ts w. moved p q os ss us ts (tells_predicate f _ e q ss ts w) x) (λ h. h p os us (is_predicate f p os us e)) (d p os us)
      go layer.True e = yes (λ q ss ts w. let z = tells_predicate f _ e q ss ts w in absurd (cc))
      go layer.False e = yes (λ q ss ts w. let z = tells_predicate f _ e q ss ts w in absurd (cc))
      go (layer.Eq a b) e = yes (λ q ss ts w. let z = tells_predicate f _ e q ss ts w in absurd (cc))
      go (layer.Lt a b) e = yes (λ q ss ts w. let z = tells_predicate f _ e q ss ts w in absurd (cc))
      go (layer.Le a b) e = yes (λ q ss ts w. let z = tells_predicate f _ e q ss ts w in absurd (cc))
      go (layer.Not a) e = yes (λ q ss ts w. let z = tells_predicate f _ e q ss ts w in absurd (cc))
      go (layer.And a b) e = yes (λ q ss ts w. let z = tells_predicate f _ e q ss ts w in absurd (cc))
      go (layer.Or a b) e = yes (λ q ss ts w. let z = tells_predicate f _ e q ss ts w in absurd (cc))
      go (layer.Xor a b) e = yes (λ q ss ts w. let z = tells_predicate f _ e q ss ts w in absurd (cc))
      go (layer.Iff a b) e = yes (λ q ss ts w. let z = tells_predicate f _ e q ss ts w in absurd (cc))
      go (layer.All q) e = yes (λ q ss ts w. let z = tells_predicate f _ e q ss ts w in absurd (cc))
      go (layer.Ex q) e = yes (λ q ss ts w. let z = tells_predicate f _ e q ss ts w in absurd (cc))

-- what holds of the literals that say an equation with a sign, or a predicate with a sign
equations : (c : Bool) (l : Lit) (P : Term → Term → Type 0) → ((s t : Term) → Dec (P s t))
    → Dec ((s t : Term) → l ≡ record { positive = c; formula = Eq s t } → P s t)
equations c l P d =
    map_dec (λ f s t e. f (ap (λ (m : Lit). m.positive) e) s t (ap (λ (m : Lit). m.formula) e))
    (λ f p s t q. f s t (λ i. record { positive = p i; formula = q i })) (implied (is_sign l.positive c) (where_equation l.formula P d))

predicates : (c : Bool) (l : Lit) (P : ℕ → List Sort → List Term → Type 0) → ((q : ℕ) (ss : List Sort) (ts : List Term) → Dec (P q ss ts))
    → Dec ((q : ℕ) (ss : List Sort) (ts : List Term) → l ≡ record { positive = c; formula = Pred q ss ts } → P q ss ts)
predicates c l P d =
    map_dec (λ f q ss ts e. f (ap (λ (m : Lit). m.positive) e) q ss ts (ap (λ (m : Lit). m.formula) e))
    (λ f p q ss ts w. f q ss ts (λ i. record { positive = p i; formula = w i })) (implied (is_sign l.positive c) (where_predicate l.formula P d))

-- ---- rows have numbers up to 16
step : (r : ℕ) (c : Clause) (n : ℕ) (d : Clause) (later : Option Clause) → n < 17 → (later ≡ Some c → r < 17)
    → cond (nat_eq r n) (Some d) later ≡ Some c → r < 17
step r c n d later h next e = by_test (nat_eq r n) refl e
  where
    by_test : (b : Bool) → nat_eq r n ≡ b → cond b (Some d) later ≡ Some c → r < 17
    by_test true q e = subst (λ m. m < 17) (sym (eqb-true r n q)) h
    by_test false q e = next e

pub row_bound : (r : ℕ) (f : Formula) (c : Clause) → row r f ≡ Some c → r < 17
unfolding row row_of
row_bound r f c e = go (out-Formula f) e
  where
    go : (g : Formula-F Formula Quant) → row_of r f g ≡ Some c → r < 17
    go (layer.And a b) e = step r c AND_TO_LEFT _ _ (omega arith) (λ e. step r c AND_TO_RIGHT _ _ (omega arith) (λ e. step r c AND_FROM_BOTH _ _ (omega arith) (λ e. never_some c e) e) e) e
    go (layer.Or a b) e = step r c OR_FROM_LEFT _ _ (omega arith) (λ e. step r c OR_FROM_RIGHT _ _ (omega arith) (λ e. step r c OR_TO_EITHER _ _ (omega arith) (λ e. never_some c e) e) e) e
    go (layer.Iff a b) e =
        step r c IFF_TO_RIGHT _ _ (omega arith) (λ e. step r c IFF_TO_LEFT _ _ (omega arith)
        (λ e. step r c IFF_FROM_NEITHER _ _ (omega arith) (λ e. step r c IFF_FROM_BOTH _ _ (omega arith) (λ e. never_some c e) e) e) e) e
    go (layer.Xor a b) e =
        step r c XOR_TO_EITHER _ _ (omega arith) (λ e. step r c XOR_TO_NOT_BOTH _ _ (omega arith)
        (λ e. step r c XOR_FROM_LEFT _ _ (omega arith) (λ e. step r c XOR_FROM_RIGHT _ _ (omega arith) (λ e. never_some c e) e) e) e) e
    go layer.True e = step r c TRUE_STANDS _ _ (omega arith) (λ e. never_some c e) e
    go layer.False e = step r c FALSE_FAILS _ _ (omega arith) (λ e. never_some c e) e
    go (layer.Eq a b) e = never_some c e
    go (layer.Lt a b) e = never_some c e
    go (layer.Le a b) e = never_some c e
    go (layer.Pred p os us) e = never_some c e
    go (layer.Not a) e = never_some c e
    go (layer.All q) e = never_some c e
    go (layer.Ex q) e = never_some c e

-- ---- values
where_number : (w : Value) (P : Lin → Type 0) → ((f : Lin) → Dec (P f)) → Dec ((f : Lin) → w ≡ Number f → P f)
where_number w P d = go (out-Value w) refl
  where
    tells : (g : Value-F Value) → out-Value w ≡ g → (f : Lin) → w ≡ Number f → g ≡ value_layer.Number f
    tells g e f q = sym e ∙ ap out-Value q ∙ outs-Number f

    moved : (a f : Lin) → ◌≡◌ {A = Value-F Value} (value_layer.Number a) (value_layer.Number f) → P a → P f
    moved a f e p = let x : a ≡ f = cc in subst P x p

    go : (g : Value-F Value) → out-Value w ≡ g → Dec ((f : Lin) → w ≡ Number f → P f)
    go (value_layer.Number a) e =
        map_dec (λ p f q. moved a f (tells _ e f q) p) (λ h. h a (sym (roll-out-Value w) ∙ ap roll-Value e ∙ rolls-Number a)) (d a)
    go (value_layer.Leaf n) e = yes (λ f q. let z = tells _ e f q in absurd (cc))
    go (value_layer.Fields vs) e = yes (λ f q. let z = tells _ e f q in absurd (cc))

no_terms : (us : List Term) → Dec (us ≡ [])
no_terms [] = yes refl
no_terms (t ∷ ts) = no (λ e. cc)

module _ (p : Problem) (g : ℕ) (st : Saturated) where
  stands : (l : Lit) → Dec (Contains st.literals l)
  stands l = contains Lit_discrete st.literals l

  -- ---- terms with one value
  abbrev OneValue : Term → Term → Type 0
  OneValue s t = (v : Val) × ValueOf st.system s v × ValueOf st.system t v

  one_value : (s t : Term) → Dec (OneValue s t)
  one_value s t =
      map_dec (λ (n, u, i, (e, (v, w, o))). (v, (n, i ∙ ap (λ (x : Term). Some x) e, w), o)) (λ (v, (n, i, w), o). (n, s, i, (refl, (v, w, o))))
      (at_some st.system.names (λ n u. (u ≡ s) × ((v : Val) × (value_at st.system n ≡ Some v) × ValueOf st.system t v))
      (λ n u. both (Term_discrete u s) (known_with (value_at st.system n) (λ v. ValueOf st.system t v) (λ v. has_value p.signature st.system t v))))

  -- what holds of the values of a term
  by_value_of : (t : Term) (P : Val → Type 0) → ((v : Val) → Dec (P v)) → Dec ((v : Val) → ValueOf st.system t v → P v)
  by_value_of t P d =
      map_dec (λ f v (n, i, w). f n t i refl v w) (λ f n u i e v w. f v (n, i ∙ ap (λ (x : Term). Some x) e, w))
      (at_all st.system.names (λ n u. u ≡ t → (v : Val) → value_at st.system n ≡ Some v → P v)
      (λ n u. implied (Term_discrete u t) (where_known (value_at st.system n) P d)))

  abbrev Shared : Term → Term → Type 0
  Shared t u = (s : Sort) × (sort_of p.signature t ≡ Some s) × ((sort_of p.signature u ≡ Some s) × OneValue t u)

  made : (t u : Term) → (t ≡ u) ⊎ Shared t u → AreSame p.signature st.system t u
  made t u (inl e) = subst (AreSame p.signature st.system t) e itself
  made t u (inr (s, a, (b, (v, x, z)))) = by_value s v a b x z

  tells : (t u : Term) → AreSame p.signature st.system t u → (t ≡ u) ⊎ Shared t u
  tells _ _ itself = inl refl
  tells _ _ (by_value s v a b x z) = inr (s, a, (b, (v, x, z)))

  are_same : (t u : Term) → Dec (AreSame p.signature st.system t u)
  are_same t u =
      map_dec (made t u) (tells t u)
      (either (Term_discrete t u)
      (known_with (sort_of p.signature t) (λ s. (sort_of p.signature u ≡ Some s) × OneValue t u) (λ s. both (sort_is p.signature st.system u s) (one_value t u))))

  all_same : (ts us : List Term) → Dec (AllSame p.signature st.system ts us)
  all_same [] [] = yes tt
  all_same (t ∷ ts) (u ∷ us) = both (are_same t u) (all_same ts us)
  all_same [] (u ∷ us) = no (λ e. e)
  all_same (t ∷ ts) [] = no (λ e. e)

  -- ---- the clauses
  abbrev Consistent : Type 0
  Consistent = (l : Lit) → Contains st.literals l → ¬ Contains st.literals (opposite l)

  consistent : Dec Consistent
  consistent = each_of st.literals (λ l. ¬ Contains st.literals (opposite l)) (λ l. denied (stands (opposite l)))

  abbrev Named : Type 0
  Named = (l : Lit) → Contains st.literals l → AllByRecursion (IsNamed st.system) (outside l.formula)

  named : Dec Named
  named =
      each_of st.literals (λ l. AllByRecursion (IsNamed st.system) (outside l.formula))
      (λ l. of_each (IsNamed st.system) (is_named p.signature st.system) (outside l.formula))

  abbrev Firsts : Type 0
  Firsts = (l : Lit) → IsFirst p g st l → Contains st.literals l

  firsts : Dec Firsts
  firsts =
      map_dec there (λ f. (λ k i a h e. f (yes_of h) (of_hypothesis k h e), λ h e. f (no_of h) (of_goal h e)))
      (both (at_all p.items (λ k i. (f : Formula) → hypothesis p g k [] ≡ Some f → Contains st.literals (yes_of f))
      (λ k i. where_known (hypothesis p g k []) (λ f. Contains st.literals (yes_of f)) (λ f. stands (yes_of f))))
      (where_known (goal_body p g) (λ f. Contains st.literals (no_of f)) (λ f. stands (no_of f))))
    where
      there : ((k : ℕ) (i : _) → slice_get p.items k ≡ Some i → (f : Formula) → hypothesis p g k [] ≡ Some f → Contains st.literals (yes_of f))
          × ((f : Formula) → goal_body p g ≡ Some f → Contains st.literals (no_of f)) → Firsts
      there (a, b) l (of_hypothesis k f e) =
          let x = bind_some (only (nat_lt k g) (slice_get p.items k)) _ f e in
          let o = only_some (nat_lt k g) (slice_get p.items k) x.0 x.1 in
          a k x.0 o.1 f e
      there (a, b) l (of_goal f e) = b f e

  abbrev TakenApart : Type 0
  TakenApart = (l : Lit) → Contains st.literals l → (r : ℕ) (c : Clause) → row r l.formula ≡ Some c → SomeStands p g st c

  taken_apart : Dec TakenApart
  taken_apart = each_of st.literals (λ l. (r : ℕ) (c : Clause) → row r l.formula ≡ Some c → SomeStands p g st c) of_rows
    where
      of_rows : (l : Lit) → Dec ((r : ℕ) (c : Clause) → row r l.formula ≡ Some c → SomeStands p g st c)
      of_rows l =
          map_dec (λ f r c e. f r (row_bound r l.formula c e) c e) (λ f r h c e. f r c e)
          (each_below 17 (λ r. (c : Clause) → row r l.formula ≡ Some c → SomeStands p g st c)
          (λ r. where_known (row r l.formula) (SomeStands p g st) (λ c. some_of c (Contains st.literals) stands)))

  abbrev Equal : Type 0
  Equal = (s t : Term) → Contains st.literals (is_true (Eq s t)) → OneValue s t

  equal : Dec Equal
  equal =
      map_dec (λ f s t i. f (is_true (Eq s t)) i s t refl) (λ f l i s t e. f s t (subst (Contains st.literals) e i))
      (each_of st.literals (λ l. (s t : Term) → l ≡ is_true (Eq s t) → OneValue s t) (λ l. equations true l OneValue one_value))

  abbrev Unequal : Type 0
  Unequal = (s t : Term) (v : Val) → Contains st.literals (is_false (Eq s t)) → ValueOf st.system s v → ValueOf st.system t v → ⊥

  unequal : Dec Unequal
  unequal =
      map_dec (λ f s t v i a b. f (is_false (Eq s t)) i s t refl (v, a, b)) (λ f l i s t e (v, a, b). f s t v (subst (Contains st.literals) e i) a b)
      (each_of st.literals (λ l. (s t : Term) → l ≡ is_false (Eq s t) → ¬ OneValue s t) (λ l. equations false l (λ s t. ¬ OneValue s t) (λ s t. denied (one_value s t))))

  is_constructor : (h : Head) → Dec (IsConstructor p.signature h)
  is_constructor (head.Symbol n) = map_dec (λ (e, i, (of, place, q)). (e, of, place, i, q)) (λ (e, of, place, i, q). (e, i, (of, place, q)))
      (known_with (slice_get p.signature.symbols n) (λ e. (of : ℕ) × (place : ℕ) × (e.nature ≡ Choice of place)) (λ e. nature e.nature))
    where
      nature : (m : Nature) → Dec ((of : ℕ) × (place : ℕ) × (m ≡ Choice of place))
      nature Free = no (λ (of, place, e). cc)
      nature Ac = no (λ (of, place, e). cc)
      nature (Choice of place) = yes (of, place, refl)
  is_constructor head.True = yes tt
  is_constructor head.False = yes tt
  is_constructor head.Void = yes tt
  is_constructor (head.Build n) = no (λ e. e)
  is_constructor (head.Field n i) = no (λ e. e)
  is_constructor (head.Int o) = no (λ e. e)
  is_constructor (head.Real o) = no (λ e. e)

  abbrev Constructors : Type 0
  Constructors =
      (h i : Head) (v : Val) → IsConstructor p.signature h → IsConstructor p.signature i → ValueOf st.system (Apply h [] []) v
      → ValueOf st.system (Apply i [] []) v → h ≡ i

  constructors : Dec Constructors
  constructors =
      map_dec (λ f h i v c d (n, a, w) (m, b, x). f n h [] [] a refl refl c v w m i [] [] b refl refl d x) back
      (each_applied p.signature st.system
      (λ n h ss us. ss ≡ [] → us ≡ [] → IsConstructor p.signature h → (v : Val) → value_at st.system n ≡ Some v
      → (m : ℕ) (i : Head) (os : List Sort) (ws : List Term) → IsName st.system m (Apply i os ws) → os ≡ [] → ws ≡ [] → IsConstructor p.signature i
      → value_at st.system m ≡ Some v → h ≡ i)
      (λ n h ss us. implied (Sorts_discrete ss [])
      (implied (no_terms us)
      (implied (is_constructor h)
      (where_known (value_at st.system n)
      (λ v. (m : ℕ) (i : Head) (os : List Sort) (ws : List Term) → IsName st.system m (Apply i os ws) → os ≡ [] → ws ≡ [] → IsConstructor p.signature i
      → value_at st.system m ≡ Some v → h ≡ i)
      (λ v. each_applied p.signature st.system
      (λ m i os ws. os ≡ [] → ws ≡ [] → IsConstructor p.signature i → value_at st.system m ≡ Some v → h ≡ i)
      (λ m i os ws. implied (Sorts_discrete os [])
      (implied (no_terms ws) (implied (is_constructor i) (implied (value_is p.signature st.system m v) (Head_discrete h i)))))))))))
    where
      plain : (n : ℕ) (h : Head) (ss : List Sort) (us : List Term) → IsName st.system n (Apply h ss us) → ss ≡ [] → us ≡ [] → IsName st.system n (Apply h [] [])
      plain n h ss us i a b = subst (λ (w : List Sort × List Term). IsName st.system n (Apply h w.0 w.1)) (λ k. (a k, b k)) i

      back : Constructors → (n : ℕ) (h : Head) (ss : List Sort) (us : List Term) → IsName st.system n (Apply h ss us) → ss ≡ [] → us ≡ []
          → IsConstructor p.signature h → (v : Val) → value_at st.system n ≡ Some v → (m : ℕ) (i : Head) (os : List Sort) (ws : List Term)
          → IsName st.system m (Apply i os ws) → os ≡ [] → ws ≡ [] → IsConstructor p.signature i → value_at st.system m ≡ Some v → h ≡ i
      back f n h ss us a e q c v w m i os ws b r t d x =
          f h i v c d (n, plain n h ss us a e q, w) (m, plain m i os ws b r t, x)

  abbrev Predicates : Type 0
  Predicates =
      (q : ℕ) (ss : List Sort) (ts us : List Term) → Contains st.literals (is_true (Pred q ss ts)) → Contains st.literals (is_false (Pred q ss us))
      → ¬ AllSame p.signature st.system ts us

  decide_predicates : Dec Predicates
  decide_predicates =
      map_dec (λ f q ss ts us i j. f (is_true (Pred q ss ts)) i q ss ts refl (is_false (Pred q ss us)) j q ss us refl refl refl) back
      (each_of st.literals
      (λ l. (q : ℕ) (ss : List Sort) (ts : List Term) → l ≡ is_true (Pred q ss ts) → (m : Lit) → Contains st.literals m
      → (r : ℕ) (os : List Sort) (us : List Term) → m ≡ is_false (Pred r os us) → q ≡ r → ss ≡ os → ¬ AllSame p.signature st.system ts us)
      (λ l. predicates true l
      (λ q ss ts. (m : Lit) → Contains st.literals m → (r : ℕ) (os : List Sort) (us : List Term) → m ≡ is_false (Pred r os us) → q ≡ r → ss ≡ os
      → ¬ AllSame p.signature st.system ts us)
      (λ q ss ts. each_of st.literals
      (λ m. (r : ℕ) (os : List Sort) (us : List Term) → m ≡ is_false (Pred r os us) → q ≡ r → ss ≡ os → ¬ AllSame p.signature st.system ts us)
      (λ m. predicates false m (λ r os us. q ≡ r → ss ≡ os → ¬ AllSame p.signature st.system ts us)
      (λ r os us. implied (ℕ_discrete q r) (implied (Sorts_discrete ss os) (denied (all_same ts us))))))))
    where
      back : Predicates → (l : Lit) → Contains st.literals l → (q : ℕ) (ss : List Sort) (ts : List Term) → l ≡ is_true (Pred q ss ts)
          → (m : Lit) → Contains st.literals m → (r : ℕ) (os : List Sort) (us : List Term) → m ≡ is_false (Pred r os us) → q ≡ r → ss ≡ os
          → ¬ AllSame p.signature st.system ts us
      back f l i q ss ts e m j r os us d a b =
          f q ss ts us (subst (Contains st.literals) e i)
          (subst (λ (w : ℕ × List Sort). Contains st.literals (is_false (Pred w.0 w.1 us))) (λ k. (sym a k, sym b k)) (subst (Contains st.literals) d j))

  abbrev Exhausted : Type 0
  Exhausted =
      (s : Sort) (v : Val) (n : ℕ) (hs : List Head) → Has p.signature st.system s v n → choices_of p.signature (out-Sort s) ≡ Some hs
      → (h : Head) × Contains hs h × ValueOf st.system (Apply h [] []) v

  exhausted : Dec Exhausted
  exhausted =
      map_dec (λ f s v n hs h e. f n h.term h.is s h.sort v h.value hs e)
      (λ f n t i s e v w hs c. f s v n hs (record { term = t; is = i; sort = e; value = w }) c)
      (at_all st.system.names
      (λ n t. (s : Sort) → sort_of p.signature t ≡ Some s → (v : Val) → value_at st.system n ≡ Some v → (hs : List Head)
      → choices_of p.signature (out-Sort s) ≡ Some hs → (h : Head) × Contains hs h × ValueOf st.system (Apply h [] []) v)
      (λ n t. where_known (sort_of p.signature t)
      (λ s. (v : Val) → value_at st.system n ≡ Some v → (hs : List Head) → choices_of p.signature (out-Sort s) ≡ Some hs
      → (h : Head) × Contains hs h × ValueOf st.system (Apply h [] []) v)
      (λ s. where_known (value_at st.system n)
      (λ v. (hs : List Head) → choices_of p.signature (out-Sort s) ≡ Some hs → (h : Head) × Contains hs h × ValueOf st.system (Apply h [] []) v)
      (λ v. where_known (choices_of p.signature (out-Sort s)) (λ hs. (h : Head) × Contains hs h × ValueOf st.system (Apply h [] []) v)
      (λ hs. some_of hs (λ h. ValueOf st.system (Apply h [] []) v) (λ h. has_value p.signature st.system (Apply h [] []) v))))))

  abbrev Whole : Type 0
  Whole =
      (n : ℕ) (t : Term) → IsName st.system n t → sort_of p.signature t ≡ Some Int → (w : Value) → slice_get st.system.values n ≡ Some w
      → (f : Lin) → w ≡ Number f → IsWhole f

  whole : Dec Whole
  whole =
      at_all st.system.names
      (λ n t. sort_of p.signature t ≡ Some Int → (w : Value) → slice_get st.system.values n ≡ Some w → (f : Lin) → w ≡ Number f → IsWhole f)
      (λ n t. implied (sort_is p.signature st.system t Int)
      (where_known (slice_get st.system.values n) (λ w. (f : Lin) → w ≡ Number f → IsWhole f) (λ w. where_number w IsWhole decide_whole)))

  abbrev Inequalities : Type 0
  Inequalities =
      (l : Lit) → Contains st.literals l → (z : Term × Term × Bool) → inequality l ≡ Some z → (v : Val) → ValueOf st.system z.0 v
      → (w : Val) → ValueOf st.system z.1 w → HoldsAt st.point z.2 (sum_in (minus_val v w))

  holds_at : (c : Bool) (f : Sum) → Dec (HoldsAt st.point c f)
  holds_at c f =
      either (both (both (Parts_discrete f.parts []) (ℚ_discrete f.constant zero_ℚ)) (is_sign c false)) (is_sign (is_positive (value (at_point st.point) one_ℚ f)) true)

  inequalities : Dec Inequalities
  inequalities =
      each_of st.literals
      (λ l. (z : Term × Term × Bool) → inequality l ≡ Some z → (v : Val) → ValueOf st.system z.0 v → (w : Val) → ValueOf st.system z.1 w
      → HoldsAt st.point z.2 (sum_in (minus_val v w)))
      (λ l. where_known (inequality l)
      (λ z. (v : Val) → ValueOf st.system z.0 v → (w : Val) → ValueOf st.system z.1 w → HoldsAt st.point z.2 (sum_in (minus_val v w)))
      (λ z. by_value_of z.0 (λ v. (w : Val) → ValueOf st.system z.1 w → HoldsAt st.point z.2 (sum_in (minus_val v w)))
      (λ v. by_value_of z.1 (λ w. HoldsAt st.point z.2 (sum_in (minus_val v w))) (λ w. holds_at z.2 (sum_in (minus_val v w))))))

  -- ---- all that a state without quantified literals has to meet
  pub record Flat : Type 0 where
    pub consistent : Consistent
    pub completed : IsCompleted p.signature st.system
    pub named : Named
    pub firsts : Firsts
    pub taken_apart : TakenApart
    pub equal : Equal
    pub unequal : Unequal
    pub constructors : Constructors
    pub predicates : Predicates
    pub exhausted : Exhausted
    pub whole : Whole
    pub inequalities : Inequalities

  pub decide_flat : Dec Flat
  decide_flat =
      map_dec
      (λ (a, (b, (c, (d, (e, (f, (h, (i, (j, (k, (m, n))))))))))). record {
        consistent = a;
        completed = b;
        named = c;
        firsts = d;
        taken_apart = e;
        equal = f;
        unequal = h;
        constructors = i;
        predicates = j;
        exhausted = k;
        whole = m;
        inequalities = n;
      })
      (λ s. (s.consistent, (s.completed, (s.named, (s.firsts, (s.taken_apart, (s.equal, (s.unequal, (s.constructors, (s.predicates, (s.exhausted, (s.whole, s.inequalities))))))))))))
      (both consistent
      (both (decide_completed p.signature st.system)
      (both named
      (both firsts
      (both taken_apart
      (both equal (both unequal (both constructors (both decide_predicates (both exhausted (both whole inequalities)))))))))))

  module _ (free : IsQuantifierFree p g st) (bound : ℕ) where
    reached : (n : ℕ) (l : Lit) → Comes p g st all_taken (HasGeneration p g st all_taken n) l → Contains st.literals l
    reached n l (comes_first a b) = b
    reached n l (by_row q c a b d e f h) = h
    reached n l (by_block q a b c d) = d

    none_matches : (n : ℕ) (o : Owner) (us : List Sort) (ts : List Term) → Matches p g st all_taken (HasGeneration p g st all_taken n) o us ts → ⊥
    none_matches n (of_axiom k) us ts m = free.axioms k m.pattern m.of_owner
    none_matches n (of_literal l) us ts m =
        let b = bind_some (only (is_universal_by l.positive (out-Formula l.formula)) (quant_of (out-Formula l.formula))) _ m.pattern m.of_owner in
        let o = only_some (is_universal_by l.positive (out-Formula l.formula)) (quant_of (out-Formula l.formula)) b.0 b.1 in
        free.literals l b.0 (reached n l m.owner_comes) o.1

    pub saturated : Flat → IsSaturated p g st bound
    saturated s = (
      all_taken,
      record {
        consistent = s.consistent;
        completed = s.completed;
        named = s.named;
        firsts = s.firsts;
        taken_apart = s.taken_apart;
        equal = s.equal;
        unequal = s.unequal;
        constructors = s.constructors;
        predicates = s.predicates;
        exhausted = s.exhausted;
        whole = λ n d t f i e w a b. s.whole n t i e (Number f) w f refl d a b;
        inequalities = λ l a b strict v w i e x z. s.inequalities l i (a, b, strict) e v x w z;
        blocks = λ l q i e f. absurd (free.literals l q i f);
        instances = λ n o us ts h m k. absurd (none_matches n o us ts m);
      },
    )

    pub flat : IsSaturated p g st bound → Flat
    flat (takes, s) = record {
      consistent = s.consistent;
      completed = s.completed;
      named = s.named;
      firsts = s.firsts;
      taken_apart = s.taken_apart;
      equal = s.equal;
      unequal = s.unequal;
      constructors = s.constructors;
      predicates = s.predicates;
      exhausted = s.exhausted;
      whole = λ n t i e w j f q d a b. s.whole n d t f i e (j ∙ ap (λ (x : Value). Some x) q) a b;
      inequalities = λ l i (a, b, strict) e v x w z. s.inequalities l a b strict v w i e x z;
    }

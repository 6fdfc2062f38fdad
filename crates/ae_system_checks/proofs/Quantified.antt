-- The state with a quantified literal is saturated, its trigger matches, and without the instance it isn't.
use Rattle.std.specs.Prelude.{ℕ, zero, suc, ◌≤◌, Bool, true, false, not, nat_eq, nat_lt, ◌≡◌, ◌⊎◌, List, [], ◌∷◌, map, reverse, slice_get, Option, Some, None}
use Rattle.std.specs.List.{AllByRecursion, Contains}
use Rattle.std.proofs.Common.{inl, inr}
use Rattle.std.proofs.lemmas.Bool.{ltb-true}
use Rattle.std.proofs.lemmas.Option.{same_Some}
use Rattle.ae_base.proofs.Tests.{not_itself}
use mathlib.Core.Path.{refl, sym, ap, subst, ◌∙◌}
use native.Mathlib.Omega.{arith}
use Rattle.ae_base.specs.Options.{or_else, only, all_known, ◌>>=◌}
use Rattle.ae_base.proofs.Options.{never_some, bind_some, only_some, known_each}
use Rattle.ae_base.proofs.Decided.{decided_yes}
use Rattle.ae_core.proofs.Recursion.{fold_all, fold_apply, fold_eq}
use Rattle.ae_core.specs.Decided.{Sorts_discrete}
use Rattle.ae_core.specs.Putting.{put_sort, put_formula, instance, instance_term}
use Rattle.ae_core.proofs.PuttingLaws.{put_named, put_apply, put_bound, put_eq, instance_apply, instance_bound, instance_eq, instance_all, instance_block}
use Rattle.ae_core.specs.Sorts.{sort_of, sorts_of, same_sorts}
use Rattle.ae_core.specs.declared.formulas.Formula.{Formula, Formula-F, Eq, All, Pred, out-Formula}
use Rattle.ae_core.specs.declared.formulas.Formula.TheOpen as formula_layer
use Rattle.ae_core.specs.declared.formulas.Formula.TheVariants.{outs-Eq, outs-All, outs-Pred}
use Rattle.ae_core.specs.declared.formulas.Lit.{Lit}
use Rattle.ae_core.specs.declared.formulas.Quant.{Quant}
use Rattle.ae_core.specs.declared.problems.Nature.TheVariants.{Free}
use Rattle.ae_core.specs.declared.problems.SymbolEntry.{SymbolEntry}
use Rattle.ae_core.specs.declared.terms.Head.{Head}
use Rattle.ae_core.specs.declared.terms.Head.TheVariants as head
use Rattle.ae_core.specs.declared.terms.Sort.{Sort, Int, out-Sort}
use Rattle.ae_core.specs.declared.terms.Sort.TheVariants.{outs-Named}
use Rattle.ae_core.specs.declared.terms.Term.{Term, Bound, Apply, out-Term}
use Rattle.ae_core.specs.declared.terms.Term.TheOpen as layer
use Rattle.ae_core.specs.declared.terms.Term.TheVariants.{outs-Apply, outs-Bound}
use Rattle.ae_rules.specs.Clauses.{Clause, literal, opposite, is_true, is_false, yes_of, no_of, row}
use Rattle.ae_rules.specs.Instances.{hypothesis, have_sorts, choices_of}
use Rattle.ae_rules.specs.Matches.{Equals, EqualEach, IsMatch, written, is_arithmetic, is_arithmetic_layer, is_own, is_own_layer}
use Rattle.ae_rules.specs.Matches.Equals.{variable, application, turned, own}
use Rattle.ae_rules.specs.Matches.EqualEach.{none, more}
use Rattle.ae_rules.proofs.ClauseLaws.{literal_eq, literal_all, row_eq, row_all}
use Rattle.ae_num.specs.declared.forms.Value.{Leaf}
use Rattle.ae_journal.specs.Values.{Val, leaf, meaning}
use Rattle.ae_journal.specs.Systems.{IsCompleted, IsLeaf, IsName, IsNamed, ValueOf, value_at, record_fields}
use Rattle.ae_journal.specs.Sizes.{IsSmall, term_size, term_size_step, formula_size, formula_size_step, quant_size_step}
use Rattle.ae_journal.specs.States.{IsSaturatedBy, SomeStands, Stands, IsFirst, TermComes, HasGeneration, Matches, Owner, of_literal, of_axiom, Pattern, pattern_of, literal_pattern, AllSame, AreSame, instance_literals, instances_of, all_taken, Selection}
use Rattle.ae_journal.specs.States.{outside, outside_step, quant_of, is_universal, is_universal_by, inequality, inequality_of}
use Rattle.ae_journal.specs.States.IsFirst.{of_hypothesis, of_goal}
use Rattle.ae_journal.specs.States.Comes.{first as comes_first}
use Rattle.ae_journal.specs.States.TermComes.{stands, part, field}
use Rattle.ae_journal.specs.States.AreSame.{itself}
use Rattle.ae_journal.specs.declared.systems.Saturated.{Saturated}
use Rattle.ae_journal.proofs.Splits.{contains_cases, contains_one, contains_here, all_contained}
use Rattle.ae_evaluation.proofs.ExampleSystem.{leaf_at, no_entry}
use Rattle.ae_evaluation.proofs.Decisions.{yes_sorts}
use Rattle.ae_evaluation.proofs.Literals.{outside-Eq}
use Rattle.ae_system_checks.specs.Examples.{signature, T, a, b, f}
use Rattle.ae_system_checks.specs.Laws.{NoInstanceIsRefused}
use Rattle.ae_system_checks.specs.Quantified.{block, fixed, goal, problem, instance_at_a, system, literals, state, without_instance, HasMatch}
use Rattle.ae_system_checks.proofs.Entries.{places}
use Rattle.ae_system_checks.proofs.Facts.{T_fields, a_sort, b_sort, f_sort, put_T, args_of, args_are}
use Rattle.ae_system_checks.proofs.Numbered.{number, number_is, value_of, make_leaf, at_leaf, no_constructor, completed}
use Rattle.ae_system_checks.proofs.States.{formula_of, wrong_sign, sides, Plain, plain_eq, no_predicate, no_inequality, no_quant, no_pattern, come, not_int}
use Rattle.ae_system_checks.proofs.Symbols.{IsOfLeaves, IsSymbolTerm, leaf_tells}

-- ---- the system
of_leaves : IsOfLeaves signature system
of_leaves = record {
  lengths = refl;
  symbol =
      places system.names (λ k t. IsSymbolTerm signature t) (
        record { number = 0; args = []; is = refl; sort = a_sort },
        (record { number = 1; args = []; is = refl; sort = b_sort }, (record { number = 2; args = a ∷ []; is = refl; sort = f_sort a a_sort }, tt)),
      );
  leaf = places system.values (λ k v. (j : ℕ) × (v ≡ Leaf j)) ((0, refl), ((1, refl), ((0, refl), tt)));
}

numbers : (n : ℕ) (t : Term) → IsName system n t → number t ≡ n
numbers =
    places system.names (λ n t. number t ≡ n)
    (number_is (head.Symbol 0) [] [], (number_is (head.Symbol 1) [] [], (number_is (head.Symbol 2) [] (a ∷ []), tt)))

free : (n : ℕ) (t : Term) → IsName system n t → (e : SymbolEntry) → slice_get signature.symbols n ≡ Some e → e.nature ≡ Free
free =
    places system.names (λ n t. (e : SymbolEntry) → slice_get signature.symbols n ≡ Some e → e.nature ≡ Free) (
      λ e i. ap (λ (s : SymbolEntry). s.nature) (sym (same_Some _ e i)),
      (λ e i. ap (λ (s : SymbolEntry). s.nature) (sym (same_Some _ e i)), (λ e i. ap (λ (s : SymbolEntry). s.nature) (sym (same_Some _ e i)), tt)),
    )

value : (n : ℕ) → ◌≡◌ {A = Option Val} (Some (meaning (Leaf n))) (Some (leaf n))
value n = ap (λ (v : Val). Some v) (leaf_at n)

leaf_here : (k : ℕ) (t : Term) → IsName system k t → value_at system k ≡ Some (leaf k) → IsLeaf signature system T k
leaf_here = make_leaf signature T_fields system of_leaves numbers free

is_leaf : (n m : ℕ) → value_at system n ≡ Some (leaf m) → IsLeaf signature system T m
is_leaf zero m e = at_leaf signature T_fields system of_leaves numbers free 0 0 m (value 0) (leaf_here 0 a refl (value 0)) e
is_leaf (suc zero) m e = at_leaf signature T_fields system of_leaves numbers free 1 1 m (value 1) (leaf_here 1 b refl (value 1)) e
is_leaf (suc (suc zero)) m e = at_leaf signature T_fields system of_leaves numbers free 2 0 m (value 0) (leaf_here 0 a refl (value 0)) e
is_leaf (suc (suc (suc n))) m e = absurd (never_some (leaf m) e)

subterms : (n : ℕ) (h : Head) (ss : List Sort) (us : List Term) → IsName system n (Apply h ss us) → AllByRecursion (IsNamed system) us
subterms n h ss us i = subst (AllByRecursion (IsNamed system)) (args_are h ss us) (all n (Apply h ss us) i)
  where
    back : (g : Head) (ts : List Term) → AllByRecursion (IsNamed system) ts → AllByRecursion (IsNamed system) (args_of (out-Term (Apply g [] ts)))
    back g ts = subst (AllByRecursion (IsNamed system)) (sym (args_are g [] ts))

    all : (k : ℕ) (t : Term) → IsName system k t → AllByRecursion (IsNamed system) (args_of (out-Term t))
    all =
        places system.names (λ k t. AllByRecursion (IsNamed system) (args_of (out-Term t)))
        (back (head.Symbol 0) [] tt, (back (head.Symbol 1) [] tt, (back (head.Symbol 2) (a ∷ []) ((0, refl), tt), tt)))

is_completed : IsCompleted signature system
is_completed = completed signature T_fields system of_leaves numbers free subterms is_leaf no_entry

-- ---- the literals
each_literal : (P : Lit → Type 0) → P (is_true fixed) → P (is_false goal) → P (is_true instance_at_a) → (l : Lit) → Contains literals l → P l
each_literal P p q r l i =
    elim (contains_cases (is_true fixed) (is_false goal ∷ is_true instance_at_a ∷ []) l i) as (λ _. P l) [
      | inl e ↦ subst P e p
      | inr j ↦ elim (contains_cases (is_false goal) (is_true instance_at_a ∷ []) l j) as (λ _. P l) [
        | inl e ↦ subst P e q
        | inr k ↦ subst P (contains_one (is_true instance_at_a) l k) r
      ]
    ]

stands_0 : Contains literals (is_true fixed)
stands_0 = (0, omega arith, refl)

stands_1 : Contains literals (is_false goal)
stands_1 = (1, omega arith, refl)

stands_2 : Contains literals (is_true instance_at_a)
stands_2 = (2, omega arith, refl)

-- what tells the formulas apart: the symbol of an equation's right side
abbrev tag_of : Formula-F Formula Quant → ℕ
tag_of (formula_layer.Eq s t) = number t
tag_of _ = 10

abbrev tag : Formula → ℕ
tag f = tag_of (out-Formula f)

signs : (l : Lit) → Contains literals l → not (nat_eq (tag l.formula) 1) ≡ l.positive
signs =
    each_literal (λ l. not (nat_eq (tag l.formula) 1) ≡ l.positive) (ap (λ h. not (nat_eq (tag_of h) 1)) (outs-All block))
    (ap (λ h. not (nat_eq (tag_of h) 1)) (outs-Eq (f a) b) ∙ ap (λ n. not (nat_eq n 1)) (number_is (head.Symbol 1) [] []))
    (ap (λ h. not (nat_eq (tag_of h) 1)) (outs-Eq (f a) a) ∙ ap (λ n. not (nat_eq n 1)) (number_is (head.Symbol 0) [] []))

consistent : (l : Lit) → Contains literals l → Contains literals (opposite l) → ⊥
consistent l i j = not_itself l.positive (sym (signs l i) ∙ signs (opposite l) j)

outside_fixed : outside fixed ≡ []
unfolding outside
outside_fixed = fold_all (List Term) (Unit {0}) outside_step (λ q. tt) block

named : (l : Lit) → Contains literals l → AllByRecursion (IsNamed system) (outside l.formula)
named =
    each_literal (λ l. AllByRecursion (IsNamed system) (outside l.formula)) (subst (AllByRecursion (IsNamed system)) (sym outside_fixed) tt)
    (subst (AllByRecursion (IsNamed system)) (sym (outside-Eq (f a) b)) ((2, refl), ((1, refl), tt)))
    (subst (AllByRecursion (IsNamed system)) (sym (outside-Eq (f a) a)) ((2, refl), ((0, refl), tt)))

-- ---- the axiom and the goal
instance_f : (t : Term) → instance_term [] t ≡ t → instance_term [] (f t) ≡ f t
instance_f t e = instance_apply [] (head.Symbol 2) [] (t ∷ []) ∙ (λ i. Apply (head.Symbol 2) [] (e i ∷ []))

instance_body : instance [] (Eq (f (Bound 0)) (Bound 0)) ≡ Eq (f (Bound 0)) (Bound 0)
instance_body = instance_eq [] (f (Bound 0)) (Bound 0) ∙ (λ i. Eq (instance_f (Bound 0) (instance_bound [] 0) i) (instance_bound [] 0 i))

instance_fixed : instance [] fixed ≡ fixed
instance_fixed =
    instance_all [] block
    ∙ ap (λ q. All q) (instance_block [] block
    ∙ (λ i. record { sorts = put_T i ∷ []; triggers = (instance_f (Bound 0) (instance_bound [] 0) i ∷ []) ∷ []; body = instance_body i }))

beyond : {A : Type 0} (k : ℕ) → nat_lt (suc k) 1 ≡ true → A
beyond k e = let z = ltb-true (suc k) 1 e in absurd (omega (arith, z))

is_hypothesis : (k : ℕ) (h : Formula) → hypothesis problem 1 k [] ≡ Some h → fixed ≡ h
is_hypothesis zero h e = sym instance_fixed ∙ same_Some (instance [] fixed) h e
is_hypothesis (suc k) h e =
    let c = bind_some (only (nat_lt (suc k) 1) (slice_get problem.items (suc k))) _ h e in
    let o = only_some (nat_lt (suc k) 1) (slice_get problem.items (suc k)) c.0 c.1 in
    beyond k o.0

no_axiom : (k : ℕ) (q : Pattern) → pattern_of problem 1 (of_axiom k) ≡ Some q → ⊥
no_axiom zero q e = never_some q e
no_axiom (suc k) q e =
    let c = bind_some (only (nat_lt (suc k) 1) (slice_get problem.items (suc k))) _ q e in
    let o = only_some (nat_lt (suc k) 1) (slice_get problem.items (suc k)) c.0 c.1 in
    beyond k o.0

fixed_literal : yes_of fixed ≡ is_true fixed
fixed_literal = literal_all true block

goal_literal : no_of goal ≡ is_false goal
goal_literal = literal_eq false (f a) b

firsts : (l : Lit) → IsFirst problem 1 state l → Contains literals l
firsts l (of_hypothesis k h e) = subst (λ h. Contains literals (yes_of h)) (is_hypothesis k h e) (subst (Contains literals) (sym fixed_literal) stands_0)
firsts l (of_goal h e) = subst (λ h. Contains literals (no_of h)) (same_Some goal h e) (subst (Contains literals) (sym goal_literal) stands_1)

taken_apart : (l : Lit) → Contains literals l → (r : ℕ) (c : Clause) → row r l.formula ≡ Some c → SomeStands problem 1 state c
taken_apart =
    each_literal (λ l. (r : ℕ) (c : Clause) → row r l.formula ≡ Some c → SomeStands problem 1 state c) (λ r c e. never_some c (sym (row_all r block) ∙ e))
    (λ r c e. never_some c (sym (row_eq r (f a) b) ∙ e)) (λ r c e. never_some c (sym (row_eq r (f a) a) ∙ e))

-- ---- equations
not_equation : (s t : Term) → fixed ≡ Eq s t → ⊥
not_equation s t e = let z : formula_layer.All block ≡ formula_layer.Eq s t = sym (outs-All block) ∙ ap out-Formula e ∙ outs-Eq s t in cc

equal : (s t : Term) → Contains literals (is_true (Eq s t)) → (v : Val) × ValueOf system s v × ValueOf system t v
equal s t i =
    each_literal (λ l. l ≡ is_true (Eq s t) → (v : Val) × ValueOf system s v × ValueOf system t v) (λ e. absurd (not_equation s t (formula_of e))) (λ e. wrong_sign e)
    both (is_true (Eq s t)) i refl
  where
    both : is_true instance_at_a ≡ is_true (Eq s t) → (v : Val) × ValueOf system s v × ValueOf system t v
    both e =
        let d = sides (f a) a s t (formula_of e) in
        (leaf 0, subst (λ w. ValueOf system w (leaf 0)) d.0 (2, refl, value 0), subst (λ w. ValueOf system w (leaf 0)) d.1 (0, refl, value 0))

unequal : (s t : Term) (v : Val) → Contains literals (is_false (Eq s t)) → ValueOf system s v → ValueOf system t v → ⊥
unequal s t v i p q =
    each_literal (λ l. l ≡ is_false (Eq s t) → ⊥) (λ e. wrong_sign (sym e)) (λ e. differ (sides (f a) b s t (formula_of e))) (λ e. wrong_sign (sym e))
    (is_false (Eq s t)) i refl
  where
    differ : (f a ≡ s) × (b ≡ t) → ⊥
    differ (d, e) =
        let x = value_of signature T_fields system of_leaves numbers free 2 0 (f a) v refl (value 0) (subst (λ w. ValueOf system w v) (sym d) p) in
        let z = value_of signature T_fields system of_leaves numbers free 1 1 b v refl (value 1) (subst (λ w. ValueOf system w v) (sym e) q) in
        let w = leaf_tells 0 1 (x ∙ sym z) in
        omega (arith, w)

-- ---- each literal is the axiom's, or an equation
abbrev IsOne : Lit → Type 0
IsOne l = (is_true fixed ≡ l) ⊎ Plain l

one_of : (l : Lit) → Contains literals l → IsOne l
one_of = each_literal IsOne (inl refl) (inr (plain_eq (f a) b false)) (inr (plain_eq (f a) a true))

never_predicate : (q : ℕ) (ss : List Sort) (ts : List Term) → IsOne (is_true (Pred q ss ts)) → ⊥
never_predicate q ss ts (inl e) = let z : formula_layer.All block ≡ formula_layer.Pred q ss ts = sym (outs-All block) ∙ ap out-Formula (formula_of e) ∙ outs-Pred q ss ts in cc
never_predicate q ss ts (inr p) = no_predicate q ss ts true p

never_inequality : (l : Lit) → IsOne l → (z : Term × Term × Bool) → inequality l ≡ Some z → ⊥
never_inequality l (inl d) z e = never_some z (sym (ap (inequality_of true) (outs-All block)) ∙ ap inequality d ∙ e)
never_inequality l (inr p) z e = no_inequality l p z e

universal : is_universal (is_true fixed) ≡ true
universal = ap (is_universal_by true) (outs-All block)

never_asks : (l : Lit) → IsOne l → (q : Quant) → is_universal l ≡ false → quant_of (out-Formula l.formula) ≡ Some q → ⊥
never_asks l (inl d) q e h = let z : true ≡ false = sym universal ∙ ap is_universal d ∙ e in cc
never_asks l (inr p) q e h = no_quant l p q h

-- ---- matches of the axiom's literal
pattern_is : pattern_of problem 1 (of_literal (is_true fixed)) ≡ Some (literal_pattern signature block)
pattern_is = ap (λ y. only (is_universal_by true y) (quant_of y) >>= λ q. Some (literal_pattern signature q)) (outs-All block)

-- the literal of the body with a term put
body_is : (t : Term) → literal true (put_formula (t ∷ []) (Eq (f (Bound 0)) (Bound 0))) ≡ is_true (Eq (f t) t)
body_is t =
    ap (literal true) (put_eq 0 (t ∷ []) (f (Bound 0)) (Bound 0)
    ∙ (λ i. Eq ((put_apply 0 (t ∷ []) (head.Symbol 2) [] (Bound 0 ∷ []) ∙ (λ j. Apply (head.Symbol 2) [] (put_bound 0 (t ∷ []) 0 j ∷ []))) i) (put_bound 0 (t ∷ []) 0 i)))
    ∙ literal_eq true (f t) t

instance_is : (us : List Sort) (t : Term) → instance_literals problem 1 (of_literal (is_true fixed)) us (t ∷ []) ≡ is_true (Eq (f t) t) ∷ []
instance_is us t =
    ap (λ y. map (λ e. literal e.0 e.1) (elim (quant_of y) as (λ _. List (Bool × Formula)) [ Some q ↦ (true, put_formula (t ∷ []) q.body) ∷ [] | None ↦ [] ])) (outs-All block)
    ∙ ap (λ l. l ∷ []) (body_is t)

-- ---- what the trigger equals
one_sort : (ts : List Term) → have_sorts signature ts (T ∷ []) ≡ true → (t : Term) × (t ∷ [] ≡ ts)
one_sort ts e = go ts (all_of (sorts_of signature ts) refl e)
  where
    all_of : (o : Option (List Sort)) → sorts_of signature ts ≡ o → or_else (o >>= λ os. Some (same_sorts os (T ∷ []))) false ≡ true
        → map (sort_of signature) ts ≡ Some T ∷ []
    all_of None d e = let z : false ≡ true = e in absurd (cc)
    all_of (Some os) d e = known_each (sort_of signature) ts os d ∙ ap (map (λ (s : Sort). Some s)) (decided_yes (Sorts_discrete os (T ∷ [])) e)

    go : (us : List Term) → map (sort_of signature) us ≡ Some T ∷ [] → (t : Term) × (t ∷ [] ≡ us)
    go [] e = absurd (cc)
    go (u ∷ []) e = (u, refl)
    go (u ∷ v ∷ us) e = absurd (cc)

module _ (known : Term → Type 0) (same : Term → Term → Type 0) (sorts : List Sort) (values : List Term) where
  abbrev Equal : Term → Term → Type 0
  Equal = Equals signature known same sorts values

  not_own_f : (t : Term) → is_own (f t) ≡ true → ⊥
  unfolding is_own
  not_own_f t e = let z : false ≡ true = sym (ap is_own_layer (outs-Apply (head.Symbol 2) [] (t ∷ []))) ∙ e in cc

  not_own_bound : (i : ℕ) → is_own (Bound i) ≡ true → ⊥
  unfolding is_own
  not_own_bound i e = let z : false ≡ true = sym (ap is_own_layer (outs-Bound i)) ∙ e in cc

  not_applied : (i : ℕ) (h : Head) (ss : List Sort) (us : List Term) → Bound i ≡ Apply h ss us → ⊥
  not_applied i h ss us e = let z : layer.Bound i ≡ layer.Apply h ss us = sym (outs-Bound i) ∙ ap out-Term e ∙ outs-Apply h ss us in cc

  -- a variable equals what is the same as its term
  of_bound : (p u : Term) → Equal p u → p ≡ Bound 0 → (v : Term) × (slice_get (reverse values) 0 ≡ Some v) × same v u
  of_bound _ u (variable {i} {v} s k e) q =
      let z : layer.Bound i ≡ layer.Bound 0 = sym (outs-Bound i) ∙ ap out-Term q ∙ outs-Bound 0 in
      let w : i ≡ 0 = cc in
      (v, subst (λ (j : ℕ). slice_get (reverse values) j ≡ Some v) w s, e)
  of_bound _ u (application {h} {ss} {ps} n each m k) q = absurd (not_applied 0 h ss ps (sym q))
  of_bound _ u (turned {h} {ss} {p} {q} c n d e m k) z = absurd (not_applied 0 h ss (p ∷ q ∷ []) (sym z))
  of_bound p u (own o k) q = absurd (not_own_bound 0 (ap is_own (sym q) ∙ o))

  one_argument : (ps us : List Term) → EqualEach signature known same sorts values ps us → ps ≡ Bound 0 ∷ [] → (u : Term) × (u ∷ [] ≡ us) × Equal (Bound 0) u
  one_argument _ _ none q = absurd (cc)
  one_argument _ _ (more {p} {u} e none) q = (u, refl, subst (λ (w : Term). Equal w u) (let z : p ≡ Bound 0 = cc in z) e)
  one_argument _ _ (more e (more d each)) q = absurd (cc)

  -- the trigger equals a known application of f to what is the same as the variable's term
  of_trigger : (p u : Term) → Equal p u → p ≡ f (Bound 0) → (v : Term) × (w : Term) × (slice_get (reverse values) 0 ≡ Some v) × same v w × known (f w)
  of_trigger _ u (variable {i} s k e) q = absurd (not_applied i (head.Symbol 2) [] (Bound 0 ∷ []) q)
  of_trigger _ u (application {h} {ss} {ps} {us} n each m k) q =
      let z : layer.Apply h ss ps ≡ layer.Apply (head.Symbol 2) [] (Bound 0 ∷ []) = sym (outs-Apply h ss ps) ∙ ap out-Term q ∙ outs-Apply (head.Symbol 2) [] (Bound 0 ∷ []) in
      let x : h ≡ head.Symbol 2 = cc in
      let y : ss ≡ [] = cc in
      let c : ps ≡ Bound 0 ∷ [] = cc in
      let o = one_argument ps us each c in
      let d = of_bound (Bound 0) o.0 o.2 refl in
      let r : known (written sorts h ss us) = k.0 in
      (d.0, o.0, d.1, d.2, subst known (λ i. Apply (x i) (map (put_sort sorts) (y i)) (sym o.1 i)) r)
  of_trigger _ u (turned {h} {ss} {p} {q} c n d e m k) y =
      let z : layer.Apply h ss (p ∷ q ∷ []) ≡ layer.Apply (head.Symbol 2) [] (Bound 0 ∷ []) = sym (outs-Apply h ss (p ∷ q ∷ [])) ∙ ap out-Term y ∙ outs-Apply (head.Symbol 2) [] (Bound 0 ∷ []) in
      absurd (cc)
  of_trigger p u (own o k) q = absurd (not_own_f (Bound 0) (ap is_own (sym q) ∙ o))

-- ---- the terms that come are names
module _ (n : ℕ) where
  abbrev From : Lit → Type 0
  From = HasGeneration problem 1 state all_taken n

  abbrev Known : Term → Type 0
  Known = TermComes problem 1 state all_taken From

  all_named : (t : Term) → Known t → IsNamed system t
  all_named t (stands l c i) = all_contained (IsNamed system) (outside l.formula) t (named l (come problem 1 state all_taken From l c)) i
  all_named t (part h ss us k i) = let d = all_named (Apply h ss us) k in all_contained (IsNamed system) us t (subterms d.0 h ss us d.1) i
  all_named t (field {u} s ss k e g i) = let d = all_named u k in absurd (never_some ss (sym T_fields ∙ ap (record_fields signature) (same_Some T s (sym (of_leaves.symbol d.0 u d.1).sort ∙ e)) ∙ g))

  -- f of a alone is known
  known_f : (w : Term) → Known (f w) → w ≡ a
  known_f w k =
      let d = all_named (f w) k in
      let e : d.0 ≡ 2 = sym (numbers d.0 (f w) d.1) ∙ number_is (head.Symbol 2) [] (w ∷ []) in
      let q : f a ≡ f w = same_Some (f a) (f w) (subst (λ (j : ℕ). IsName system j (f w)) e d.1) in
      let z : layer.Apply (head.Symbol 2) [] (a ∷ []) ≡ layer.Apply (head.Symbol 2) [] (w ∷ []) = sym (outs-Apply (head.Symbol 2) [] (a ∷ [])) ∙ ap out-Term q ∙ outs-Apply (head.Symbol 2) [] (w ∷ []) in
      cc

  abbrev Answer : Owner → List Sort → List Term → Type 0
  Answer o us ts = (ws : List Term) × AllSame signature system ts ws × AllByRecursion (Stands problem 1 state) (instance_literals problem 1 o us ws)

  by_match : (us : List Sort) (ts : List Term) (trigger : List Term) → f (Bound 0) ∷ [] ≡ trigger
      → IsMatch signature Known (AreSame signature system) 0 (T ∷ []) trigger us ts → Answer (of_literal (is_true fixed)) us ts
  by_match us ts trigger e m =
      let s = one_sort ts (sym (λ i. have_sorts signature ts (put_sort_T i ∷ [])) ∙ m.sorted) in
      let c = subst (AllByRecursion (λ p. (u : Term) × Equals signature Known (AreSame signature system) us ts p u)) (sym e) m.equal in
      let d = of_trigger Known (AreSame signature system) us ts (f (Bound 0)) (c.0).0 (c.0).1 refl in
      let v : s.0 ≡ d.0 = same_Some s.0 d.0 (ap (λ (w : List Term). slice_get (reverse w) 0) s.1 ∙ d.2) in (
        a ∷ [],
        subst (λ (w : List Term). AllSame signature system w (a ∷ [])) s.1
            (subst (λ (w : Term × Term). AreSame signature system w.0 w.1) (λ i. (sym v i, known_f d.1 d.4 i)) d.3, tt),
        subst (AllByRecursion (Contains literals)) (sym (instance_is us a)) (stands_2, tt),
      )
    where
      put_sort_T : put_sort us T ≡ T
      put_sort_T = put_named us 0 []

  of_one : (l : Lit) (us : List Sort) (ts : List Term) → IsOne l → Matches problem 1 state all_taken From (of_literal l) us ts → Answer (of_literal l) us ts
  of_one l us ts (inr p) m = absurd (no_pattern problem 1 l p m.pattern m.of_owner)
  of_one l us ts (inl d) m =
      let q : literal_pattern signature block ≡ m.pattern = same_Some (literal_pattern signature block) m.pattern (sym pattern_is ∙ ap (λ k. pattern_of problem 1 (of_literal k)) d ∙ m.of_owner) in
      let t = contains_one (f (Bound 0) ∷ []) m.trigger (subst (λ (w : Pattern). Contains w.choices m.trigger) (sym q) m.chosen) in
      let r = subst (λ (w : Pattern). IsMatch signature Known (AreSame signature system) w.type_vars w.vars m.trigger us ts) (sym q) m.matches in
      subst (λ (k : Lit). Answer (of_literal k) us ts) d (by_match us ts m.trigger t r)

  answers : (o : Owner) (us : List Sort) (ts : List Term) → Matches problem 1 state all_taken From o us ts → Answer o us ts
  answers (of_literal l) us ts m = of_one l us ts (one_of l (come problem 1 state all_taken From l m.owner_comes)) m
  answers (of_axiom k) us ts m = absurd (no_axiom k m.pattern m.of_owner)

its_sort : (n : ℕ) (t : Term) (s : Sort) → IsName system n t → sort_of signature t ≡ Some s → T ≡ s
its_sort n t s i e = same_Some T s (sym (of_leaves.symbol n t i).sort ∙ e)

no_choices : choices_of signature (out-Sort T) ≡ None
no_choices = ap (choices_of signature) (outs-Named 0 [])

pub saturated_by : (bound : ℕ) → IsSaturatedBy problem 1 state all_taken bound
saturated_by bound = record {
  consistent = consistent;
  completed = is_completed;
  named = named;
  firsts = firsts;
  taken_apart = taken_apart;
  equal = equal;
  unequal = unequal;
  constructors = λ h i v c d p q. absurd (no_constructor signature T_fields system of_leaves numbers free p.0 h [] [] p.1 c);
  predicates = λ q ss ts us i j s. never_predicate q ss ts (one_of (is_true (Pred q ss ts)) i);
  exhausted = λ s v n hs h e. absurd (never_some hs (sym no_choices ∙ ap (λ o. choices_of signature (out-Sort o)) (its_sort n h.term s h.is h.sort) ∙ e));
  whole = λ n d t g i e h. absurd (not_int (its_sort n t Int i e));
  inequalities = λ l s t strict v w i e p q. absurd (never_inequality l (one_of l i) (s, t, strict) e);
  blocks = λ l q i e h. absurd (never_asks l (one_of l i) q e h);
  instances = λ n o us ts h m k. let r = answers n o us ts m in (r.0, r.1, refl, r.2);
}

-- ---- the match
module _ (st : Saturated) (takes : Selection) (axiom_stands : Contains st.literals (is_true fixed)) (goal_stands : Contains st.literals (is_false goal)) where
  abbrev Begin : Lit → Type 0
  Begin = HasGeneration problem 1 st takes 0

  axiom_comes : Begin (is_true fixed)
  axiom_comes =
      comes_first (subst (IsFirst problem 1 st) fixed_literal (of_hypothesis 0 fixed (ap (λ (h : Formula). Some h) instance_fixed))) axiom_stands

  goal_comes : Begin (is_false goal)
  goal_comes = comes_first (subst (IsFirst problem 1 st) goal_literal (of_goal goal refl)) goal_stands

  abbrev Here : Term → Type 0
  Here = TermComes problem 1 st takes Begin

  f_here : Here (f a)
  f_here = stands (is_false goal) (comes_first goal_comes goal_stands) (subst (λ (w : List Term). Contains w (f a)) (sym (outside-Eq (f a) b)) (contains_here (f a) (b ∷ [])))

  a_here : Here a
  a_here = part (head.Symbol 2) [] (a ∷ []) f_here (contains_here a [])

  no_arithmetic : (t : Term) → is_arithmetic (f t) ≡ false
  unfolding is_arithmetic
  no_arithmetic t = ap is_arithmetic_layer (outs-Apply (head.Symbol 2) [] (t ∷ []))

  pub match_here : Matches problem 1 st takes Begin (of_literal (is_true fixed)) [] (a ∷ [])
  match_here = record {
    owner_comes = comes_first axiom_comes axiom_stands;
    pattern = literal_pattern signature block;
    of_owner = pattern_is;
    trigger = f (Bound 0) ∷ [];
    chosen = contains_here (f (Bound 0) ∷ []) [];
    matches = record {
      one_each = refl;
      closed = refl;
      determined = λ i h e. absurd (omega (arith, h));
      all_known = (a_here, tt);
      sorted = (λ i. have_sorts signature (a ∷ []) (put_T i ∷ [])) ∙ have_sort;
      equal = ((f a, equal_f), tt);
    };
  }
    where
      have_sort : have_sorts signature (a ∷ []) (T ∷ []) ≡ true
      have_sort = (λ i. or_else (all_known (a_sort i ∷ []) >>= λ os. Some (same_sorts os (T ∷ []))) false) ∙ yes_sorts (T ∷ [])

      equal_f : Equals signature Here (AreSame signature st.system) [] (a ∷ []) (f (Bound 0)) (f a)
      equal_f =
          application {h = head.Symbol 2} {ss = []} {ps = Bound 0 ∷ []} {us = a ∷ []} (no_arithmetic (Bound 0)) (more (variable refl a_here itself) none)
          (no_arithmetic a) (f_here, f_here, itself)

pub has_match : HasMatch state
has_match = match_here state all_taken stands_0 stands_1

-- ---- without the instance
term_size_a : (join : ℕ → ℕ → ℕ) → term_size join a ≡ suc (join 0 0)
unfolding term_size
term_size_a join = fold_apply ℕ (term_size_step join) (head.Symbol 0) [] []

term_size_f : (join : ℕ → ℕ → ℕ) → term_size join (f a) ≡ suc (join 0 (join (suc (join 0 0)) 0))
unfolding term_size
term_size_f join = fold_apply ℕ (term_size_step join) (head.Symbol 2) [] (a ∷ []) ∙ ap (λ n. suc (join 0 (join n 0))) (term_size_a join)

size_is : (join : ℕ → ℕ → ℕ) → formula_size join instance_at_a ≡ suc (join (suc (join 0 (join (suc (join 0 0)) 0))) (suc (join 0 0)))
unfolding formula_size
size_is join = fold_eq ℕ ℕ (formula_size_step join) (quant_size_step join) (f a) a ∙ (λ i. suc (join (term_size_f join i) (term_size_a join i)))

small : IsSmall instance_at_a
small = record { few = subst (λ (n : ℕ). n ≤ 1000000) (sym (size_is _)) (omega arith); flat = subst (λ (n : ℕ). n ≤ 4000) (sym (size_is _)) (omega arith) }

body_formula : put_formula (a ∷ []) (Eq (f (Bound 0)) (Bound 0)) ≡ instance_at_a
body_formula =
    put_eq 0 (a ∷ []) (f (Bound 0)) (Bound 0)
    ∙ (λ i. Eq ((put_apply 0 (a ∷ []) (head.Symbol 2) [] (Bound 0 ∷ []) ∙ (λ j. Apply (head.Symbol 2) [] (put_bound 0 (a ∷ []) 0 j ∷ []))) i) (put_bound 0 (a ∷ []) 0 i))

instances_are : instances_of problem 1 (of_literal (is_true fixed)) [] (a ∷ []) ≡ (true, instance_at_a) ∷ []
instances_are =
    ap (λ y. elim (quant_of y) as (λ _. List (Bool × Formula)) [ Some q ↦ (true, put_formula (a ∷ []) q.body) ∷ [] | None ↦ [] ]) (outs-All block)
    ∙ ap (λ (h : Formula). (true, h) ∷ []) body_formula

not_there : (t : Term) → ¬ Contains without_instance.literals (is_true (Eq (f t) t))
not_there t i =
    elim (contains_cases (is_true fixed) (is_false goal ∷ []) (is_true (Eq (f t) t)) i) [
      | inl e ↦ not_equation (f t) t (formula_of e)
      | inr j ↦ wrong_sign (contains_one (is_false goal) (is_true (Eq (f t) t)) j)
    ]

no_answer : (ws : List Term) → AllSame signature system (a ∷ []) ws → AllByRecursion (Stands problem 1 without_instance) (instance_literals problem 1 (of_literal (is_true fixed)) [] ws) → ⊥
no_answer [] s i = s
no_answer (w ∷ []) s i = not_there w (subst (AllByRecursion (Contains without_instance.literals)) (instance_is [] w) i).0
no_answer (w ∷ z ∷ ws) s i = s.1

pub no_instance_is_refused : NoInstanceIsRefused
no_instance_is_refused limit bound h (takes, s) =
    let i =
    s.instances 0 (of_literal (is_true fixed)) [] (a ∷ []) h (match_here without_instance takes (0, omega arith, refl) (1, omega arith, refl))
    (subst (AllByRecursion (λ e. IsSmall e.1)) (sym instances_are) (small, tt)) in
    no_answer i.0 i.1 i.3

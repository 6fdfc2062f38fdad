-- The state of the two equations is saturated.
use Rattle.std.specs.Prelude.{ℕ, zero, suc, Bool, true, false, nat_lt, ◌≡◌, List, [], ◌∷◌, ◌++◌, slice_get, Option, Some, None}
use Rattle.std.specs.List.{AllByRecursion, Contains}
use Rattle.std.proofs.Common.{inl, inr}
use Rattle.std.proofs.lemmas.Option.{same_Some}
use Rattle.ae_base.proofs.Tests.{not_itself}
use mathlib.Core.Path.{refl, sym, ap, subst, ◌∙◌}
use native.Mathlib.Omega.{arith}
use Rattle.ae_base.specs.Options.{all_known, only, ◌>>=◌}
use Rattle.ae_base.proofs.Options.{never_some}
use Rattle.ae_core.specs.Putting.{put_sort}
use Rattle.ae_core.specs.Sorts.{sort_of, same_sorts, head_sort}
use Rattle.ae_core.specs.declared.formulas.Formula.{Formula, Formula-F, Eq, Not, Or, Pred, out-Formula}
use Rattle.ae_core.specs.declared.formulas.Formula.TheOpen as formula_layer
use Rattle.ae_core.specs.declared.formulas.Formula.TheVariants.{outs-Eq, outs-Or}
use Rattle.ae_core.specs.declared.formulas.Lit.{Lit}
use Rattle.ae_core.specs.declared.formulas.Quant.{Quant}
use Rattle.ae_core.specs.declared.problems.Nature.TheVariants.{Free, Ac, Choice}
use Rattle.ae_core.specs.declared.problems.SymbolEntry.{SymbolEntry}
use Rattle.ae_core.specs.declared.terms.Head.{Head}
use Rattle.ae_core.specs.declared.terms.Head.TheVariants as head
use Rattle.ae_core.specs.declared.terms.Sort.{Sort, Int, out-Sort}
use Rattle.ae_core.specs.declared.terms.Sort.TheVariants.{outs-Named}
use Rattle.ae_core.specs.declared.terms.Term.{Term, Apply, out-Term}
use Rattle.ae_rules.specs.Clauses.{Clause, opposite, is_true, is_false, no_of, row}
use Rattle.ae_rules.specs.Derivations.{IsConstructor}
use Rattle.ae_rules.specs.Instances.{choices_of}
use Rattle.ae_rules.specs.Lines.{IsAc}
use Rattle.ae_rules.proofs.ClauseLaws.{literal_eq, literal_not, literal_or, row_eq}
use Rattle.ae_num.specs.declared.forms.Value.{Leaf}
use Rattle.ae_journal.specs.Values.{Val, leaf, meaning}
use Rattle.ae_journal.specs.Systems.{IsCompleted, IsJoin, IsLeaf, IsName, IsNamed, ValueOf, ValuesOf, fields_of, record_fields, value_at}
use Rattle.ae_journal.specs.States.{IsSaturatedBy, SomeStands, IsFirst, all_taken}
use Rattle.ae_journal.specs.States.{outside}
use Rattle.ae_journal.specs.States.IsFirst.{of_hypothesis, of_goal}
use Rattle.ae_journal.proofs.Splits.{contains_cases, contains_one}
use Rattle.ae_evaluation.proofs.Decisions.{yes_sorts}
use Rattle.ae_evaluation.proofs.ExampleSystem.{leaf_at, no_entry}
use Rattle.ae_evaluation.proofs.Literals.{outside-Eq}
use Rattle.ae_evaluation.proofs.Plainness.{sort-Apply}
use Rattle.ae_decide.specs.Clauses.{Part, Clause as ClauseOf, IsCongruent, AllNamesJoin}
use Rattle.ae_decide.specs.Clauses.Part.{terms, leaves, computing, records, congruence, rules, reduction, overlaps, joins}
use Rattle.ae_system_checks.specs.Examples.{T}
use Rattle.ae_system_checks.specs.TwoEquations.{signature, constant, u, first, second, last, rest, goal, problem, names, system, literals, state}
use Rattle.ae_decide.proofs.NineClauses.{completed_of}
use Rattle.ae_system_checks.proofs.Entries.{places}
use Rattle.ae_system_checks.proofs.Facts.{put_T, constant_result, same_head, args_of, args_are, head_of, head_is}
use Rattle.ae_system_checks.proofs.Rules.{none_fit, none_reduced, none_overlap}
use Rattle.ae_system_checks.proofs.States.{no_hypothesis, of_or, outside_or, outside_not, formula_of, wrong_sign, sides, Plain, plain_or, plain_eq, no_predicate, no_inequality, no_quant, none_matches, not_int}
use Rattle.ae_system_checks.proofs.Symbols.{IsOfLeaves, IsSymbolTerm, terms_of, leaves_of, computed_of, records_of, own_leaf, leaf_tells}

-- ---- sorts
plain : record_fields signature T ≡ None
plain = ap (fields_of signature) (outs-Named 0 [])

sort_0 : sort_of signature (constant 0) ≡ Some T
sort_0 = sort-Apply signature (head.Symbol 0) [] [] ∙ constant_result

sort_1 : sort_of signature (constant 1) ≡ Some T
sort_1 = sort-Apply signature (head.Symbol 1) [] [] ∙ constant_result

sort_2 : sort_of signature (constant 2) ≡ Some T
sort_2 = sort-Apply signature (head.Symbol 2) [] [] ∙ constant_result

sort_3 : sort_of signature (constant 3) ≡ Some T
sort_3 = sort-Apply signature (head.Symbol 3) [] [] ∙ constant_result

sort_4 : sort_of signature (constant 4) ≡ Some T
sort_4 = sort-Apply signature (head.Symbol 4) [] [] ∙ constant_result

u_sort : (m n : ℕ) → sort_of signature (constant m) ≡ Some T → sort_of signature (constant n) ≡ Some T → sort_of signature (u m n) ≡ Some T
u_sort m n d e =
    sort-Apply signature (head.Symbol 5) [] (constant m ∷ constant n ∷ []) ∙ (λ i. all_known (d i ∷ e i ∷ []) >>= head_sort signature (head.Symbol 5) [])
    ∙ (λ i. only (same_sorts (T ∷ T ∷ []) (put_T i ∷ put_T i ∷ [])) (Some T) >>= λ s. Some (put_sort [] s))
    ∙ ap (λ c. only c (Some T) >>= λ s. Some (put_sort [] s)) (yes_sorts (T ∷ T ∷ [])) ∙ ap (λ (s : Sort). Some s) put_T

of_leaves : IsOfLeaves signature system
of_leaves = record {
  lengths = refl;
  symbol =
      places names (λ k t. IsSymbolTerm signature t) (
        record { number = 0; args = []; is = refl; sort = sort_0 },
        (
          record { number = 1; args = []; is = refl; sort = sort_1 },
          (
            record { number = 2; args = []; is = refl; sort = sort_2 },
            (
              record { number = 3; args = []; is = refl; sort = sort_3 },
              (
                record { number = 4; args = []; is = refl; sort = sort_4 },
                (
                  record { number = 5; args = constant 0 ∷ constant 1 ∷ []; is = refl; sort = u_sort 0 1 sort_0 sort_1 },
                  (
                    record { number = 5; args = constant 0 ∷ constant 3 ∷ []; is = refl; sort = u_sort 0 3 sort_0 sort_3 },
                    (
                      record { number = 5; args = constant 2 ∷ constant 3 ∷ []; is = refl; sort = u_sort 2 3 sort_2 sort_3 },
                      (record { number = 5; args = constant 4 ∷ constant 1 ∷ []; is = refl; sort = u_sort 4 1 sort_4 sort_1 }, tt),
                    ),
                  ),
                ),
              ),
            ),
          ),
        ),
      );
  leaf =
      places system.values (λ k v. (j : ℕ) × (v ≡ Leaf j))
      ((0, refl), ((1, refl), ((2, refl), ((3, refl), ((4, refl), ((2, refl), ((4, refl), ((7, refl), ((8, refl), tt)))))))));
}

-- ---- the place of each name, told by the symbols of its head and of its arguments
number_of : Head → ℕ
number_of (head.Symbol n) = n
number_of _ = 9

number : Term → ℕ
number t = number_of (head_of (out-Term t))

number_is : (n : ℕ) → number (constant n) ≡ n
unfolding number number_of
number_is n = ap number_of (head_is (head.Symbol n) [] [])

table : ℕ → ℕ → ℕ
table zero (suc zero) = 5
table zero n = 6
table (suc (suc zero)) n = 7
table m n = 8

spot_by : Head → List Term → ℕ
spot_by (head.Symbol (suc (suc (suc (suc (suc n)))))) (s ∷ t ∷ ts) = table (number s) (number t)
spot_by (head.Symbol n) ts = n
spot_by _ ts = 9

spot : Term → ℕ
spot t = spot_by (head_of (out-Term t)) (args_of (out-Term t))

spot_constant : (n : ℕ) → spot_by (head.Symbol n) [] ≡ n → spot (constant n) ≡ n
unfolding spot
spot_constant n e = (λ i. spot_by (head_is (head.Symbol n) [] [] i) (args_are (head.Symbol n) [] [] i)) ∙ e

spot_u : (m n : ℕ) → spot (u m n) ≡ table m n
unfolding spot spot_by
spot_u m n =
    (λ i. spot_by (head_is (head.Symbol 5) [] (constant m ∷ constant n ∷ []) i) (args_are (head.Symbol 5) [] (constant m ∷ constant n ∷ []) i))
    ∙ (λ i. table (number_is m i) (number_is n i))

spots : (k : ℕ) (t : Term) → IsName system k t → spot t ≡ k
unfolding spot_by table
spots =
    places names (λ k t. spot t ≡ k) (
      spot_constant 0 refl,
      (
        spot_constant 1 refl,
        (
          spot_constant 2 refl,
          (
            spot_constant 3 refl,
            (
              spot_constant 4 refl,
              (spot_u 0 1, (spot_u 0 3, (spot_u 2 3, (spot_u 4 1, tt)))),
            ),
          ),
        ),
      ),
    )

one_place : (m n : ℕ) (t : Term) → IsName system m t → IsName system n t → m ≡ n
one_place m n t i j = sym (spots m t i) ∙ spots n t j

-- ---- values
value : (n : ℕ) → ◌≡◌ {A = Option Val} (Some (meaning (Leaf n))) (Some (leaf n))
value n = ap (λ (v : Val). Some v) (leaf_at n)

value_of : (k m : ℕ) (t : Term) (v : Val) → IsName system k t → value_at system k ≡ Some (leaf m) → ValueOf system t v → leaf m ≡ v
value_of k m t v i e o = same_Some (leaf m) v (sym e ∙ ap (value_at system) (one_place k o.0 t i o.1) ∙ o.2)

make_leaf : (k : ℕ) (t : Term) → IsName system k t → value_at system k ≡ Some (leaf k) → IsLeaf signature system T k
make_leaf k t i v = record { term = t; is = i; sort = (of_leaves.symbol k t i).sort; value = v ∙ ap (λ (w : Val). Some w) (sym (own_leaf k)) }

at_leaf : (n k m : ℕ) → value_at system n ≡ Some (leaf k) → IsLeaf signature system T k → value_at system n ≡ Some (leaf m) → IsLeaf signature system T m
at_leaf n k m v l e = subst (IsLeaf signature system T) (leaf_tells k m (same_Some (leaf k) (leaf m) (sym v ∙ e))) l

is_leaf : (n m : ℕ) → value_at system n ≡ Some (leaf m) → IsLeaf signature system T m
is_leaf zero m e = at_leaf 0 0 m (value 0) (make_leaf 0 (constant 0) refl (value 0)) e
is_leaf (suc zero) m e = at_leaf 1 1 m (value 1) (make_leaf 1 (constant 1) refl (value 1)) e
is_leaf (suc (suc zero)) m e = at_leaf 2 2 m (value 2) (make_leaf 2 (constant 2) refl (value 2)) e
is_leaf (suc (suc (suc zero))) m e = at_leaf 3 3 m (value 3) (make_leaf 3 (constant 3) refl (value 3)) e
is_leaf (suc (suc (suc (suc zero)))) m e = at_leaf 4 4 m (value 4) (make_leaf 4 (constant 4) refl (value 4)) e
is_leaf (suc (suc (suc (suc (suc zero))))) m e = at_leaf 5 2 m (value 2) (make_leaf 2 (constant 2) refl (value 2)) e
is_leaf (suc (suc (suc (suc (suc (suc zero)))))) m e = at_leaf 6 4 m (value 4) (make_leaf 4 (constant 4) refl (value 4)) e
is_leaf (suc (suc (suc (suc (suc (suc (suc zero))))))) m e = at_leaf 7 7 m (value 7) (make_leaf 7 (u 2 3) refl (value 7)) e
is_leaf (suc (suc (suc (suc (suc (suc (suc (suc zero)))))))) m e = at_leaf 8 8 m (value 8) (make_leaf 8 (u 4 1) refl (value 8)) e
is_leaf (suc (suc (suc (suc (suc (suc (suc (suc (suc n))))))))) m e = absurd (never_some (leaf m) e)

-- ---- congruence: a head and the values of its arguments tell the name
of_pair : List Val → ℕ
of_pair (leaf m ∷ leaf n ∷ vs) = table m n
of_pair _ = 9

spot_of : Head → List Val → ℕ
spot_of (head.Symbol (suc (suc (suc (suc (suc n)))))) vs = of_pair vs
spot_of (head.Symbol n) vs = n
spot_of _ vs = 9

two_values : (m n : ℕ) → IsName system m (constant m) → value_at system m ≡ Some (leaf m) → IsName system n (constant n) → value_at system n ≡ Some (leaf n)
    → (vs : List Val) → ValuesOf system (constant m ∷ constant n ∷ []) vs → of_pair vs ≡ table m n
unfolding of_pair
two_values m n i v j w [] a = absurd a
two_values m n i v j w (x ∷ []) a = absurd a.1
two_values m n i v j w (x ∷ z ∷ vs) a =
    let d = value_of m m (constant m) x i v a.0 in
    let e = value_of n n (constant n) z j w (a.1).0 in
    sym (λ k. of_pair (d k ∷ e k ∷ vs))

abbrev Tells : ℕ → Term → Type 0
Tells k t = (vs : List Val) → ValuesOf system (args_of (out-Term t)) vs → spot_of (head_of (out-Term t)) vs ≡ k

constant_tells : (n : ℕ) → ((vs : List Val) → spot_of (head.Symbol n) vs ≡ n) → Tells n (constant n)
constant_tells n e vs a = ap (λ h. spot_of h vs) (head_is (head.Symbol n) [] []) ∙ e vs

u_tells : (k m n : ℕ) → IsName system m (constant m) → value_at system m ≡ Some (leaf m) → IsName system n (constant n) → value_at system n ≡ Some (leaf n)
    → table m n ≡ k → Tells k (u m n)
unfolding spot_of
u_tells k m n i v j w e vs a =
    ap (λ h. spot_of h vs) (head_is (head.Symbol 5) [] (constant m ∷ constant n ∷ []))
    ∙ two_values m n i v j w vs (subst (λ us. ValuesOf system us vs) (args_are (head.Symbol 5) [] (constant m ∷ constant n ∷ [])) a) ∙ e

tells : (k : ℕ) (t : Term) → IsName system k t → Tells k t
unfolding spot_of table
tells =
    places names Tells (
      constant_tells 0 (λ vs. refl),
      (
        constant_tells 1 (λ vs. refl),
        (
          constant_tells 2 (λ vs. refl),
          (
            constant_tells 3 (λ vs. refl),
            (
              constant_tells 4 (λ vs. refl),
              (
                u_tells 5 0 1 refl (value 0) refl (value 1) refl,
                (
                  u_tells 6 0 3 refl (value 0) refl (value 3) refl,
                  (u_tells 7 2 3 refl (value 2) refl (value 3) refl, (u_tells 8 4 1 refl (value 4) refl (value 1) refl, tt)),
                ),
              ),
            ),
          ),
        ),
      ),
    )

congruent : IsCongruent signature system
congruent m n h ss us ws vs s i j e p q =
    ap (value_at system) (sym (told m us i p) ∙ told n ws j q)
  where
    told : (k : ℕ) (ts : List Term) → IsName system k (Apply h ss ts) → ValuesOf system ts vs → spot_of h vs ≡ k
    told k ts i a =
        sym (ap (λ g. spot_of g vs) (head_is h ss ts)) ∙ tells k (Apply h ss ts) i vs (subst (λ us. ValuesOf system us vs) (sym (args_are h ss ts)) a)

subterms : (n : ℕ) (h : Head) (ss : List Sort) (us : List Term) → IsName system n (Apply h ss us) → AllByRecursion (IsNamed system) us
subterms n h ss us i = subst (AllByRecursion (IsNamed system)) (args_are h ss us) (all n (Apply h ss us) i)
  where
    back : (g : Head) (ts : List Term) → AllByRecursion (IsNamed system) ts → AllByRecursion (IsNamed system) (args_of (out-Term (Apply g [] ts)))
    back g ts = subst (AllByRecursion (IsNamed system)) (sym (args_are g [] ts))

    all : (k : ℕ) (t : Term) → IsName system k t → AllByRecursion (IsNamed system) (args_of (out-Term t))
    all =
        places names (λ k t. AllByRecursion (IsNamed system) (args_of (out-Term t))) (
          back (head.Symbol 0) [] tt,
          (
            back (head.Symbol 1) [] tt,
            (
              back (head.Symbol 2) [] tt,
              (
                back (head.Symbol 3) [] tt,
                (
                  back (head.Symbol 4) [] tt,
                  (
                    back (head.Symbol 5) (constant 0 ∷ constant 1 ∷ []) ((0, refl), ((1, refl), tt)),
                    (
                      back (head.Symbol 5) (constant 0 ∷ constant 3 ∷ []) ((0, refl), ((3, refl), tt)),
                      (
                        back (head.Symbol 5) (constant 2 ∷ constant 3 ∷ []) ((2, refl), ((3, refl), tt)),
                        (back (head.Symbol 5) (constant 4 ∷ constant 1 ∷ []) ((4, refl), ((1, refl), tt)), tt),
                      ),
                    ),
                  ),
                ),
              ),
            ),
          ),
        )

-- ---- no symbol is associative and commutative, or a constructor
free : (n : ℕ) (e : SymbolEntry) → slice_get signature.symbols n ≡ Some e → e.nature ≡ Free
free = places signature.symbols (λ n e. e.nature ≡ Free) (refl, (refl, (refl, (refl, (refl, (refl, tt))))))

head_of_name : (n : ℕ) (h : Head) (ss : List Sort) (us : List Term) → IsName system n (Apply h ss us) → (k : ℕ) × (head.Symbol k ≡ h)
head_of_name n h ss us i = let s = of_leaves.symbol n (Apply h ss us) i in (s.number, same_head (head.Symbol s.number) h [] ss s.args us (sym s.is))

no_join : AllNamesJoin signature system
no_join n h ss s t p q r i j =
    let k = head_of_name n h ss (s ∷ t ∷ []) i in absurd (not_ac k.0 (subst (λ g. IsJoin signature g s t) (sym k.1) j))
  where
    not_ac : (k : ℕ) → IsAc signature (head.Symbol k) → ⊥
    not_ac k (e, d, g) = let z : Free ≡ Ac = sym (free k e d) ∙ g in cc

no_constructor : (n : ℕ) (h : Head) (ss : List Sort) (us : List Term) → IsName system n (Apply h ss us) → IsConstructor signature h → ⊥
no_constructor n h ss us i c = let k = head_of_name n h ss us i in not_choice k.0 (subst (IsConstructor signature) (sym k.1) c)
  where
    not_choice : (k : ℕ) → IsConstructor signature (head.Symbol k) → ⊥
    not_choice k (e, of, place, d, g) = let z : Free ≡ Choice of place = sym (free k e d) ∙ g in cc

completed : IsCompleted signature system
completed = completed_of signature system each
  where
    each : (part : Part) → ClauseOf signature system part
    each terms = terms_of signature plain system of_leaves one_place subterms
    each leaves = leaves_of signature plain system of_leaves is_leaf
    each computing = computed_of signature plain system of_leaves
    each records = records_of signature plain system of_leaves
    each congruence = congruent
    each rules = none_fit signature system no_entry
    each reduction = none_reduced signature system no_entry
    each overlaps = none_overlap signature system no_entry
    each joins = no_join

-- ---- the literals
each_literal : (P : Lit → Type 0) → P (is_false goal) → P (is_true first) → P (is_false rest) → P (is_true second) → P (is_false last)
    → (l : Lit) → Contains literals l → P l
each_literal P a b c d e l i =
    elim (contains_cases (is_false goal) (is_true first ∷ is_false rest ∷ is_true second ∷ is_false last ∷ []) l i) as (λ _. P l) [
      | inl p ↦ subst P p a
      | inr j ↦ elim (contains_cases (is_true first) (is_false rest ∷ is_true second ∷ is_false last ∷ []) l j) as (λ _. P l) [
        | inl p ↦ subst P p b
        | inr k ↦ elim (contains_cases (is_false rest) (is_true second ∷ is_false last ∷ []) l k) as (λ _. P l) [
          | inl p ↦ subst P p c
          | inr m ↦ elim (contains_cases (is_true second) (is_false last ∷ []) l m) as (λ _. P l) [
            | inl p ↦ subst P p d
            | inr n ↦ subst P (contains_one (is_false last) l n) e
          ]
        ]
      ]
    ]

stands_0 : Contains literals (is_false goal)
stands_0 = (0, omega arith, refl)

stands_1 : Contains literals (is_true first)
stands_1 = (1, omega arith, refl)

stands_2 : Contains literals (is_false rest)
stands_2 = (2, omega arith, refl)

stands_3 : Contains literals (is_true second)
stands_3 = (3, omega arith, refl)

stands_4 : Contains literals (is_false last)
stands_4 = (4, omega arith, refl)

-- what tells the formulas apart: the place of an equation's left side
tag_of : Formula-F Formula Quant → ℕ
tag_of (formula_layer.Eq s t) = spot s
tag_of (formula_layer.Or f g) = 10
tag_of _ = 11

tag : Formula → ℕ
tag f = tag_of (out-Formula f)

tag_eq : (s t : Term) → tag (Eq s t) ≡ spot s
unfolding tag tag_of
tag_eq s t = ap tag_of (outs-Eq s t)

tag_or : (f g : Formula) → tag (Or f g) ≡ 10
unfolding tag tag_of
tag_or f g = ap tag_of (outs-Or f g)

-- the sign that a formula has in the state
sign_of : ℕ → Bool
sign_of n = nat_lt n 7

signs : (l : Lit) → Contains literals l → sign_of (tag l.formula) ≡ l.positive
unfolding sign_of table
signs =
    each_literal (λ l. sign_of (tag l.formula) ≡ l.positive) (ap sign_of (tag_or _ _)) (ap sign_of (tag_eq (u 0 1) (constant 2) ∙ spot_u 0 1))
    (ap sign_of (tag_or _ _)) (ap sign_of (tag_eq (u 0 3) (constant 4) ∙ spot_u 0 3)) (ap sign_of (tag_eq (u 2 3) (u 4 1) ∙ spot_u 2 3))

consistent : (l : Lit) → Contains literals l → Contains literals (opposite l) → ⊥
consistent l i j = not_itself l.positive (sym (signs l i) ∙ signs (opposite l) j)

-- ---- the terms in them
in_rest : outside rest ≡ u 0 3 ∷ constant 4 ∷ u 2 3 ∷ u 4 1 ∷ []
in_rest =
    outside_or (Not second) last ∙ (λ i. (outside_not second i) ++ (outside-Eq (u 2 3) (u 4 1) i))
    ∙ ap (λ ts. ts ++ u 2 3 ∷ u 4 1 ∷ []) (outside-Eq (u 0 3) (constant 4))

in_goal : outside goal ≡ u 0 1 ∷ constant 2 ∷ u 0 3 ∷ constant 4 ∷ u 2 3 ∷ u 4 1 ∷ []
in_goal =
    outside_or (Not first) rest ∙ (λ i. (outside_not first i) ++ (in_rest i))
    ∙ ap (λ ts. ts ++ u 0 3 ∷ constant 4 ∷ u 2 3 ∷ u 4 1 ∷ []) (outside-Eq (u 0 1) (constant 2))

named : (l : Lit) → Contains literals l → AllByRecursion (IsNamed system) (outside l.formula)
named =
    each_literal (λ l. AllByRecursion (IsNamed system) (outside l.formula))
    (back goal _ in_goal ((5, refl), ((2, refl), ((6, refl), ((4, refl), ((7, refl), ((8, refl), tt)))))))
    (back first _ (outside-Eq (u 0 1) (constant 2)) ((5, refl), ((2, refl), tt)))
    (back rest _ in_rest ((6, refl), ((4, refl), ((7, refl), ((8, refl), tt)))))
    (back second _ (outside-Eq (u 0 3) (constant 4)) ((6, refl), ((4, refl), tt)))
    (back last _ (outside-Eq (u 2 3) (u 4 1)) ((7, refl), ((8, refl), tt)))
  where
    back : (f : Formula) (ts : List Term) → outside f ≡ ts → AllByRecursion (IsNamed system) ts → AllByRecursion (IsNamed system) (outside f)
    back f ts e = subst (AllByRecursion (IsNamed system)) (sym e)

-- ---- the goal's negation, and what its rows ask for
no_goal : no_of goal ≡ is_false goal
no_goal = literal_or false (Not first) rest

no_not_first : no_of (Not first) ≡ is_true first
no_not_first = literal_not false first ∙ literal_eq true (u 0 1) (constant 2)

no_rest : no_of rest ≡ is_false rest
no_rest = literal_or false (Not second) last

no_not_second : no_of (Not second) ≡ is_true second
no_not_second = literal_not false second ∙ literal_eq true (u 0 3) (constant 4)

no_last : no_of last ≡ is_false last
no_last = literal_eq false (u 2 3) (u 4 1)

firsts : (l : Lit) → IsFirst problem 0 state l → Contains literals l
firsts l (of_hypothesis k f e) = absurd (no_hypothesis problem k [] f e)
firsts l (of_goal f e) =
    subst (λ g. Contains literals (no_of g)) (same_Some goal f e) (subst (Contains literals) (sym no_goal) stands_0)

taken_apart : (l : Lit) → Contains literals l → (r : ℕ) (c : Clause) → row r l.formula ≡ Some c → SomeStands problem 0 state c
taken_apart =
    each_literal (λ l. (r : ℕ) (c : Clause) → row r l.formula ≡ Some c → SomeStands problem 0 state c)
    (of_or problem 0 state (Not first) rest stands_0 (subst (Contains literals) (sym no_not_first) stands_1) (subst (Contains literals) (sym no_rest) stands_2))
    (λ r c e. never_some c (sym (row_eq r (u 0 1) (constant 2)) ∙ e))
    (of_or problem 0 state (Not second) last stands_2 (subst (Contains literals) (sym no_not_second) stands_3) (subst (Contains literals) (sym no_last) stands_4))
    (λ r c e. never_some c (sym (row_eq r (u 0 3) (constant 4)) ∙ e)) (λ r c e. never_some c (sym (row_eq r (u 2 3) (u 4 1)) ∙ e))

-- ---- equations
or_is_no_equation : (f g : Formula) (s t : Term) → Or f g ≡ Eq s t → ⊥
or_is_no_equation f g s t e = let z : formula_layer.Or f g ≡ formula_layer.Eq s t = sym (outs-Or f g) ∙ ap out-Formula e ∙ outs-Eq s t in cc

equal : (s t : Term) → Contains literals (is_true (Eq s t)) → (v : Val) × ValueOf system s v × ValueOf system t v
equal s t i =
    each_literal (λ l. l ≡ is_true (Eq s t) → (v : Val) × ValueOf system s v × ValueOf system t v) (λ e. wrong_sign e)
    (λ e. both (u 0 1) (constant 2) 2 (5, refl, value 2) (2, refl, value 2) (formula_of e)) (λ e. wrong_sign e)
    (λ e. both (u 0 3) (constant 4) 4 (6, refl, value 4) (4, refl, value 4) (formula_of e)) (λ e. wrong_sign e) (is_true (Eq s t)) i refl
  where
    both : (p q : Term) (k : ℕ) → ValueOf system p (leaf k) → ValueOf system q (leaf k) → Eq p q ≡ Eq s t → (v : Val) × ValueOf system s v × ValueOf system t v
    both p q k a b e =
        let d = sides p q s t e in (leaf k, subst (λ w. ValueOf system w (leaf k)) d.0 a, subst (λ w. ValueOf system w (leaf k)) d.1 b)

unequal : (s t : Term) (v : Val) → Contains literals (is_false (Eq s t)) → ValueOf system s v → ValueOf system t v → ⊥
unequal s t v i a b =
    each_literal (λ l. l ≡ is_false (Eq s t) → ⊥) (λ e. or_is_no_equation (Not first) rest s t (formula_of e)) (λ e. wrong_sign (sym e))
    (λ e. or_is_no_equation (Not second) last s t (formula_of e)) (λ e. wrong_sign (sym e)) (λ e. differ (sides (u 2 3) (u 4 1) s t (formula_of e)))
    (is_false (Eq s t)) i refl
  where
    differ : (u 2 3 ≡ s) × (u 4 1 ≡ t) → ⊥
    differ (d, e) =
        let p = value_of 7 7 (u 2 3) v refl (value 7) (subst (λ w. ValueOf system w v) (sym d) a) in
        let q = value_of 8 8 (u 4 1) v refl (value 8) (subst (λ w. ValueOf system w v) (sym e) b) in
        let z = leaf_tells 7 8 (p ∙ sym q) in
        omega (arith, z)

-- ---- nothing else stands
all_plain : (l : Lit) → Contains literals l → Plain l
all_plain =
    each_literal Plain (plain_or (Not first) rest false) (plain_eq (u 0 1) (constant 2) true) (plain_or (Not second) last false) (plain_eq (u 0 3) (constant 4) true)
    (plain_eq (u 2 3) (u 4 1) false)

no_choices : choices_of signature (out-Sort T) ≡ None
no_choices = ap (choices_of signature) (outs-Named 0 [])

its_sort : (n : ℕ) (t : Term) (s : Sort) → IsName system n t → sort_of signature t ≡ Some s → T ≡ s
its_sort n t s i e = same_Some T s (sym (of_leaves.symbol n t i).sort ∙ e)

pub saturated_by : (bound : ℕ) → IsSaturatedBy problem 0 state all_taken bound
saturated_by bound = record {
  consistent = consistent;
  completed = completed;
  named = named;
  firsts = firsts;
  taken_apart = taken_apart;
  equal = equal;
  unequal = unequal;
  constructors = λ h i v c d a b. absurd (no_constructor a.0 h [] [] a.1 c);
  predicates = λ q ss ts us i j a. no_predicate q ss ts true (all_plain (is_true (Pred q ss ts)) i);
  exhausted = λ s v n hs a e. absurd (never_some hs (sym no_choices ∙ ap (λ o. choices_of signature (out-Sort o)) (its_sort n a.term s a.is a.sort) ∙ e));
  whole = λ n d t f i e g. absurd (not_int (its_sort n t Int i e));
  inequalities = λ l s t strict v w i e a b. absurd (no_inequality l (all_plain l i) (s, t, strict) e);
  blocks = λ l q i e f. absurd (no_quant l (all_plain l i) q f);
  instances = λ n o us ts h m k. absurd (none_matches problem state all_plain n o us ts m);
}

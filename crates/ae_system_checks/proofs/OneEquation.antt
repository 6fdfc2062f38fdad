-- The state of the one equation is saturated.
use Rattle.std.specs.Prelude.{ℕ, zero, suc, true, false, nat_eq, ◌≡◌, List, [], ◌∷◌, ◌++◌, slice_get, Option, Some, None}
use Rattle.std.specs.List.{AllByRecursion, Contains}
use Rattle.std.proofs.Common.{inl, inr}
use Rattle.std.proofs.lemmas.Option.{same_Some}
use Rattle.ae_base.proofs.Tests.{not_itself}
use mathlib.Core.Path.{refl, sym, ap, subst, ◌∙◌}
use native.Mathlib.Omega.{arith}
use Rattle.ae_base.proofs.Options.{never_some}
use Rattle.ae_core.specs.Sorts.{sort_of}
use Rattle.ae_core.specs.declared.formulas.Formula.{Formula, Formula-F, Eq, Not, Pred, out-Formula}
use Rattle.ae_core.specs.declared.formulas.Formula.TheOpen as formula_layer
use Rattle.ae_core.specs.declared.formulas.Formula.TheVariants.{outs-Eq, outs-Or}
use Rattle.ae_core.specs.declared.formulas.Lit.{Lit}
use Rattle.ae_core.specs.declared.formulas.Quant.{Quant}
use Rattle.ae_core.specs.declared.problems.Nature.TheVariants.{Free}
use Rattle.ae_core.specs.declared.problems.SymbolEntry.{SymbolEntry}
use Rattle.ae_core.specs.declared.terms.Head.{Head}
use Rattle.ae_core.specs.declared.terms.Head.TheVariants as head
use Rattle.ae_core.specs.declared.terms.Sort.{Sort, Int, out-Sort}
use Rattle.ae_core.specs.declared.terms.Sort.TheVariants.{outs-Named}
use Rattle.ae_core.specs.declared.terms.Term.{Term, Apply, out-Term}
use Rattle.ae_rules.specs.Clauses.{Clause, opposite, is_true, is_false, no_of, row}
use Rattle.ae_rules.specs.Instances.{choices_of}
use Rattle.ae_rules.proofs.ClauseLaws.{literal_eq, literal_not, literal_or, row_eq}
use Rattle.ae_num.specs.declared.forms.Value.{Leaf}
use Rattle.ae_journal.specs.Values.{Val, leaf, meaning}
use Rattle.ae_journal.specs.Systems.{IsLeaf, IsName, IsNamed, ValueOf, fields_of, record_fields, value_at}
use Rattle.ae_journal.specs.States.{IsSaturatedBy, SomeStands, IsFirst, outside, all_taken}
use Rattle.ae_journal.specs.States.IsFirst.{of_hypothesis, of_goal}
use Rattle.ae_journal.proofs.Splits.{contains_cases, contains_one}
use Rattle.ae_evaluation.proofs.ExampleSystem.{leaf_at, no_entry}
use Rattle.ae_evaluation.proofs.Literals.{outside-Eq}
use Rattle.ae_evaluation.proofs.Plainness.{sort-Apply}
use Rattle.ae_system_checks.specs.Examples.{T}
use Rattle.ae_system_checks.specs.OneEquation.{signature, constant, first, last, goal, problem, system, literals, state}
use Rattle.ae_system_checks.proofs.Entries.{places}
use Rattle.ae_system_checks.proofs.Facts.{constant_result, args_of, args_are}
use Rattle.ae_system_checks.proofs.Numbered.{number, number_is, value_of, make_leaf, at_leaf, no_constructor, completed}
use Rattle.ae_system_checks.proofs.Symbols.{IsOfLeaves, IsSymbolTerm, leaf_tells}
use Rattle.ae_system_checks.proofs.States.{no_hypothesis, of_or, outside_or, outside_not, formula_of, wrong_sign, sides, Plain, plain_or, plain_eq, no_predicate, no_inequality, no_quant, none_matches, not_int}

plain : record_fields signature T ≡ None
plain = ap (fields_of signature) (outs-Named 0 [])

of_leaves : IsOfLeaves signature system
of_leaves = record {
  lengths = refl;
  symbol =
      places system.names (λ k t. IsSymbolTerm signature t) (
        record { number = 0; args = []; is = refl; sort = sort-Apply signature (head.Symbol 0) [] [] ∙ constant_result },
        (
          record { number = 1; args = []; is = refl; sort = sort-Apply signature (head.Symbol 1) [] [] ∙ constant_result },
          (record { number = 2; args = []; is = refl; sort = sort-Apply signature (head.Symbol 2) [] [] ∙ constant_result }, tt),
        ),
      );
  leaf = places system.values (λ k v. (j : ℕ) × (v ≡ Leaf j)) ((0, refl), ((0, refl), ((2, refl), tt)));
}

numbers : (n : ℕ) (t : Term) → IsName system n t → number t ≡ n
numbers =
    places system.names (λ n t. number t ≡ n)
    (number_is (head.Symbol 0) [] [], (number_is (head.Symbol 1) [] [], (number_is (head.Symbol 2) [] [], tt)))

natures : (n : ℕ) (e : SymbolEntry) → slice_get signature.symbols n ≡ Some e → e.nature ≡ Free
natures = places signature.symbols (λ n e. e.nature ≡ Free) (refl, (refl, (refl, (refl, (refl, tt)))))

free : (n : ℕ) (t : Term) → IsName system n t → (e : SymbolEntry) → slice_get signature.symbols n ≡ Some e → e.nature ≡ Free
free n t i = natures n

value : (n : ℕ) → ◌≡◌ {A = Option Val} (Some (meaning (Leaf n))) (Some (leaf n))
value n = ap (λ (v : Val). Some v) (leaf_at n)

leaf_here : (k : ℕ) (t : Term) → IsName system k t → value_at system k ≡ Some (leaf k) → IsLeaf signature system T k
leaf_here = make_leaf signature plain system of_leaves numbers free

is_leaf : (n m : ℕ) → value_at system n ≡ Some (leaf m) → IsLeaf signature system T m
is_leaf zero m e = at_leaf signature plain system of_leaves numbers free 0 0 m (value 0) (leaf_here 0 (constant 0) refl (value 0)) e
is_leaf (suc zero) m e = at_leaf signature plain system of_leaves numbers free 1 0 m (value 0) (leaf_here 0 (constant 0) refl (value 0)) e
is_leaf (suc (suc zero)) m e = at_leaf signature plain system of_leaves numbers free 2 2 m (value 2) (leaf_here 2 (constant 2) refl (value 2)) e
is_leaf (suc (suc (suc n))) m e = absurd (never_some (leaf m) e)

subterms : (n : ℕ) (h : Head) (ss : List Sort) (us : List Term) → IsName system n (Apply h ss us) → AllByRecursion (IsNamed system) us
subterms n h ss us i = subst (AllByRecursion (IsNamed system)) (args_are h ss us) (all n (Apply h ss us) i)
  where
    none : (m : ℕ) → AllByRecursion (IsNamed system) (args_of (out-Term (constant m)))
    none m = subst (AllByRecursion (IsNamed system)) (sym (args_are (head.Symbol m) [] [])) tt

    all : (k : ℕ) (t : Term) → IsName system k t → AllByRecursion (IsNamed system) (args_of (out-Term t))
    all = places system.names (λ k t. AllByRecursion (IsNamed system) (args_of (out-Term t))) (none 0, (none 1, (none 2, tt)))

-- ---- the literals
each_literal : (P : Lit → Type 0) → P (is_false goal) → P (is_true first) → P (is_false last) → (l : Lit) → Contains literals l → P l
each_literal P p q r l i =
    elim (contains_cases (is_false goal) (is_true first ∷ is_false last ∷ []) l i) as (λ _. P l) [
      | inl e ↦ subst P e p
      | inr j ↦ elim (contains_cases (is_true first) (is_false last ∷ []) l j) as (λ _. P l) [
        | inl e ↦ subst P e q
        | inr k ↦ subst P (contains_one (is_false last) l k) r
      ]
    ]

stands_0 : Contains literals (is_false goal)
stands_0 = (0, omega arith, refl)

stands_1 : Contains literals (is_true first)
stands_1 = (1, omega arith, refl)

stands_2 : Contains literals (is_false last)
stands_2 = (2, omega arith, refl)

-- what tells the formulas apart: the symbol of an equation's right side
abbrev tag_of : Formula-F Formula Quant → ℕ
tag_of (formula_layer.Eq s t) = number t
tag_of (formula_layer.Or f g) = 10
tag_of _ = 11

abbrev tag : Formula → ℕ
tag f = tag_of (out-Formula f)

signs : (l : Lit) → Contains literals l → nat_eq (tag l.formula) 1 ≡ l.positive
signs =
    each_literal (λ l. nat_eq (tag l.formula) 1 ≡ l.positive) (ap (λ h. nat_eq (tag_of h) 1) (outs-Or (Not first) last))
    (ap (λ h. nat_eq (tag_of h) 1) (outs-Eq (constant 0) (constant 1)) ∙ ap (λ n. nat_eq n 1) (number_is (head.Symbol 1) [] []))
    (ap (λ h. nat_eq (tag_of h) 1) (outs-Eq (constant 0) (constant 2)) ∙ ap (λ n. nat_eq n 1) (number_is (head.Symbol 2) [] []))

consistent : (l : Lit) → Contains literals l → Contains literals (opposite l) → ⊥
consistent l i j = not_itself l.positive (sym (signs l i) ∙ signs (opposite l) j)

in_goal : outside goal ≡ constant 0 ∷ constant 1 ∷ constant 0 ∷ constant 2 ∷ []
in_goal =
    outside_or (Not first) last ∙ (λ i. (outside_not first i) ++ (outside-Eq (constant 0) (constant 2) i))
    ∙ ap (λ ts. ts ++ constant 0 ∷ constant 2 ∷ []) (outside-Eq (constant 0) (constant 1))

named : (l : Lit) → Contains literals l → AllByRecursion (IsNamed system) (outside l.formula)
named =
    each_literal (λ l. AllByRecursion (IsNamed system) (outside l.formula))
    (subst (AllByRecursion (IsNamed system)) (sym in_goal) ((0, refl), ((1, refl), ((0, refl), ((2, refl), tt)))))
    (subst (AllByRecursion (IsNamed system)) (sym (outside-Eq (constant 0) (constant 1))) ((0, refl), ((1, refl), tt)))
    (subst (AllByRecursion (IsNamed system)) (sym (outside-Eq (constant 0) (constant 2))) ((0, refl), ((2, refl), tt)))

firsts : (l : Lit) → IsFirst problem 0 state l → Contains literals l
firsts l (of_hypothesis k f e) = absurd (no_hypothesis problem k [] f e)
firsts l (of_goal f e) =
    subst (λ g. Contains literals (no_of g)) (same_Some goal f e) (subst (Contains literals) (sym (literal_or false (Not first) last)) stands_0)

taken_apart : (l : Lit) → Contains literals l → (r : ℕ) (c : Clause) → row r l.formula ≡ Some c → SomeStands problem 0 state c
taken_apart =
    each_literal (λ l. (r : ℕ) (c : Clause) → row r l.formula ≡ Some c → SomeStands problem 0 state c)
    (of_or problem 0 state (Not first) last stands_0
    (subst (Contains literals) (sym (literal_not false first ∙ literal_eq true (constant 0) (constant 1))) stands_1)
    (subst (Contains literals) (sym (literal_eq false (constant 0) (constant 2))) stands_2))
    (λ r c e. never_some c (sym (row_eq r (constant 0) (constant 1)) ∙ e)) (λ r c e. never_some c (sym (row_eq r (constant 0) (constant 2)) ∙ e))

equal : (s t : Term) → Contains literals (is_true (Eq s t)) → (v : Val) × ValueOf system s v × ValueOf system t v
equal s t i =
    each_literal (λ l. l ≡ is_true (Eq s t) → (v : Val) × ValueOf system s v × ValueOf system t v) (λ e. wrong_sign e) both (λ e. wrong_sign e)
    (is_true (Eq s t)) i refl
  where
    both : is_true first ≡ is_true (Eq s t) → (v : Val) × ValueOf system s v × ValueOf system t v
    both e =
        let d = sides (constant 0) (constant 1) s t (formula_of e) in
        (leaf 0, subst (λ w. ValueOf system w (leaf 0)) d.0 (0, refl, value 0), subst (λ w. ValueOf system w (leaf 0)) d.1 (1, refl, value 0))

unequal : (s t : Term) (v : Val) → Contains literals (is_false (Eq s t)) → ValueOf system s v → ValueOf system t v → ⊥
unequal s t v i p q =
    each_literal (λ l. l ≡ is_false (Eq s t) → ⊥) (λ e. or_is_no_equation (formula_of e)) (λ e. wrong_sign (sym e)) (λ e. differ (sides (constant 0) (constant 2) s t (formula_of e)))
    (is_false (Eq s t)) i refl
  where
    or_is_no_equation : goal ≡ Eq s t → ⊥
    or_is_no_equation e = let z : formula_layer.Or (Not first) last ≡ formula_layer.Eq s t = sym (outs-Or (Not first) last) ∙ ap out-Formula e ∙ outs-Eq s t in cc

    differ : (constant 0 ≡ s) × (constant 2 ≡ t) → ⊥
    differ (d, e) =
        let x = value_of signature plain system of_leaves numbers free 0 0 (constant 0) v refl (value 0) (subst (λ w. ValueOf system w v) (sym d) p) in
        let z = value_of signature plain system of_leaves numbers free 2 2 (constant 2) v refl (value 2) (subst (λ w. ValueOf system w v) (sym e) q) in
        let w = leaf_tells 0 2 (x ∙ sym z) in
        omega (arith, w)

-- nothing else stands
all_plain : (l : Lit) → Contains literals l → Plain l
all_plain = each_literal Plain (plain_or (Not first) last false) (plain_eq (constant 0) (constant 1) true) (plain_eq (constant 0) (constant 2) false)

its_sort : (n : ℕ) (t : Term) (s : Sort) → IsName system n t → sort_of signature t ≡ Some s → T ≡ s
its_sort n t s i e = same_Some T s (sym (of_leaves.symbol n t i).sort ∙ e)

no_choices : choices_of signature (out-Sort T) ≡ None
no_choices = ap (choices_of signature) (outs-Named 0 [])

pub saturated_by : (bound : ℕ) → IsSaturatedBy problem 0 state all_taken bound
saturated_by bound = record {
  consistent = consistent;
  completed = completed signature plain system of_leaves numbers free subterms is_leaf no_entry;
  named = named;
  firsts = firsts;
  taken_apart = taken_apart;
  equal = equal;
  unequal = unequal;
  constructors = λ h i v c d a b. absurd (no_constructor signature plain system of_leaves numbers free a.0 h [] [] a.1 c);
  predicates = λ q ss ts us i j a. no_predicate q ss ts true (all_plain (is_true (Pred q ss ts)) i);
  exhausted = λ s v n hs a e. absurd (never_some hs (sym no_choices ∙ ap (λ o. choices_of signature (out-Sort o)) (its_sort n a.term s a.is a.sort) ∙ e));
  whole = λ n d t f i e g. absurd (not_int (its_sort n t Int i e));
  inequalities = λ l s t strict v w i e a b. absurd (no_inequality l (all_plain l i) (s, t, strict) e);
  blocks = λ l q i e f. absurd (no_quant l (all_plain l i) q f);
  instances = λ n o us ts h m k. absurd (none_matches problem state all_plain n o us ts m);
}

-- The systems that one clause alone refuses and that have other names than the two constants.
use Rattle.std.specs.Prelude.{ℕ, zero, suc, ℤ, pos, Bool, true, ◌≡◌, ◌≢◌, ◌<◌, ◌+◌, List, [], ◌∷◌, ◌++◌, length, Option, Some, None}
use Rattle.std.specs.List.{AllByRecursion}
use Rattle.std.proofs.Common.{inl, inr}
use Rattle.std.proofs.lemmas.Option.{same_Some}
use mathlib.Core.Path.{refl, sym, ap, subst, ◌∙◌}
use native.Mathlib.Omega.{arith}
use Rattle.ae_base.proofs.Options.{never_some}
use Rattle.ae_core.specs.Sorts.{sort_of}
use Rattle.ae_core.specs.declared.terms.Head.{Head}
use Rattle.ae_core.specs.declared.terms.Head.TheVariants as head
use Rattle.ae_core.specs.declared.terms.Sort.{Sort, Real}
use Rattle.ae_core.specs.declared.terms.Sort.TheVariants.{outs-Named}
use Rattle.ae_core.specs.declared.terms.Term.{Term, Term-F, Num, Apply, out-Term}
use Rattle.ae_core.specs.declared.terms.Term.TheOpen as layer
use Rattle.ae_core.specs.declared.terms.Term.TheVariants.{outs-Apply, outs-Num}
use Rattle.ae_math.specs.Fractions.{ratio}
use Rattle.ae_multiset.specs.Rewriting.{ReducesTo}
use Rattle.ae_num.specs.Forms.{IsNormal}
use Rattle.ae_num.specs.declared.forms.Value.{Leaf, Number, Fields as FieldValues, fold-roll-Value}
use Rattle.ae_num.specs.declared.forms.Value.TheOpen as value_layer
use Rattle.ae_num.specs.declared.forms.Value.TheVariants.{rolls-Fields}
use Rattle.ae_journal.specs.Values.{Val, number, leaf, fields, once, constant_val, vals, meaning, meaning_step}
use Rattle.ae_journal.specs.Systems.{Has, IsLeaf, IsName, IsNamed, IsNormalValue, IsOver, IsRule, StandsFor, value_at, record_fields, field_terms, field_terms_of, linear, beside}
use Rattle.ae_journal.specs.declared.systems.System.{System}
use Rattle.ae_evaluation.specs.Examples.{itself}
use Rattle.ae_evaluation.proofs.ExampleSystem.{leaf_at, leaf_forms, normal_leaf, normal_number, number_at, own_real, forms-Fields, no_entry}
use Rattle.ae_decide.specs.Clauses.{Part, Clause, FailsAlone, IsCongruent, AllNamesJoin}
use Rattle.ae_decide.specs.Clauses.Part.{terms, leaves, computing, records, congruence, rules, reduction, overlaps, joins}
use Rattle.ae_system_checks.specs.Examples.{signature, T, a, b, f, u, u_entry, one, built, field, named_twice, opaque_numeral, other_field, incongruent, without_rule}
use Rattle.ae_system_checks.proofs.Entries.{of_one, of_two, of_three, of_four}
use Rattle.ae_system_checks.proofs.Facts.{R, T_fields, R_fields, real_fields, not_numeric, a_sort, b_sort, f_sort, u_sort, one_sort, built_sort, field_sort, no_record, sorted_is_no_predicate, args_of, args_are, head_of, head_is}
use Rattle.ae_system_checks.proofs.Symbols.{IsOfLeaves, IsSymbolTerm, terms_of, leaves_of, computed_of, records_of, own_leaf, leaf_tells}
use Rattle.ae_system_checks.proofs.Rules.{none_fit, none_reduced, none_overlap, stays}

-- ---- what holds of a system by what holds of each name
module _ (y : System) where
  subterms_of : ((n : ℕ) (t : Term) → IsName y n t → AllByRecursion (IsNamed y) (args_of (out-Term t)))
      → (n : ℕ) (h : Head) (ss : List Sort) (us : List Term) → IsName y n (Apply h ss us) → AllByRecursion (IsNamed y) us
  subterms_of all n h ss us i = subst (AllByRecursion (IsNamed y)) (args_are h ss us) (all n (Apply h ss us) i)

  args_named : (h : Head) (ss : List Sort) (us : List Term) → AllByRecursion (IsNamed y) us
      → AllByRecursion (IsNamed y) (args_of (out-Term (Apply h ss us)))
  args_named h ss us = subst (AllByRecursion (IsNamed y)) (sym (args_are h ss us))

  -- no name has two arguments
  no_joins : ((n : ℕ) (t : Term) → IsName y n t → length (args_of (out-Term t)) < 2) → AllNamesJoin signature y
  no_joins all n h ss s t p q r i =
      let z : 2 < 2 = subst (λ us. length us < 2) (args_are h ss (s ∷ t ∷ [])) (all n (Apply h ss (s ∷ t ∷ [])) i) in absurd (omega (arith, z))

  few_args : (h : Head) (ss : List Sort) (us : List Term) → length us < 2 → length (args_of (out-Term (Apply h ss us))) < 2
  few_args h ss us = subst (λ ts. length ts < 2) (sym (args_are h ss us))

  -- a number told by the head, or by the term
  by_heads : (place : Head → ℕ) → ((n : ℕ) (t : Term) → IsName y n t → place (head_of (out-Term t)) ≡ n) → IsCongruent signature y
  by_heads place all m n h ss us ws vs s i j e p q =
      ap (value_at y)
      (sym (all m (Apply h ss us) i) ∙ ap place (head_is h ss us) ∙ sym (ap place (head_is h ss ws)) ∙ all n (Apply h ss ws) j)

  by_marks : (mark : Term → ℕ) → ((n : ℕ) (t : Term) → IsName y n t → mark t ≡ n) → (m n : ℕ) (t : Term) → IsName y m t → IsName y n t → m ≡ n
  by_marks mark all m n t i j = sym (all m t i) ∙ all n t j

  -- a name that is its own value
  make_leaf : (k : ℕ) (t : Term) → IsName y k t → sort_of signature t ≡ Some T → value_at y k ≡ Some (leaf k) → IsLeaf signature y T k
  make_leaf k t i e v = record { term = t; is = i; sort = e; value = v ∙ ap (λ (w : Val). Some w) (sym (own_leaf k)) }

  same_leaf : (n k m : ℕ) → value_at y n ≡ Some (leaf k) → value_at y n ≡ Some (leaf m) → k ≡ m
  same_leaf n k m v e = leaf_tells k m (same_Some (leaf k) (leaf m) (sym v ∙ e))

  at_leaf : (n k m : ℕ) → value_at y n ≡ Some (leaf k) → IsLeaf signature y T k → value_at y n ≡ Some (leaf m) → IsLeaf signature y T m
  at_leaf n k m v l e = subst (IsLeaf signature y T) (same_leaf n k m v e) l

none_some : {A : Type 0} (v : Val) → ◌≡◌ {A = Option Val} None (Some v) → A
none_some v e = never_some v e

-- ---- one term with two names
named_twice_leaves : IsOfLeaves signature named_twice
named_twice_leaves = record {
  lengths = refl;
  symbol =
      of_two a a (λ k t. IsSymbolTerm signature t) (record { number = 0; args = []; is = refl; sort = a_sort })
      (record { number = 0; args = []; is = refl; sort = a_sort });
  leaf = of_two (Leaf 0) (Leaf 0) (λ k v. (j : ℕ) × (v ≡ Leaf j)) (0, refl) (0, refl);
}

named_twice_others : (part : Part) → part ≢ terms → Clause signature named_twice part
named_twice_others terms n = absurd (n refl)
named_twice_others leaves n = leaves_of signature T_fields named_twice named_twice_leaves is_leaf
  where
    only : IsLeaf signature named_twice T 0
    only = make_leaf named_twice 0 a refl a_sort (ap (λ (v : Val). Some v) (leaf_at 0))

    is_leaf : (k m : ℕ) → value_at named_twice k ≡ Some (leaf m) → IsLeaf signature named_twice T m
    is_leaf zero m e = at_leaf named_twice 0 0 m (ap (λ (v : Val). Some v) (leaf_at 0)) only e
    is_leaf (suc zero) m e = at_leaf named_twice 1 0 m (ap (λ (v : Val). Some v) (leaf_at 0)) only e
    is_leaf (suc (suc k)) m e = none_some (leaf m) e
named_twice_others computing n = computed_of signature T_fields named_twice named_twice_leaves
named_twice_others records n = records_of signature T_fields named_twice named_twice_leaves
named_twice_others congruence n = λ j k h ss us ws vs s d e g p q. value j (Apply h ss us) d ∙ sym (value k (Apply h ss ws) e)
  where
    value : (k : ℕ) (t : Term) → IsName named_twice k t → value_at named_twice k ≡ Some (leaf 0)
    value = of_two a a (λ k t. value_at named_twice k ≡ Some (leaf 0)) (ap (λ (v : Val). Some v) (leaf_at 0)) (ap (λ (v : Val). Some v) (leaf_at 0))
named_twice_others rules n = none_fit signature named_twice no_entry
named_twice_others reduction n = none_reduced signature named_twice no_entry
named_twice_others overlaps n = none_overlap signature named_twice no_entry
named_twice_others joins n =
    no_joins named_twice
    (of_two a a (λ k t. length (args_of (out-Term t)) < 2) (few_args named_twice (head.Symbol 0) [] [] (omega arith))
    (few_args named_twice (head.Symbol 0) [] [] (omega arith)))

pub named_twice_fails : FailsAlone signature named_twice terms
named_twice_fails = (λ h. let z : 0 ≡ 1 = h.apart 0 1 a refl refl in omega (arith, z), named_twice_others)

-- ---- arguments of equal values, and applications of different values
incongruent_leaves : IsOfLeaves signature incongruent
incongruent_leaves = record {
  lengths = refl;
  symbol =
      of_four a b (f a) (f b) (λ k t. IsSymbolTerm signature t) (record { number = 0; args = []; is = refl; sort = a_sort })
      (record { number = 1; args = []; is = refl; sort = b_sort })
      (record { number = 2; args = a ∷ []; is = refl; sort = f_sort a a_sort })
      (record { number = 2; args = b ∷ []; is = refl; sort = f_sort b b_sort });
  leaf = of_four (Leaf 0) (Leaf 0) (Leaf 2) (Leaf 3) (λ k v. (j : ℕ) × (v ≡ Leaf j)) (0, refl) (0, refl) (2, refl) (3, refl);
}

number_of : Head → ℕ
number_of (head.Symbol n) = n
number_of _ = 0

first_of : List Term → ℕ
first_of [] = 0
first_of (t ∷ ts) = number_of (head_of (out-Term t))

-- the symbol's number, and with an argument that of the argument too
mark : Term → ℕ
mark t = number_of (head_of (out-Term t)) + first_of (args_of (out-Term t))

mark_is : (n : ℕ) (us : List Term) → mark (Apply (head.Symbol n) [] us) ≡ n + first_of us
unfolding mark number_of
mark_is n us = λ i. number_of (head_is (head.Symbol n) [] us i) + first_of (args_are (head.Symbol n) [] us i)

first_is : (n : ℕ) (us ts : List Term) → first_of (Apply (head.Symbol n) [] us ∷ ts) ≡ n
unfolding first_of number_of
first_is n us ts = ap number_of (head_is (head.Symbol n) [] us)

incongruent_others : (part : Part) → part ≢ congruence → Clause signature incongruent part
unfolding first_of
incongruent_others terms n =
    terms_of signature T_fields incongruent incongruent_leaves (by_marks incongruent mark marks)
    (subterms_of incongruent
    (of_four a b (f a) (f b) (λ k t. AllByRecursion (IsNamed incongruent) (args_of (out-Term t))) (args_named incongruent (head.Symbol 0) [] [] tt)
    (args_named incongruent (head.Symbol 1) [] [] tt) (args_named incongruent (head.Symbol 2) [] (a ∷ []) ((0, refl), tt))
    (args_named incongruent (head.Symbol 2) [] (b ∷ []) ((1, refl), tt))))
  where
    marks : (k : ℕ) (t : Term) → IsName incongruent k t → mark t ≡ k
    marks =
        of_four a b (f a) (f b) (λ k t. mark t ≡ k) (mark_is 0 []) (mark_is 1 []) (mark_is 2 (a ∷ []) ∙ ap (λ k. 2 + k) (first_is 0 [] []))
        (mark_is 2 (b ∷ []) ∙ ap (λ k. 2 + k) (first_is 1 [] []))
incongruent_others leaves n = leaves_of signature T_fields incongruent incongruent_leaves is_leaf
  where
    is_leaf : (k m : ℕ) → value_at incongruent k ≡ Some (leaf m) → IsLeaf signature incongruent T m
    is_leaf zero m e =
        at_leaf incongruent 0 0 m (ap (λ (v : Val). Some v) (leaf_at 0))
        (make_leaf incongruent 0 a refl a_sort (ap (λ (v : Val). Some v) (leaf_at 0))) e
    is_leaf (suc zero) m e =
        at_leaf incongruent 1 0 m (ap (λ (v : Val). Some v) (leaf_at 0))
        (make_leaf incongruent 0 a refl a_sort (ap (λ (v : Val). Some v) (leaf_at 0))) e
    is_leaf (suc (suc zero)) m e =
        at_leaf incongruent 2 2 m (ap (λ (v : Val). Some v) (leaf_at 2))
        (make_leaf incongruent 2 (f a) refl (f_sort a a_sort) (ap (λ (v : Val). Some v) (leaf_at 2))) e
    is_leaf (suc (suc (suc zero))) m e =
        at_leaf incongruent 3 3 m (ap (λ (v : Val). Some v) (leaf_at 3))
        (make_leaf incongruent 3 (f b) refl (f_sort b b_sort) (ap (λ (v : Val). Some v) (leaf_at 3))) e
    is_leaf (suc (suc (suc (suc k)))) m e = none_some (leaf m) e
incongruent_others computing n = computed_of signature T_fields incongruent incongruent_leaves
incongruent_others records n = records_of signature T_fields incongruent incongruent_leaves
incongruent_others congruence n = absurd (n refl)
incongruent_others rules n = none_fit signature incongruent no_entry
incongruent_others reduction n = none_reduced signature incongruent no_entry
incongruent_others overlaps n = none_overlap signature incongruent no_entry
incongruent_others joins n =
    no_joins incongruent
    (of_four a b (f a) (f b) (λ k t. length (args_of (out-Term t)) < 2) (few_args incongruent (head.Symbol 0) [] [] (omega arith))
    (few_args incongruent (head.Symbol 1) [] [] (omega arith)) (few_args incongruent (head.Symbol 2) [] (a ∷ []) (omega arith))
    (few_args incongruent (head.Symbol 2) [] (b ∷ []) (omega arith)))

pub incongruent_fails : FailsAlone signature incongruent congruence
incongruent_fails = (
  λ h. no_equal
      (h 2 3 (head.Symbol 2) [] (a ∷ []) (b ∷ []) (leaf 0 ∷ []) T refl refl (f_sort a a_sort)
      ((0, refl, ap (λ (v : Val). Some v) (leaf_at 0)), tt) ((1, refl, ap (λ (v : Val). Some v) (leaf_at 0)), tt)),
  incongruent_others,
)
  where
    no_equal : value_at incongruent 2 ≡ value_at incongruent 3 → ⊥
    no_equal e =
        let z = same_leaf incongruent 2 2 3 (ap (λ (v : Val). Some v) (leaf_at 2)) (e ∙ ap (λ (v : Val). Some v) (leaf_at 3)) in
        omega (arith, z)

-- ---- a name of an AC symbol without a rule
without_rule_leaves : IsOfLeaves signature without_rule
without_rule_leaves = record {
  lengths = refl;
  symbol =
      of_three a b (u a b) (λ k t. IsSymbolTerm signature t) (record { number = 0; args = []; is = refl; sort = a_sort })
      (record { number = 1; args = []; is = refl; sort = b_sort })
      (record { number = 3; args = a ∷ b ∷ []; is = refl; sort = u_sort a b a_sort b_sort });
  leaf = of_three (Leaf 0) (Leaf 1) (Leaf 2) (λ k v. (j : ℕ) × (v ≡ Leaf j)) (0, refl) (1, refl) (2, refl);
}

-- the place of each head
place : Head → ℕ
place (head.Symbol zero) = 0
place (head.Symbol (suc zero)) = 1
place (head.Build n) = 1
place _ = 2

without_rule_places : (k : ℕ) (t : Term) → IsName without_rule k t → place (head_of (out-Term t)) ≡ k
unfolding place
without_rule_places =
    of_three a b (u a b) (λ k t. place (head_of (out-Term t)) ≡ k) (ap place (head_is (head.Symbol 0) [] [])) (ap place (head_is (head.Symbol 1) [] []))
    (ap place (head_is (head.Symbol 3) [] (a ∷ b ∷ [])))

own_value : (k : ℕ) → k < 3 → value_at without_rule k ≡ Some (leaf k)
own_value zero h = ap (λ (v : Val). Some v) (leaf_at 0)
own_value (suc zero) h = ap (λ (v : Val). Some v) (leaf_at 1)
own_value (suc (suc zero)) h = ap (λ (v : Val). Some v) (leaf_at 2)
own_value (suc (suc (suc k))) h = absurd (omega (arith, h))

is_own : (k m : ℕ) → value_at without_rule k ≡ Some (leaf m) → k ≡ m
is_own zero m e = same_leaf without_rule 0 0 m (own_value 0 (omega arith)) e
is_own (suc zero) m e = same_leaf without_rule 1 1 m (own_value 1 (omega arith)) e
is_own (suc (suc zero)) m e = same_leaf without_rule 2 2 m (own_value 2 (omega arith)) e
is_own (suc (suc (suc k))) m e = none_some (leaf m) e

stands : (k : ℕ) (t : Term) → k < 3 → IsName without_rule k t → sort_of signature t ≡ Some T → StandsFor signature without_rule t k
stands k t h i e = record {
  sort = T;
  value = leaf k;
  sorted = e;
  valued = (k, i, own_value k h);
  represents = record {
    has = record { term = t; is = i; sort = e; value = own_value k h };
    least = λ m w. let z = is_own m k w.value in omega (arith, z);
  };
}

without_rule_others : (part : Part) → part ≢ joins → Clause signature without_rule part
without_rule_others terms n =
    terms_of signature T_fields without_rule without_rule_leaves (by_marks without_rule (λ t. place (head_of (out-Term t))) without_rule_places)
    (subterms_of without_rule
    (of_three a b (u a b) (λ k t. AllByRecursion (IsNamed without_rule) (args_of (out-Term t))) (args_named without_rule (head.Symbol 0) [] [] tt)
    (args_named without_rule (head.Symbol 1) [] [] tt)
    (args_named without_rule (head.Symbol 3) [] (a ∷ b ∷ []) ((0, refl), ((1, refl), tt)))))
without_rule_others leaves n = leaves_of signature T_fields without_rule without_rule_leaves is_leaf
  where
    its_leaf : (k : ℕ) (t : Term) → IsName without_rule k t → k < 3 → IsLeaf signature without_rule T k
    its_leaf k t i h = make_leaf without_rule k t i (without_rule_leaves.symbol k t i).sort (own_value k h)

    is_leaf : (k m : ℕ) → value_at without_rule k ≡ Some (leaf m) → IsLeaf signature without_rule T m
    is_leaf zero m e = subst (IsLeaf signature without_rule T) (is_own 0 m e) (its_leaf 0 a refl (omega arith))
    is_leaf (suc zero) m e = subst (IsLeaf signature without_rule T) (is_own 1 m e) (its_leaf 1 b refl (omega arith))
    is_leaf (suc (suc zero)) m e = subst (IsLeaf signature without_rule T) (is_own 2 m e) (its_leaf 2 (u a b) refl (omega arith))
    is_leaf (suc (suc (suc k))) m e = none_some (leaf m) e
without_rule_others computing n = computed_of signature T_fields without_rule without_rule_leaves
without_rule_others records n = records_of signature T_fields without_rule without_rule_leaves
without_rule_others congruence n = by_heads without_rule place without_rule_places
without_rule_others rules n = none_fit signature without_rule no_entry
without_rule_others reduction n = none_reduced signature without_rule no_entry
without_rule_others overlaps n = none_overlap signature without_rule no_entry
without_rule_others joins n = absurd (n refl)

pub without_rule_fails : FailsAlone signature without_rule joins
without_rule_fails = (
  λ h. no_way
      (h 2 (head.Symbol 3) [] a b 0 1 2 refl (u_entry, refl, refl) (stands 0 a (omega arith) refl a_sort) (stands 1 b (omega arith) refl b_sort)
      (stands 2 (u a b) (omega arith) refl (u_sort a b a_sort b_sort))),
  without_rule_others,
)
  where
    no_way : ReducesTo (IsRule without_rule (head.Symbol 3) []) (0 ∷ 1 ∷ []) (2 ∷ []) → ⊥
    no_way g =
        let s = stays (IsRule without_rule (head.Symbol 3) []) (0 ∷ 1 ∷ []) (2 ∷ []) (λ l r x p. no_entry x.0 _ x.1) g in
        let z : 1 ≡ 0 = s.each 0 in
        omega (arith, z)

-- ---- a numeral that is its own value
applies : Term-F Term → ℕ
applies (layer.Apply h ss us) = 1
applies _ = 0

applies-Apply : (h : Head) (ss : List Sort) (us : List Term) → applies (out-Term (Apply h ss us)) ≡ 1
unfolding applies
applies-Apply h ss us = ap applies (outs-Apply h ss us)

applies-Num : (p q : ℤ) (real : Bool) → applies (out-Term (Num p q real)) ≡ 0
unfolding applies
applies-Num p q real = ap applies (outs-Num p q real)

not_applied : (n : ℕ) (h : Head) (ss : List Sort) (us : List Term) → IsName opaque_numeral n (Apply h ss us) → ⊥
not_applied n h ss us i =
    let z = sym (of_one one (λ k t. applies (out-Term t) ≡ 0) (applies-Num (pos 1) (pos 1) true) n (Apply h ss us) i) ∙ applies-Apply h ss us in
    omega (arith, z)

numeral_value : value_at opaque_numeral 0 ≡ Some (once 0)
numeral_value = ap (λ (v : Val). Some v) (number_at 0)

opaque_others : (part : Part) → part ≢ computing → Clause signature opaque_numeral part
opaque_others terms n = record {
  values = refl;
  sorted = λ n t i. inl (Real, sort n t i);
  apart = λ j k t d e. sym (zeros j t d) ∙ zeros k t e;
  subterms = λ n h ss us i. absurd (not_applied n h ss us i);
  field_names = λ n t s ss i e g. absurd (no_record signature t Real s ss real_fields (sort n t i) e g);
}
  where
    sort : (n : ℕ) (t : Term) → IsName opaque_numeral n t → sort_of signature t ≡ Some Real
    sort = of_one one (λ k t. sort_of signature t ≡ Some Real) one_sort

    zeros : (n : ℕ) (t : Term) → IsName opaque_numeral n t → 0 ≡ n
    zeros = of_one one (λ k t. 0 ≡ k) refl
opaque_others leaves n = record {
  normal = of_one (Number (itself 0)) (λ k v. IsNormalValue v) (normal_number 0);
  over = over;
  predicate_value = λ n t i p. absurd (sorted_is_no_predicate signature t Real (of_one one (λ k t. sort_of signature t ≡ Some Real) one_sort n t i) p);
}
  where
    its_leaf : IsLeaf signature opaque_numeral Real 0
    its_leaf = record { term = one; is = refl; sort = one_sort; value = numeral_value ∙ ap (λ (v : Val). Some v) (sym (own_real 0)) }

    over : (s : Sort) (v : Val) (n : ℕ) → Has signature opaque_numeral s v n → IsOver signature opaque_numeral s v
    over s v n h =
        of_one one (λ k t. sort_of signature t ≡ Some s → value_at opaque_numeral k ≡ Some v → IsOver signature opaque_numeral s v)
        (λ e g. subst (IsOver signature opaque_numeral s) (same_Some (once 0) v (sym numeral_value ∙ g))
        (subst (λ q. IsOver signature opaque_numeral q (once 0)) (same_Some Real s (sym one_sort ∙ e)) (inr refl, (its_leaf, tt))))
        n h.term h.is h.sort h.value
opaque_others computing n = absurd (n refl)
opaque_others records n = record {
  record_value = λ n t s ss i e g. absurd (no_record signature t Real s ss real_fields (of_one one (λ k t. sort_of signature t ≡ Some Real) one_sort n t i) e g);
  written = λ n k place ss us w v i e g. absurd (not_applied n (head.Field k place) ss (Apply (head.Build k) ss us ∷ []) i);
}
opaque_others congruence n = λ j k h ss us ws vs s d e g p q. absurd (not_applied j h ss us d)
opaque_others rules n = none_fit signature opaque_numeral no_entry
opaque_others reduction n = none_reduced signature opaque_numeral no_entry
opaque_others overlaps n = none_overlap signature opaque_numeral no_entry
opaque_others joins n = λ k h ss s t p q r i. absurd (not_applied k h ss (s ∷ t ∷ []) i)

pub opaque_numeral_fails : FailsAlone signature opaque_numeral computing
opaque_numeral_fails = (
  λ h. no_constant (same_Some (once 0) (constant_val (ratio (pos 1) (pos 1))) (sym numeral_value ∙ h.numeral 0 (pos 1) (pos 1) true refl)),
  opaque_others,
)
  where
    parts_in : Val → ℕ
    parts_in (number g) = length g.parts
    parts_in _ = 0

    no_constant : once 0 ≡ constant_val (ratio (pos 1) (pos 1)) → ⊥
    no_constant e = let z : 1 ≡ 0 = ap parts_in e in omega (arith, z)

-- ---- a field of a written record with a value of its own
first_value : value_at other_field 0 ≡ Some (leaf 0)
first_value = ap (λ (v : Val). Some v) (leaf_at 0)

record_at : meaning (FieldValues (Leaf 2 ∷ [])) ≡ fields (vals (leaf 2 ∷ []))
unfolding meaning
record_at =
    ap meaning (sym (rolls-Fields (Leaf 2 ∷ []))) ∙ fold-roll-Value Val meaning_step (value_layer.Fields (Leaf 2 ∷ []))
    ∙ ap (λ v. fields (vals (v ∷ []))) (leaf_at 2)

built_value : value_at other_field 1 ≡ Some (fields (vals (leaf 2 ∷ [])))
built_value = ap (λ (v : Val). Some v) record_at

last_value : value_at other_field 2 ≡ Some (leaf 2)
last_value = ap (λ (v : Val). Some v) (leaf_at 2)

built_fields : field_terms R built 1 ≡ field ∷ []
built_fields = ap (λ q. field_terms_of q built 1) (outs-Named 1 [])

each_field : (P : ℕ → Term → Type 0) → P 0 a → P 1 built → P 2 field → (k : ℕ) (t : Term) → IsName other_field k t → P k t
each_field = of_three a built field

-- what holds of the record, in the form in which a record's clauses ask for it
of_built : (P : Sort → List Sort → Type 0) (s : Sort) (ss : List Sort) → sort_of signature built ≡ Some s → record_fields signature s ≡ Some ss
    → P R (T ∷ []) → P s ss
of_built P s ss e g x =
    let d : R ≡ s = same_Some R s (sym built_sort ∙ e) in
    let c : T ∷ [] ≡ ss = same_Some (T ∷ []) ss (sym R_fields ∙ ap (record_fields signature) d ∙ g) in
    subst (λ (q : Sort × List Sort). P q.0 q.1) (λ i. (d i, c i)) x

other_places : (k : ℕ) (t : Term) → IsName other_field k t → place (head_of (out-Term t)) ≡ k
unfolding place
other_places =
    each_field (λ k t. place (head_of (out-Term t)) ≡ k) (ap place (head_is (head.Symbol 0) [] [])) (ap place (head_is (head.Build 1) [] (a ∷ [])))
    (ap place (head_is (head.Field 1 0) [] (built ∷ [])))

other_sorts : (k : ℕ) (t : Term) → IsName other_field k t → (s : Sort) × (sort_of signature t ≡ Some s)
other_sorts = each_field (λ k t. (s : Sort) × (sort_of signature t ≡ Some s)) (T, a_sort) (R, built_sort) (T, field_sort)

other_others : (part : Part) → part ≢ records → Clause signature other_field part
other_others terms n = record {
  values = refl;
  sorted = λ n t i. inl (other_sorts n t i);
  apart = by_marks other_field (λ t. place (head_of (out-Term t))) other_places;
  subterms =
      subterms_of other_field
      (each_field (λ k t. AllByRecursion (IsNamed other_field) (args_of (out-Term t))) (args_named other_field (head.Symbol 0) [] [] tt)
      (args_named other_field (head.Build 1) [] (a ∷ []) ((0, refl), tt)) (args_named other_field (head.Field 1 0) [] (built ∷ []) ((1, refl), tt)));
  field_names =
      λ n t s ss i. each_field
      (λ k t. sort_of signature t ≡ Some s → record_fields signature s ≡ Some ss → AllByRecursion (IsNamed other_field) (field_terms s t (length ss)))
      (λ e g. absurd (no_record signature a T s ss T_fields a_sort e g))
      (λ e g. of_built (λ q qs. AllByRecursion (IsNamed other_field) (field_terms q built (length qs))) s ss e g
      (subst (AllByRecursion (IsNamed other_field)) (sym built_fields) ((2, refl), tt)))
      (λ e g. absurd (no_record signature field T s ss T_fields field_sort e g)) n t i;
}
other_others leaves n = record {
  normal =
      of_three (Leaf 0) (FieldValues (Leaf 2 ∷ [])) (Leaf 2) (λ k v. IsNormalValue v) (normal_leaf 0)
      (subst (AllByRecursion IsNormal) (sym (forms-Fields (Leaf 2) ∙ ap (λ fs. fs ++ []) (leaf_forms 2))) tt) (normal_leaf 2);
  over = over;
  predicate_value = λ n t i p. let s = other_sorts n t i in absurd (sorted_is_no_predicate signature t s.0 s.1 p);
}
  where
    over_leaf : (k : ℕ) → IsLeaf signature other_field T k → IsOver signature other_field T (leaf k)
    over_leaf k l = (not_numeric, T_fields, l)

    over_first : IsOver signature other_field T (leaf 0)
    over_first = over_leaf 0 (make_leaf other_field 0 a refl a_sort first_value)

    over_last : IsOver signature other_field T (leaf 2)
    over_last = over_leaf 2 (make_leaf other_field 2 field refl field_sort last_value)

    over_at : (c d : Sort) (v w : Val) → Some c ≡ Some d → Some v ≡ Some w → IsOver signature other_field c v → IsOver signature other_field d w
    over_at c d v w e g o =
        subst (IsOver signature other_field d) (same_Some v w g) (subst (λ q. IsOver signature other_field q v) (same_Some c d e) o)

    over : (s : Sort) (v : Val) (n : ℕ) → Has signature other_field s v n → IsOver signature other_field s v
    over s v n h =
        each_field (λ k t. sort_of signature t ≡ Some s → value_at other_field k ≡ Some v → IsOver signature other_field s v)
        (λ e g. over_at T s (leaf 0) v (sym a_sort ∙ e) (sym first_value ∙ g) over_first)
        (λ e g. over_at R s (fields (vals (leaf 2 ∷ []))) v (sym built_sort ∙ e) (sym built_value ∙ g) (T ∷ [], R_fields, (over_last, tt)))
        (λ e g. over_at T s (leaf 2) v (sym field_sort ∙ e) (sym last_value ∙ g) over_last) n h.term h.is h.sort h.value
other_others computing n = record {
  numeral = λ n p q real i. absurd (not_numeral n p q real i);
  computed = λ n h ss us vs v i g e. absurd (never_some v (sym (opaque n (Apply h ss us) i (beside us vs)) ∙ ap (λ k. linear k (beside us vs)) (head_is h ss us) ∙ e));
}
  where
    applied : (k : ℕ) (t : Term) → IsName other_field k t → applies (out-Term t) ≡ 1
    applied =
        each_field (λ k t. applies (out-Term t) ≡ 1) (applies-Apply (head.Symbol 0) [] []) (applies-Apply (head.Build 1) [] (a ∷ []))
        (applies-Apply (head.Field 1 0) [] (built ∷ []))

    not_numeral : (n : ℕ) (p q : ℤ) (real : Bool) → IsName other_field n (Num p q real) → ⊥
    not_numeral n p q real i = let z = sym (applied n (Num p q real) i) ∙ applies-Num p q real in omega (arith, z)

    opaque : (k : ℕ) (t : Term) → IsName other_field k t → (xs : List (Term × Val)) → linear (head_of (out-Term t)) xs ≡ None
    opaque =
        each_field (λ k t. (xs : List (Term × Val)) → linear (head_of (out-Term t)) xs ≡ None)
        (λ xs. ap (λ h. linear h xs) (head_is (head.Symbol 0) [] [])) (λ xs. ap (λ h. linear h xs) (head_is (head.Build 1) [] (a ∷ [])))
        (λ xs. ap (λ h. linear h xs) (head_is (head.Field 1 0) [] (built ∷ [])))
other_others records n = absurd (n refl)
other_others congruence n = by_heads other_field place other_places
other_others rules n = none_fit signature other_field no_entry
other_others reduction n = none_reduced signature other_field no_entry
other_others overlaps n = none_overlap signature other_field no_entry
other_others joins n =
    no_joins other_field
    (each_field (λ k t. length (args_of (out-Term t)) < 2) (few_args other_field (head.Symbol 0) [] [] (omega arith))
    (few_args other_field (head.Build 1) [] (a ∷ []) (omega arith)) (few_args other_field (head.Field 1 0) [] (built ∷ []) (omega arith)))

pub other_field_fails : FailsAlone signature other_field records
other_field_fails = (
  λ h. let z = same_leaf other_field 2 2 0 last_value (h.written 2 1 0 [] (a ∷ []) a (leaf 0) refl refl (0, refl, first_value)) in omega (arith, z),
  other_others,
)

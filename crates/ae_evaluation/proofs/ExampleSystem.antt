-- The system of the example is completed.
use Rattle.std.specs.Prelude.{ℕ, zero, suc, ℤ, pos, ◌≤◌, Bool, true, false, cond, ◌&&◌, List, [], ◌∷◌, ◌++◌, ◌≡◌, ◌≢◌, ◌⊎◌, length, slice_get, Option, Some, None}
use Rattle.std.specs.List.{AllByRecursion}
use Rattle.std.proofs.Common.{inl, inr}
use Rattle.std.proofs.lemmas.Nat.Gcd.{dvd_refl, dvd-zero}
use mathlib.Core.Path.{refl, sym, ap, ◌∙◌, subst}
use native.Mathlib.Omega.{arith}
use borrow.Author.Differences.{ints}
use Rattle.ae_math.proofs.FractionLaws.{add_zero_q}
use Rattle.ae_math.specs.Fractions.{ℚ, ◌+ℚ◌, one_ℚ, zero_ℚ, frac, ℚ_discrete}
use Rattle.ae_math.specs.Forms.{is_zero, single}
use Rattle.ae_base.proofs.Decided.{pick_no, pick_yes}
use Rattle.ae_core.specs.Decided.{Term_discrete}
use Rattle.ae_rules.specs.Linear.{form, is_number}
use Rattle.ae_core.specs.Sorts.{sort_of, formula_ok, same_sorts, head_sort}
use Rattle.ae_core.specs.Putting.{put_sort}
use Rattle.ae_base.specs.Options.{all_known, only, when, ◌>>=◌}
use Rattle.ae_rules.proofs.LinearLaws.{form-Apply}
use Rattle.ae_core.proofs.PuttingLaws.{put_real, put_named}
use Rattle.ae_core.specs.declared.terms.Sort.{Sort, Real, Named, out-Sort}
use Rattle.ae_core.specs.declared.terms.Sort.TheVariants.{outs-Named, outs-Real}
use Rattle.ae_core.specs.declared.terms.Term.{Term, Term-F, Num, Apply, out-Term}
use Rattle.ae_core.specs.declared.terms.Term.TheOpen as layer
use Rattle.ae_core.specs.declared.terms.Term.TheVariants.{outs-Apply, outs-Num}
use Rattle.ae_core.specs.declared.terms.Head.{Head}
use Rattle.ae_core.specs.declared.terms.Head.TheVariants as head
use Rattle.ae_core.specs.declared.terms.Op.TheVariants as op
use Rattle.ae_core.specs.declared.formulas.Formula.{Pred}
use Rattle.ae_multiset.specs.Multisets.{IsPart, IsSame, count}
use Rattle.ae_multiset.specs.Rewriting.{ReducesTo, OverlapsJoin}
use Rattle.ae_multiset.specs.Rewriting.ReducesTo.{done, more as one_step}
use Rattle.ae_num.specs.Forms.{IsNormal}
use Rattle.ae_num.specs.declared.forms.Lin.{Lin}
use Rattle.ae_num.specs.declared.forms.Value.{Value, Leaf, Number, Fields as FieldValues, fold-roll-Value}
use Rattle.ae_num.specs.declared.forms.Value.TheOpen as value_layer
use Rattle.ae_num.specs.declared.forms.Value.TheVariants.{rolls-Leaf, rolls-Number, rolls-Fields}
use Rattle.ae_journal.specs.Values.{Val, scale_val, number, leaf, fields, once, vals, meaning, meaning_step, sum_of_lin}
use Rattle.ae_journal.specs.Systems.{IsCompleted, IsName, IsNamed, ValuesOf, value_at, Has, Represents, StandsFor, IsLeaf, IsOver, own, linear, beside, product}
use Rattle.ae_journal.specs.Systems.{IsRule, IsRuleFit, IsPredicateName, IsNormalValue, forms_in, forms_step, record_fields, fields_of, field_terms}
use Rattle.ae_journal.specs.Systems.{field_terms_of}
use Rattle.ae_journal.specs.declared.systems.RuleEntry.{RuleEntry}
use Rattle.ae_evaluation.specs.Examples.{signature, u_entry, x, r, joined_x, square, field, itself, system, red, hue}
use Rattle.ae_journal.specs.Evaluation.{result_sort}
use Rattle.ae_core.specs.declared.problems.AcSymbol.{AcSymbol}
use Rattle.ae_rules.specs.Instances.{choices_of}
use Rattle.ae_evaluation.proofs.Constructors.{choice_not_numeric}
use Rattle.ae_evaluation.proofs.Exact.{forms-Number}
use Rattle.ae_evaluation.proofs.Decisions.{yes_sorts}
use Rattle.ae_evaluation.proofs.Names.{two_parts}
use Rattle.ae_evaluation.proofs.Plainness.{sort-Apply}
use Rattle.ae_evaluation.proofs.Shape.{one_not_zero}
use Rattle.ae_evaluation.proofs.SortFacts.{no_result, of_numeric}
use Rattle.ae_base.proofs.Options.{never_some}
use Rattle.std.proofs.lemmas.Option.{same_Some}

abbrev pub R : Sort
R = Named 0 []

pub no_entry : {A : Type 0} (n : ℕ) (z : A) → ◌≡◌ {A = Option A} (slice_get [] n) (Some z) → ⊥
no_entry n z e = cc

-- ---- each name
pub each_name : (P : ℕ → Term → Type 0) → P 0 x → P 1 joined_x → P 2 square → P 3 r → P 4 field → P 5 red → P 6 hue
    → (n : ℕ) (t : Term) → IsName system n t → P n t
each_name P a b c d e f g zero t i = subst (P 0) (same_Some x t i) a
each_name P a b c d e f g (suc zero) t i = subst (P 1) (same_Some joined_x t i) b
each_name P a b c d e f g (suc (suc zero)) t i = subst (P 2) (same_Some square t i) c
each_name P a b c d e f g (suc (suc (suc zero))) t i = subst (P 3) (same_Some r t i) d
each_name P a b c d e f g (suc (suc (suc (suc zero)))) t i = subst (P 4) (same_Some field t i) e
each_name P a b c d e f g (suc (suc (suc (suc (suc zero))))) t i = subst (P 5) (same_Some red t i) f
each_name P a b c d e f g (suc (suc (suc (suc (suc (suc zero)))))) t i = subst (P 6) (same_Some hue t i) g
each_name P a b c d e f g (suc (suc (suc (suc (suc (suc (suc n))))))) t i = absurd (no_entry n t i)

abbrev Applied : (Head → List Sort → List Term → ℕ → Type 0) → Term-F Term → ℕ → Type 0
Applied P (layer.Apply h ss us) n = P h ss us n
Applied P (layer.Bound k) n = Unit {0}
Applied P (layer.Num a b c) n = Unit {0}
Applied P (layer.Fresh k s) n = Unit {0}

pub each_applied : (P : Head → List Sort → List Term → ℕ → Type 0) → P (head.Symbol 0) [] [] 0 → P (head.Symbol 2) [] (x ∷ x ∷ []) 1
    → P (head.Real op.Mul) [] (x ∷ x ∷ []) 2 → P (head.Symbol 1) [] [] 3 → P (head.Field 0 0) [] (r ∷ []) 4
    → P (head.Symbol 3) [] [] 5 → P (head.Symbol 5) [] [] 6 → (n : ℕ) (h : Head) (ss : List Sort) (us : List Term)
    → IsName system n (Apply h ss us) → P h ss us n
each_applied P a b c d e f g n h ss us i =
    subst (λ f. Applied P f n) (outs-Apply h ss us)
    (each_name (λ k t. Applied P (out-Term t) k) (back (head.Symbol 0) [] [] 0 a) (back (head.Symbol 2) [] (x ∷ x ∷ []) 1 b)
    (back (head.Real op.Mul) [] (x ∷ x ∷ []) 2 c) (back (head.Symbol 1) [] [] 3 d) (back (head.Field 0 0) [] (r ∷ []) 4 e)
    (back (head.Symbol 3) [] [] 5 f) (back (head.Symbol 5) [] [] 6 g) n (Apply h ss us) i)
  where
    back : (h : Head) (ss : List Sort) (us : List Term) (k : ℕ) → P h ss us k → Applied P (out-Term (Apply h ss us)) k
    back h ss us k p = subst (λ f. Applied P f k) (sym (outs-Apply h ss us)) p

-- ---- each head tells its name
rank : Head → ℕ
rank (head.Symbol zero) = 0
rank (head.Symbol (suc zero)) = 3
rank (head.Symbol (suc (suc zero))) = 1
rank (head.Symbol (suc (suc (suc zero)))) = 5
rank (head.Symbol (suc (suc (suc (suc n))))) = 6
rank (head.Real o) = 2
rank (head.Field n i) = 4
rank _ = 7

rank_of : Term-F Term → ℕ
rank_of (layer.Apply h ss us) = rank h
rank_of _ = 7

rank_at : (n : ℕ) (t : Term) → IsName system n t → rank_of (out-Term t) ≡ n
unfolding rank rank_of
rank_at =
    each_name (λ n t. rank_of (out-Term t) ≡ n) (ap rank_of (outs-Apply (head.Symbol 0) [] []))
    (ap rank_of (outs-Apply (head.Symbol 2) [] (x ∷ x ∷ [])))
    (ap rank_of (outs-Apply (head.Real op.Mul) [] (x ∷ x ∷ []))) (ap rank_of (outs-Apply (head.Symbol 1) [] []))
    (ap rank_of (outs-Apply (head.Field 0 0) [] (r ∷ []))) (ap rank_of (outs-Apply (head.Symbol 3) [] []))
    (ap rank_of (outs-Apply (head.Symbol 5) [] []))

pub one_place : (m n : ℕ) (t : Term) → IsName system m t → IsName system n t → m ≡ n
one_place m n t i j = sym (rank_at m t i) ∙ rank_at n t j

same_place : (m n : ℕ) (h : Head) (ss : List Sort) (us ws : List Term) → IsName system m (Apply h ss us) → IsName system n (Apply h ss ws)
    → m ≡ n
unfolding rank_of
same_place m n h ss us ws i j =
    sym (rank_at m (Apply h ss us) i) ∙ ap rank_of (outs-Apply h ss us) ∙ sym (ap rank_of (outs-Apply h ss ws)) ∙ rank_at n
    (Apply h ss ws) j

-- ---- values
one_counts : is_zero one_ℚ ≡ false
one_counts = pick_no (ℚ_discrete one_ℚ zero_ℚ) true false one_not_zero

once_sum : (k : ℕ) → sum_of_lin (itself k) ≡ record { parts = (k, one_ℚ) ∷ []; constant = zero_ℚ }
unfolding one_ℚ zero_ℚ
once_sum k = ap (λ b. record { parts = cond b [] ((k, frac (pos 1) 0) ∷ []); constant = frac (pos 0) 0 }) one_counts

pub number_at : (k : ℕ) → meaning (Number (itself k)) ≡ once k
unfolding meaning
number_at k =
    ap meaning (sym (rolls-Number (itself k))) ∙ fold-roll-Value Val meaning_step (value_layer.Number (itself k)) ∙ ap number (once_sum k)

record_at : meaning (FieldValues (Number (itself 4) ∷ [])) ≡ fields (vals (once 4 ∷ []))
unfolding meaning
record_at =
    ap meaning (sym (rolls-Fields (Number (itself 4) ∷ []))) ∙ fold-roll-Value Val meaning_step
    (value_layer.Fields (Number (itself 4) ∷ []))
    ∙ ap (λ v. fields (vals (v ∷ []))) (number_at 4)

pub x_value : value_at system 0 ≡ Some (once 0)
x_value = ap (λ v. Some v) (number_at 0)

pub joined_value : value_at system 1 ≡ Some (once 0)
joined_value = ap (λ v. Some v) (number_at 0)

pub square_value : value_at system 2 ≡ Some (once 2)
square_value = ap (λ v. Some v) (number_at 2)

pub r_value : value_at system 3 ≡ Some (fields (vals (once 4 ∷ [])))
r_value = ap (λ v. Some v) record_at

pub field_value : value_at system 4 ≡ Some (once 4)
field_value = ap (λ v. Some v) (number_at 4)

pub leaf_at : (k : ℕ) → meaning (Leaf k) ≡ leaf k
unfolding meaning
leaf_at k = ap meaning (sym (rolls-Leaf k)) ∙ fold-roll-Value Val meaning_step (value_layer.Leaf k)

pub red_value : value_at system 5 ≡ Some (leaf 5)
red_value = ap (λ v. Some v) (leaf_at 5)

pub hue_value : value_at system 6 ≡ Some (leaf 5)
hue_value = ap (λ v. Some v) (leaf_at 5)

-- ---- sorts
abbrev pub C : Sort
C = Named 1 []

pub C_choices : choices_of signature (out-Sort C) ≡ Some (head.Symbol 3 ∷ head.Symbol 4 ∷ [])
C_choices = ap (choices_of signature) (outs-Named 1 [])

pub C_fields : record_fields signature C ≡ None
C_fields = ap (fields_of signature) (outs-Named 1 [])

pub red_sort : sort_of signature red ≡ Some C
red_sort =
    sort-Apply signature (head.Symbol 3) [] [] ∙ ap (λ b. only b (Some C) >>= λ s. Some (put_sort [] s)) (yes_sorts [])
    ∙ ap (λ (s : Sort). Some s) (put_named [] 1 [])

pub hue_sort : sort_of signature hue ≡ Some C
hue_sort =
    sort-Apply signature (head.Symbol 5) [] [] ∙ ap (λ b. only b (Some C) >>= λ s. Some (put_sort [] s)) (yes_sorts [])
    ∙ ap (λ (s : Sort). Some s) (put_named [] 1 [])

pub R_fields : record_fields signature R ≡ Some (Real ∷ [])
R_fields = ap (fields_of signature) (outs-Named 0 []) ∙ ap (λ (s : Sort). Some (s ∷ [])) (put_real [])

pub real_fields : record_fields signature Real ≡ None
real_fields = ap (fields_of signature) outs-Real

pub x_sort : sort_of signature x ≡ Some Real
x_sort =
    sort-Apply signature (head.Symbol 0) [] [] ∙ ap (λ b. only b (Some Real) >>= λ s. Some (put_sort [] s)) (yes_sorts [])
    ∙ ap (λ (s : Sort). Some s) (put_real [])

pub r_sort : sort_of signature r ≡ Some R
r_sort =
    sort-Apply signature (head.Symbol 1) [] [] ∙ ap (λ b. only b (Some R) >>= λ s. Some (put_sort [] s)) (yes_sorts [])
    ∙ ap (λ (s : Sort). Some s) (put_named [] 0 [])

pub joined_sort : sort_of signature joined_x ≡ Some Real
joined_sort =
    sort-Apply signature (head.Symbol 2) [] (x ∷ x ∷ []) ∙
    (λ i. all_known (x_sort i ∷ x_sort i ∷ []) >>= head_sort signature (head.Symbol 2) [])
    ∙ (λ i. only (same_sorts (Real ∷ Real ∷ []) (put_real [] i ∷ put_real [] i ∷ [])) (Some Real) >>= λ s. Some (put_sort [] s))
    ∙ ap (λ b. only b (Some Real) >>= λ s. Some (put_sort [] s)) (yes_sorts (Real ∷ Real ∷ [])) ∙ ap (λ (s : Sort). Some s) (put_real [])

pub square_sort : sort_of signature square ≡ Some Real
square_sort =
    sort-Apply signature (head.Real op.Mul) [] (x ∷ x ∷ []) ∙
    (λ i. all_known (x_sort i ∷ x_sort i ∷ []) >>= head_sort signature (head.Real op.Mul) [])
    ∙ (λ i. when (yes_sorts [] i && yes_sorts (Real ∷ Real ∷ []) i) Real)

pub field_sort : sort_of signature field ≡ Some Real
field_sort =
    sort-Apply signature (head.Field 0 0) [] (r ∷ []) ∙ (λ i. all_known (r_sort i ∷ []) >>= head_sort signature (head.Field 0 0) [])
    ∙ ap (λ b. only b (Some (put_sort [] Real))) (yes_sorts (R ∷ [])) ∙ ap (λ (s : Sort). Some s) (put_real [])

-- what has the sort of a name
real_is : (s : Sort) → Some Real ≡ Some s → Real ≡ s
real_is s e = same_Some Real s e

not_record : {A : Type 0} (t : Term) (s : Sort) (ss : List Sort) → sort_of signature t ≡ Some Real → sort_of signature t ≡ Some s
    → record_fields signature s ≡ Some ss → A
not_record t s ss e f g = absurd (never_some ss (sym real_fields ∙ ap (record_fields signature) (same_Some Real s (sym e ∙ f)) ∙ g))

not_fields : {A : Type 0} (t : Term) (s : Sort) (ss : List Sort) → sort_of signature t ≡ Some C → sort_of signature t ≡ Some s
    → record_fields signature s ≡ Some ss → A
not_fields t s ss e f g = absurd (never_some ss (sym C_fields ∙ ap (record_fields signature) (same_Some C s (sym e ∙ f)) ∙ g))

r_field_terms : field_terms R r 1 ≡ field ∷ []
r_field_terms = ap (λ f. field_terms_of f r 1) (outs-Named 0 [])

-- ---- names of `real` that are their own values
pub own_real : (k : ℕ) → own Real k ≡ once k
own_real k = ap (λ b. cond b (once k) (leaf k)) (of_numeric Real (inr refl))

real_leaf : (k : ℕ) (t : Term) → IsName system k t → sort_of signature t ≡ Some Real → value_at system k ≡ Some (once k)
    → IsLeaf signature system Real k
real_leaf k t i e v = record { term = t; is = i; sort = e; value = v ∙ ap (λ w. Some w) (sym (own_real k)) }

over_once : (k : ℕ) → IsLeaf signature system Real k → IsOver signature system Real (once k)
over_once k l = (inr refl, (l, tt))

leaf_0 : IsLeaf signature system Real 0
leaf_0 = real_leaf 0 x refl x_sort x_value

leaf_2 : IsLeaf signature system Real 2
leaf_2 = real_leaf 2 square refl square_sort square_value

leaf_4 : IsLeaf signature system Real 4
leaf_4 = real_leaf 4 field refl field_sort field_value

over_at : (a b : Sort) (v w : Val) → Some a ≡ Some b → Some v ≡ Some w → IsOver signature system a v → IsOver signature system b w
over_at a b v w e f o = subst (IsOver signature system b) (same_Some v w f) (subst (λ s. IsOver signature system s v) (same_Some a b e) o)

own_leaf : own C 5 ≡ leaf 5
own_leaf = ap (λ b. cond b (once 5) (leaf 5)) (choice_not_numeric signature C (head.Symbol 3 ∷ head.Symbol 4 ∷ []) C_choices)

over_leaf : IsOver signature system C (leaf 5)
over_leaf = (
  choice_not_numeric signature C (head.Symbol 3 ∷ head.Symbol 4 ∷ []) C_choices,
  C_fields,
  record { term = red; is = refl; sort = red_sort; value = red_value ∙ ap (λ v. Some v) (sym own_leaf) },
)

over : (s : Sort) (v : Val) (n : ℕ) → Has signature system s v n → IsOver signature system s v
over s v n h =
    each_name (λ k t. sort_of signature t ≡ Some s → value_at system k ≡ Some v → IsOver signature system s v)
    (λ e f. over_at Real s (once 0) v (sym x_sort ∙ e) (sym x_value ∙ f) (over_once 0 leaf_0))
    (λ e f. over_at Real s (once 0) v (sym joined_sort ∙ e) (sym joined_value ∙ f) (over_once 0 leaf_0))
    (λ e f. over_at Real s (once 2) v (sym square_sort ∙ e) (sym square_value ∙ f) (over_once 2 leaf_2))
    (λ e f. over_at R s (fields (vals (once 4 ∷ []))) v (sym r_sort ∙ e) (sym r_value ∙ f) (Real ∷ [], R_fields, (over_once 4 leaf_4, tt)))
    (λ e f. over_at Real s (once 4) v (sym field_sort ∙ e) (sym field_value ∙ f) (over_once 4 leaf_4))
    (λ e f. over_at C s (leaf 5) v (sym red_sort ∙ e) (sym red_value ∙ f) over_leaf)
    (λ e f. over_at C s (leaf 5) v (sym hue_sort ∙ e) (sym hue_value ∙ f) over_leaf)
    n h.term h.is h.sort h.value

-- ---- what stands in names
sorted : (n : ℕ) (t : Term) → IsName system n t → (s : Sort) × (sort_of signature t ≡ Some s)
sorted =
    each_name (λ n t. (s : Sort) × (sort_of signature t ≡ Some s)) (Real, x_sort) (Real, joined_sort) (Real, square_sort) (R, r_sort)
    (Real, field_sort) (C, red_sort) (C, hue_sort)

subterms : (n : ℕ) (h : Head) (ss : List Sort) (us : List Term) → IsName system n (Apply h ss us) → AllByRecursion (IsNamed system) us
subterms =
    each_applied (λ h ss us n. AllByRecursion (IsNamed system) us) tt ((0, refl), ((0, refl), tt)) ((0, refl), ((0, refl), tt)) tt
    ((3, refl), tt) tt tt

-- no predicate is applied
result_there : (p : ℕ) (ss os : List Sort) (us : List Term) (s : Sort) → formula_ok signature (Pred p ss us) ≡ true
    → result_sort signature (head.Symbol p) os ≡ Some s → ⊥
result_there p ss os us s f e = never_some s (sym (no_result signature p ss us f os) ∙ e)

results : (n : ℕ) (h : Head) (ss : List Sort) (us : List Term) → IsName system n (Apply h ss us)
    → (s : Sort) × (result_sort signature h ss ≡ Some s)
results =
    each_applied (λ h ss us k. (s : Sort) × (result_sort signature h ss ≡ Some s)) (Real, ap (λ (s : Sort). Some s) (put_real []))
    (Real, ap (λ (s : Sort). Some s) (put_real [])) (Real, refl)
    (R, ap (λ (s : Sort). Some s) (put_named [] 0 [])) (Real, ap (λ (o : Option (List Sort)). o >>= λ fs. slice_get fs 0) R_fields)
    (C, ap (λ (s : Sort). Some s) (put_named [] 1 [])) (C, ap (λ (s : Sort). Some s) (put_named [] 1 []))

no_predicate : (n : ℕ) (t : Term) → IsName system n t → IsPredicateName signature t → ⊥
no_predicate n t i (p, ss, us, e, ok) =
    let q = results n (head.Symbol p) ss us (i ∙ ap (λ (t : Term). Some t) e) in result_there p ss ss us q.0 ok q.1

is_applied_layer : Term-F Term → Bool
is_applied_layer (layer.Apply h ss us) = true
is_applied_layer _ = false

no_numeral : (n : ℕ) (a b : ℤ) (c : Bool) → IsName system n (Num a b c) → ⊥
unfolding is_applied_layer
no_numeral n a b c i =
    let e =
    each_name (λ k t. is_applied_layer (out-Term t) ≡ true) (at (head.Symbol 0) [] []) (at (head.Symbol 2) [] (x ∷ x ∷ []))
    (at (head.Real op.Mul) [] (x ∷ x ∷ []))
    (at (head.Symbol 1) [] []) (at (head.Field 0 0) [] (r ∷ [])) (at (head.Symbol 3) [] []) (at (head.Symbol 5) [] []) n
    (Num a b c) i in
    let z : false ≡ true = sym (ap is_applied_layer (outs-Num a b c)) ∙ e in
    cc
  where
    at : (h : Head) (ss : List Sort) (us : List Term) → is_applied_layer (out-Term (Apply h ss us)) ≡ true
    at h ss us = ap is_applied_layer (outs-Apply h ss us)

-- ---- fields
of_record : {A : Type 0} (s : Sort) (ss : List Sort) → sort_of signature r ≡ Some s → record_fields signature s ≡ Some ss
    → (R ≡ s → Real ∷ [] ≡ ss → A) → A
of_record s ss e f k =
    let z : R ≡ s = same_Some R s (sym r_sort ∙ e) in
    k z (same_Some (Real ∷ []) ss (sym R_fields ∙ ap (record_fields signature) z ∙ f))

field_names : (n : ℕ) (t : Term) (s : Sort) (ss : List Sort) → IsName system n t → sort_of signature t ≡ Some s
    → record_fields signature s ≡ Some ss
    → AllByRecursion (IsNamed system) (field_terms s t (length ss))
field_names n t s ss i =
    each_name (λ n t. sort_of signature t ≡ Some s → record_fields signature s ≡ Some ss → AllByRecursion (IsNamed system)
    (field_terms s t (length ss)))
    (λ e f. not_record x s ss x_sort e f) (λ e f. not_record joined_x s ss joined_sort e f) (λ e f. not_record square s ss square_sort e f)
    (λ e f. of_record s ss e f (λ a b. subst (λ (o : Sort). AllByRecursion (IsNamed system) (field_terms o r (length ss))) a
    (subst (λ (os : List Sort). AllByRecursion (IsNamed system) (field_terms R r (length os))) b
    (subst (AllByRecursion (IsNamed system)) (sym r_field_terms) ((4, refl), tt)))))
    (λ e f. not_record field s ss field_sort e f) (λ e f. not_fields red s ss red_sort e f) (λ e f. not_fields hue s ss hue_sort e f) n t i

abbrev IsRecordOf : ℕ → Term → Sort → List Sort → Type 0
IsRecordOf n t s ss = (vs : List Val) × (value_at system n ≡ Some (fields (vals vs))) × ValuesOf system (field_terms s t (length ss)) vs

record_value : (n : ℕ) (t : Term) (s : Sort) (ss : List Sort) → IsName system n t → sort_of signature t ≡ Some s
    → record_fields signature s ≡ Some ss → IsRecordOf n t s ss
record_value n t s ss i =
    each_name (λ n t. sort_of signature t ≡ Some s → record_fields signature s ≡ Some ss → IsRecordOf n t s ss)
    (λ e f. not_record x s ss x_sort e f) (λ e f. not_record joined_x s ss joined_sort e f) (λ e f. not_record square s ss square_sort e f)
    (λ e f. of_record s ss e f (λ a b. subst (λ (o : Sort). IsRecordOf 3 r o ss) a (subst (λ (os : List Sort). IsRecordOf 3 r R os) b
    (once 4 ∷ [], r_value, subst (λ ts. ValuesOf system ts (once 4 ∷ [])) (sym r_field_terms) ((4, refl, field_value), tt)))))
    (λ e f. not_record field s ss field_sort e f) (λ e f. not_fields red s ss red_sort e f) (λ e f. not_fields hue s ss hue_sort e f) n t i

-- ---- written values are normal forms
normal_once : (k : ℕ) → IsNormal (itself k)
normal_once k = record {
  positive = omega (arith, ints);
  rising = (tt, tt);
  nonzero = (one_is_not, tt);
  lowest = ((dvd_refl 1, (dvd-zero 1, (dvd_refl 1, tt))), λ d a. a.0);
  within = (omega arith, (omega arith, (omega arith, tt)));
}
  where
    one_is_not : pos 1 ≡ pos 0 → ⊥
    one_is_not e = cc

pub normal_number : (k : ℕ) → IsNormalValue (Number (itself k))
normal_number k = subst (AllByRecursion IsNormal) (sym (forms-Number (itself k))) (normal_once k, tt)

pub forms-Fields : (v : Value) → forms_in (FieldValues (v ∷ [])) ≡ forms_in v ++ []
unfolding forms_in
forms-Fields v = ap forms_in (sym (rolls-Fields (v ∷ []))) ∙ fold-roll-Value (List Lin) forms_step (value_layer.Fields (v ∷ []))

normal_record : IsNormalValue (FieldValues (Number (itself 4) ∷ []))
normal_record =
    subst (AllByRecursion IsNormal) (sym (forms-Fields (Number (itself 4)) ∙ ap (λ fs. fs ++ []) (forms-Number (itself 4))))
    (normal_once 4, tt)

pub leaf_forms : (k : ℕ) → forms_in (Leaf k) ≡ []
unfolding forms_in
leaf_forms k = ap forms_in (sym (rolls-Leaf k)) ∙ fold-roll-Value (List Lin) forms_step (value_layer.Leaf k)

pub normal_leaf : (k : ℕ) → IsNormalValue (Leaf k)
normal_leaf k = subst (AllByRecursion IsNormal) (sym (leaf_forms k)) tt

normal : (n : ℕ) (v : Value) → slice_get system.values n ≡ Some v → IsNormalValue v
normal zero v e = subst IsNormalValue (same_Some (Number (itself 0)) v e) (normal_number 0)
normal (suc zero) v e = subst IsNormalValue (same_Some (Number (itself 0)) v e) (normal_number 0)
normal (suc (suc zero)) v e = subst IsNormalValue (same_Some (Number (itself 2)) v e) (normal_number 2)
normal (suc (suc (suc zero))) v e = subst IsNormalValue (same_Some (FieldValues (Number (itself 4) ∷ [])) v e) normal_record
normal (suc (suc (suc (suc zero)))) v e = subst IsNormalValue (same_Some (Number (itself 4)) v e) (normal_number 4)
normal (suc (suc (suc (suc (suc zero))))) v e = subst IsNormalValue (same_Some (Leaf 5) v e) (normal_leaf 5)
normal (suc (suc (suc (suc (suc (suc zero)))))) v e = subst IsNormalValue (same_Some (Leaf 5) v e) (normal_leaf 5)
normal (suc (suc (suc (suc (suc (suc (suc n))))))) v e = absurd (no_entry n v e)

-- ---- nothing is computed: neither factor of the product is constant
single_counts : (t : Term) → is_number (single t) ≡ false
single_counts t =
    ap (λ q. is_zero q && true) (pick_yes (Term_discrete t t) (one_ℚ +ℚ zero_ℚ) zero_ℚ refl ∙ add_zero_q one_ℚ) ∙ ap
    (λ b. b && true) one_counts

x_opaque : is_number (form x) ≡ false
x_opaque = ap is_number (form-Apply (head.Symbol 0) [] []) ∙ single_counts x

computed : (n : ℕ) (h : Head) (ss : List Sort) (us : List Term) (vs : List Val) (v : Val) → IsName system n (Apply h ss us)
    → ValuesOf system us vs
    → linear h (beside us vs) ≡ Some v → value_at system n ≡ Some v
computed n h ss us vs v i =
    each_applied (λ h ss us n. ValuesOf system us vs → linear h (beside us vs) ≡ Some v → value_at system n ≡ Some v)
    (λ a e. absurd (never_some v e)) (λ a e. absurd (never_some v e)) (λ a e. of_product vs a e) (λ a e. absurd (never_some v e))
    (λ a e. absurd (never_some v e)) (λ a e. absurd (never_some v e)) (λ a e. absurd (never_some v e)) n h ss us i
  where
    no_product : (a b : Val) → product (x, a) (x, b) ≡ None
    no_product a b =
        λ k. cond (x_opaque k) (Some (scale_val (form x).constant b)) (cond (x_opaque k) (Some (scale_val (form x).constant a)) None)

    of_product : (vs : List Val) → ValuesOf system (x ∷ x ∷ []) vs → linear (head.Real op.Mul) (beside (x ∷ x ∷ []) vs) ≡ Some v
        → value_at system 2 ≡ Some v
    of_product [] a e = absurd a
    of_product (w ∷ []) a e = absurd a.1
    of_product (w ∷ u ∷ []) a e = absurd (never_some v (sym (no_product w u) ∙ e))
    of_product (w ∷ u ∷ z ∷ vs) a e = absurd (a.1).1

written : (n k place : ℕ) (ss : List Sort) (us : List Term)
    → IsName system n (Apply (head.Field k place) ss (Apply (head.Build k) ss us ∷ [])) → ⊥
written n k place ss us i =
    each_applied (λ h os ts m. h ≡ head.Field k place → ts ≡ Apply (head.Build k) ss us ∷ [] → ⊥)
    (λ e f. cc) (λ e f. cc) (λ e f. cc) (λ e f. cc) (λ e f. not_built (heads e f)) (λ e f. cc) (λ e f. cc) n (head.Field k place) ss
    (Apply (head.Build k) ss us ∷ []) i refl refl
  where
    heads : head.Field 0 0 ≡ head.Field k place → r ∷ [] ≡ Apply (head.Build k) ss us ∷ [] → r ≡ Apply (head.Build k) ss us
    heads e f = cc

    not_built : r ≡ Apply (head.Build k) ss us → ⊥
    not_built e =
        let z : layer.Apply (head.Symbol 1) [] [] ≡ layer.Apply (head.Build k) ss us =
        sym (outs-Apply (head.Symbol 1) [] []) ∙ ap out-Term e ∙ outs-Apply (head.Build k) ss us in
        cc

-- ---- representatives
number_key : Val → ℕ
number_key (number f) = first_key f.parts
  where
    first_key : List (ℕ × ℚ) → ℕ
    first_key [] = 0
    first_key (p ∷ ps) = p.0
number_key (leaf n) = n
number_key (fields vs) = 0

same_key : (v : Val) (j k : ℕ) → ◌≡◌ {A = Option Val} (Some v) (Some (once k)) → number_key v ≡ j → j ≡ k
unfolding number_key
same_key v j k e f = sym f ∙ ap number_key (same_Some v (once k) e)

pub once_tells : (j k : ℕ) → once j ≡ once k → j ≡ k
unfolding number_key
once_tells j k e = same_key (once j) j k (ap (λ (v : Val). Some v) e) refl

value_two : (n : ℕ) → value_at system n ≡ Some (once 2) → 2 ≤ n
unfolding number_key
value_two zero e = let z = same_key (once 0) 0 2 (sym x_value ∙ e) refl in absurd (omega (arith, z))
value_two (suc zero) e = let z = same_key (once 0) 0 2 (sym joined_value ∙ e) refl in absurd (omega (arith, z))
value_two (suc (suc n)) e = omega arith

x_represents : Represents signature system Real (once 0) 0
x_represents = record { has = record { term = x; is = refl; sort = x_sort; value = x_value }; least = λ m h. omega arith }

square_represents : Represents signature system Real (once 2) 2
square_represents = record {
  has = record { term = square; is = refl; sort = square_sort; value = square_value };
  least =
      λ m h. value_two m h.value;
}

-- the name of a term is at least what represents its value
at_most_name : (t : Term) (k p : ℕ) → IsName system k t → StandsFor signature system t p → p ≤ k
at_most_name t k p i s =
    let same : (s.valued).0 ≡ k = one_place (s.valued).0 k t (s.valued).1 i in
    s.represents.least k
    (record { term = t; is = i; sort = s.sorted; value = subst (λ (n : ℕ). value_at system n ≡ Some s.value) same (s.valued).2 })

x_stands : (p : ℕ) → StandsFor signature system x p → p ≡ 0
x_stands p s = let h = at_most_name x 0 p refl s in omega (arith, h)

value_of_name : (t : Term) (k p : ℕ) (v : Val) → IsName system k t → (s : StandsFor signature system t p) → value_at system k ≡ Some v
    → s.value ≡ v
value_of_name t k p v i s e =
    let same : (s.valued).0 ≡ k = one_place (s.valued).0 k t (s.valued).1 i in
    same_Some s.value v (sym (s.valued).2 ∙ ap (value_at system) same ∙ e)

joined_stands : (p : ℕ) → StandsFor signature system joined_x p → p ≡ 0
joined_stands p s =
    let v = value_of_name joined_x 1 p (once 0) refl s joined_value in
    let o : s.sort ≡ Real = same_Some s.sort Real (sym s.sorted ∙ joined_sort) in
    let h =
    s.represents.least 0
    (record {
      term = x;
      is = refl;
      sort = x_sort ∙ ap (λ (q : Sort). Some q) (sym o);
      value = x_value ∙ ap (λ (w : Val). Some w)
          (sym v);
    }) in
    omega (arith, h)

square_stands : (p : ℕ) → StandsFor signature system square p → p ≡ 2
square_stands p s =
    let v = value_of_name square 2 p (once 2) refl s square_value in
    let h = at_most_name square 2 p refl s in
    let k = value_two p (s.represents.has.value ∙ ap (λ (w : Val). Some w) v) in
    omega (arith, h, k)

-- ---- the rules
abbrev IsOneRule : Head → List Sort → List ℕ → List ℕ → Type 0
IsOneRule h ss l q = ((h ≡ head.Symbol 2) × (l ≡ 0 ∷ 0 ∷ []) × (q ≡ 0 ∷ [])) ⊎ ((h ≡ head.Real op.Mul) × (l ≡ 0 ∷ 0 ∷ []) × (q ≡ 2 ∷ []))

rule_is : (k : ℕ) (e : RuleEntry) → slice_get system.rules k ≡ Some e
    → ((k ≡ 0) × (e.symbol.head ≡ head.Symbol 2) × (e.left ≡ 0 ∷ 0 ∷ []) × (e.right ≡ 0 ∷ []))
    ⊎ ((k ≡ 1) × (e.symbol.head ≡ head.Real op.Mul) × (e.left ≡ 0 ∷ 0 ∷ []) × (e.right ≡ 2 ∷ []))
rule_is zero e f =
    let z = same_Some _ e f in
    inl
    (refl, ap (λ (e : RuleEntry). e.symbol.head) (sym z), ap (λ (e : RuleEntry). e.left) (sym z), ap (λ (e : RuleEntry). e.right) (sym z))
rule_is (suc zero) e f =
    let z = same_Some _ e f in
    inr
    (refl, ap (λ (e : RuleEntry). e.symbol.head) (sym z), ap (λ (e : RuleEntry). e.left) (sym z), ap (λ (e : RuleEntry). e.right) (sym z))
rule_is (suc (suc k)) e f = absurd (no_entry k e f)

heads_differ : head.Symbol 2 ≡ head.Real op.Mul → ⊥
heads_differ e = cc

both_left : (n : ℕ) (l q : List ℕ) → l ≡ 0 ∷ 0 ∷ [] → q ≡ n ∷ [] → IsPart l q → ⊥
both_left n l q e f p = two_parts n 0 0 [] (subst (λ (k : List ℕ). IsPart k (n ∷ [])) e (subst (IsPart l) f p))

rules_apart : (j k : ℕ) (d e : RuleEntry) → j ≢ k → slice_get system.rules j ≡ Some d → slice_get system.rules k ≡ Some e
    → d.symbol ≡ e.symbol → ⊥
rules_apart j k d e n a b s = go (rule_is j d a) (rule_is k e b)
  where
    heads : d.symbol.head ≡ e.symbol.head
    heads = ap (λ (q : AcSymbol). q.head) s

    go : ((j ≡ 0) × (d.symbol.head ≡ head.Symbol 2) × (d.left ≡ 0 ∷ 0 ∷ []) × (d.right ≡ 0 ∷ [])) ⊎
        ((j ≡ 1) × (d.symbol.head ≡ head.Real op.Mul) × (d.left ≡ 0 ∷ 0 ∷ []) × (d.right ≡ 2 ∷ []))
        → ((k ≡ 0) × (e.symbol.head ≡ head.Symbol 2) × (e.left ≡ 0 ∷ 0 ∷ []) × (e.right ≡ 0 ∷ [])) ⊎
        ((k ≡ 1) × (e.symbol.head ≡ head.Real op.Mul) × (e.left ≡ 0 ∷ 0 ∷ []) × (e.right ≡ 2 ∷ []))
        → ⊥
    go (inl x) (inl z) = n (x.0 ∙ sym z.0)
    go (inr x) (inr z) = n (x.0 ∙ sym z.0)
    go (inl x) (inr z) = heads_differ (sym x.1 ∙ heads ∙ z.1)
    go (inr x) (inl z) = heads_differ (sym z.1 ∙ sym heads ∙ x.1)

right_reduced : (j k : ℕ) (d e : RuleEntry) → slice_get system.rules j ≡ Some d → slice_get system.rules k ≡ Some e → d.symbol ≡ e.symbol
    → IsPart d.left e.right → ⊥
right_reduced j k d e a b s p = go (rule_is j d a) (rule_is k e b)
  where
    go : ((j ≡ 0) × (d.symbol.head ≡ head.Symbol 2) × (d.left ≡ 0 ∷ 0 ∷ []) × (d.right ≡ 0 ∷ [])) ⊎
        ((j ≡ 1) × (d.symbol.head ≡ head.Real op.Mul) × (d.left ≡ 0 ∷ 0 ∷ []) × (d.right ≡ 2 ∷ []))
        → ((k ≡ 0) × (e.symbol.head ≡ head.Symbol 2) × (e.left ≡ 0 ∷ 0 ∷ []) × (e.right ≡ 0 ∷ [])) ⊎
        ((k ≡ 1) × (e.symbol.head ≡ head.Real op.Mul) × (e.left ≡ 0 ∷ 0 ∷ []) × (e.right ≡ 2 ∷ []))
        → ⊥
    go (inl x) (inl z) = both_left 0 d.left e.right x.2 z.3 p
    go (inl x) (inr z) = both_left 2 d.left e.right x.2 z.3 p
    go (inr x) (inl z) = both_left 0 d.left e.right x.2 z.3 p
    go (inr x) (inr z) = both_left 2 d.left e.right x.2 z.3 p

rules_fit : (k : ℕ) (e : RuleEntry) → slice_get system.rules k ≡ Some e → IsRuleFit signature system e
rules_fit zero e f = subst (IsRuleFit signature system) (same_Some _ e f) (record {
  sort = Real;
  symbol = ap (λ (s : Sort). Some s) (put_real []);
  ac = (u_entry, refl, refl);
  left = ((once 0, x_represents), ((once 0, x_represents), tt));
  right = ((once 0, x_represents), tt);
  some = omega arith;
  two = omega arith;
  falls = inl (omega arith);
})
rules_fit (suc zero) e f = subst (IsRuleFit signature system) (same_Some _ e f) (record {
  sort = Real;
  symbol = refl;
  ac = tt;
  left = ((once 0, x_represents), ((once 0, x_represents), tt));
  right = ((once 2, square_represents), tt);
  some = omega arith;
  two = omega arith;
  falls = inl (omega arith);
})
rules_fit (suc (suc k)) e f = absurd (no_entry k e f)

-- two rules of one symbol are one rule
overlaps : (h : Head) (ss : List Sort) → OverlapsJoin (IsRule system h ss)
overlaps h ss l q m w a b different z c d =
    absurd (different (alike l m (lefts.0 ∙ sym lefts.1)) (alike q w (go (rule_is a.0 _ a.1) (rule_is b.0 _ b.1))))
  where
    alike : (k n : List ℕ) → k ≡ n → IsSame k n
    alike k n e = record { each = λ u. ap (count u) e }

    left_of : (e : RuleEntry) (k : ℕ) → slice_get system.rules k ≡ Some e → e.left ≡ 0 ∷ 0 ∷ []
    left_of e k f = elim (rule_is k e f) as (λ _. e.left ≡ 0 ∷ 0 ∷ []) [ inl u ↦ u.2 | inr u ↦ u.2 ]

    lefts : (l ≡ 0 ∷ 0 ∷ []) × (m ≡ 0 ∷ 0 ∷ [])
    lefts = (left_of _ a.0 a.1, left_of _ b.0 b.1)

    go : ((a.0 ≡ 0) × (h ≡ head.Symbol 2) × (l ≡ 0 ∷ 0 ∷ []) × (q ≡ 0 ∷ [])) ⊎
        ((a.0 ≡ 1) × (h ≡ head.Real op.Mul) × (l ≡ 0 ∷ 0 ∷ []) × (q ≡ 2 ∷ []))
        → ((b.0 ≡ 0) × (h ≡ head.Symbol 2) × (m ≡ 0 ∷ 0 ∷ []) × (w ≡ 0 ∷ [])) ⊎
        ((b.0 ≡ 1) × (h ≡ head.Real op.Mul) × (m ≡ 0 ∷ 0 ∷ []) × (w ≡ 2 ∷ []))
        → q ≡ w
    go (inl u) (inl v) = u.3 ∙ sym v.3
    go (inr u) (inr v) = u.3 ∙ sym v.3
    go (inl u) (inr v) = absurd (heads_differ (sym u.1 ∙ v.1))
    go (inr u) (inl v) = absurd (heads_differ (sym v.1 ∙ u.1))

-- ---- joins
one_rule : (h : Head) (k n : ℕ)
    → slice_get system.rules k ≡ Some (record { symbol = record { head = h; sorts = [] }; left = 0 ∷ 0 ∷ []; right = n ∷ [] })
    → ReducesTo (IsRule system h []) (0 ∷ 0 ∷ []) (n ∷ [])
one_rule h k n e =
    one_step {b = n ∷ []}
    (record {
      left = 0 ∷ 0 ∷ [];
      right = n ∷ [];
      rule =
          (k, e);
      rest = [];
      before = record { each = λ z. refl };
      after = record { each = λ z. refl };
    }) (done (record { each = λ z. refl }))

joins : (n : ℕ) (h : Head) (ss : List Sort) (a b : Term) (p q s : ℕ) → IsName system n (Apply h ss (a ∷ b ∷ []))
    → StandsFor signature system a p → StandsFor signature system b q
    → StandsFor signature system (Apply h ss (a ∷ b ∷ [])) s → ReducesTo (IsRule system h ss) (p ∷ q ∷ []) (s ∷ [])
joins n h ss a b p q s i sa sb sc =
    each_applied (λ h ss us n. us ≡ a ∷ b ∷ [] → StandsFor signature system (Apply h ss us) s → ReducesTo (IsRule system h ss) (p ∷ q ∷ [])
    (s ∷ []))
    (λ e c. cc)
    (λ e c. reduced (head.Symbol 2) 0 (arguments e) (one_rule (head.Symbol 2) 0 0 refl) (joined_stands s c))
    (λ e c. reduced (head.Real op.Mul) 2 (arguments e) (one_rule (head.Real op.Mul) 1 2 refl) (square_stands s c))
    (λ e c. cc) (λ e c. absurd (one_not_two e)) (λ e c. cc) (λ e c. cc) n h ss (a ∷ b ∷ []) i refl sc
  where
    arguments : x ∷ x ∷ [] ≡ a ∷ b ∷ [] → (p ≡ 0) × (q ≡ 0)
    arguments e =
        let f : x ≡ a = cc in
        let g : x ≡ b = cc in (
          x_stands p (subst (λ (t : Term). StandsFor signature system t p) (sym f) sa),
          x_stands q
              (subst (λ (t : Term). StandsFor signature system t q) (sym g) sb),
        )

    one_not_two : r ∷ [] ≡ a ∷ b ∷ [] → ⊥
    one_not_two e = cc

    reduced : (h : Head) (k : ℕ) → (p ≡ 0) × (q ≡ 0) → ReducesTo (IsRule system h []) (0 ∷ 0 ∷ []) (k ∷ []) → s ≡ k
        → ReducesTo (IsRule system h []) (p ∷ q ∷ []) (s ∷ [])
    reduced h k e f g =
        subst (λ (z : List ℕ × ℕ). ReducesTo (IsRule system h []) z.0 (z.1 ∷ [])) (λ i. (sym e.0 i ∷ sym e.1 i ∷ [], sym g i)) f

pub completed : IsCompleted signature system
completed = record {
  values = refl;
  sorted = λ n t i. inl (sorted n t i);
  apart = one_place;
  subterms = subterms;
  field_names = field_names;
  normal = normal;
  over = over;
  predicate_value = λ n t i p. absurd (no_predicate n t i p);
  numeral = λ n a b c i. absurd (no_numeral n a b c i);
  computed = computed;
  record_value = record_value;
  written = λ n k place ss us u v i e f. absurd (written n k place ss us i);
  congruent = λ m n h ss us ws vs s i j o a b. ap (value_at system) (same_place m n h ss us ws i j);
  rules_fit = rules_fit;
  left_reduced = λ j k d e n a b s p. rules_apart j k d e n a b s;
  right_reduced = right_reduced;
  overlaps = overlaps;
  joins = λ n h ss a b p q s i join sa sb sc. joins n h ss a b p q s i sa sb sc;
}

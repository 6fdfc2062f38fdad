-- Names evaluate to their values: the cases of numerals, fresh constants, linear operations, fields, free applications and AC applications.
use Rattle.std.specs.Prelude.{ℕ, zero, suc, ℤ, ◌+◌, ◌≤◌, Bool, true, false, cond, ◌&&◌, List, [], ◌∷◌, ◌++◌, ◌≡◌, map, length, slice_get, Option, Some, None}
use Rattle.std.proofs.Common.{inl, inr}
use mathlib.Core.Path.{refl, sym, ap, ◌∙◌, subst}
use native.Mathlib.Omega.{arith}
use Rattle.ae_base.specs.Decided.{decided, pick}
use Rattle.ae_core.specs.Decided.{Term_discrete, Head_discrete}
use Rattle.ae_core.specs.Sorts.{sort_of, same_sorts}
use Rattle.ae_base.specs.Options.{or_else, ◌>>=◌}
use Rattle.ae_math.specs.Fractions.{ratio}
use Rattle.ae_core.specs.declared.terms.Sort.{Sort}
use Rattle.ae_core.specs.declared.terms.Term.{Term, Term-F, Num, Apply, out-Term, roll-Term, roll-out-Term}
use Rattle.ae_core.specs.declared.terms.Term.TheOpen as layer
use Rattle.ae_core.specs.declared.terms.Term.TheVariants.{rolls-Apply, outs-Apply}
use Rattle.ae_core.specs.declared.terms.Head.{Head}
use Rattle.ae_core.specs.declared.terms.Head.TheVariants as head
use Rattle.ae_core.specs.declared.problems.Signature.{Signature}
use Rattle.ae_multiset.specs.Multisets.{count, IsPart}
use Rattle.ae_multiset.specs.Rewriting.{ReducesTo, IsReduced}
use Rattle.ae_multiset.proofs.Counts.{count_same, count_other}
use Rattle.ae_multiset.proofs.Rising.{non_decreasing}
use Rattle.std.proofs.lemmas.Bool.{cases_eq, and_parts}
use Rattle.ae_journal.specs.Values.{Val, Val_discrete, constant_val, meaning, fields, nothing, vals, val_at}
use Rattle.ae_journal.specs.Systems.{IsCompleted, IsName, IsRule, value_at, ValueOf, ValuesOf, linear, beside, Represents, record_fields, field_terms}
use Rattle.ae_journal.specs.Keys.{Numbering}
use Rattle.ae_journal.specs.Evaluation.{Reduction, ev, value_in, value_of, have_values, is_application, named_among, named, members, whole, field_at}
use Rattle.ae_evaluation.proofs.Decisions.{same_head, same_list, yes_sorts}
use Rattle.ae_evaluation.proofs.Linear.{ev-Apply, ev-Num, rest_of}
use Rattle.ae_evaluation.proofs.Records.{ev-Field}
use Rattle.ae_evaluation.proofs.Reductions.{only}
use Rattle.ae_evaluation.proofs.Sane.{sort_for, members_of_named, value_of_representative}
use Rattle.ae_num.specs.declared.forms.Value.{Value}
use Rattle.ae_journal.specs.declared.systems.System.{System}
use Rattle.ae_base.proofs.Decided.{decided_of}
use Rattle.std.proofs.lemmas.Option.{same_Some}

at_least : (b a : ℕ) (l : List ℕ) → 1 ≤ count b (a ∷ b ∷ l)
at_least b a l = elim (cases_eq b a) as (λ _. 1 ≤ count b (a ∷ b ∷ l)) [
  | inl e ↦ subst (λ (x : ℕ). 1 ≤ count b (x ∷ b ∷ l)) e (omega (arith, count_same b (b ∷ l)))
  | inr d ↦ omega (arith, count_other b a (b ∷ l) d, count_same b l)
]

-- two elements are no part of one
pub two_parts : (r a b : ℕ) (l : List ℕ) → IsPart (a ∷ b ∷ l) (r ∷ []) → ⊥
two_parts r a b l p = elim (cases_eq a r) as (λ _. ⊥) [
  | inl e ↦ elim (cases_eq b r) as (λ _. ⊥) [
    | inl f ↦
        let m : count a (b ∷ l) ≡ 1 + count a l = subst (λ (x : ℕ). count x (b ∷ l) ≡ 1 + count x l) (f ∙ sym e) (count_same b l) in
        let k : count a (r ∷ []) ≡ 1 + count a [] = subst (λ (x : ℕ). count x (r ∷ []) ≡ 1 + count x []) (sym e) (count_same r []) in
        omega (arith, p.each a, count_same a (b ∷ l), m, k)
    | inr d ↦ omega (arith, p.each b, count_other b r [] d, at_least b a l)
  ]
  | inr d ↦ omega (arith, p.each a, count_other a r [] d, count_same a (b ∷ l))
]

module _ (sig : Signature) (y : System) (num : Numbering) (reduce : Head → List Sort → List ℕ → List ℕ) (choosing : Bool)
    (completed : IsCompleted sig y) where
  -- ---- the value of a name is found by its term
  finds_value : (ts : List Term) (ws : List Value) (n : ℕ) (t : Term) (w : Value) → slice_get ts n ≡ Some t → slice_get ws n ≡ Some w
      → ((m : ℕ) → slice_get ts m ≡ Some t → m ≡ n) → value_in sig y num reduce choosing ts ws t ≡ Some (meaning w)
  finds_value [] ws n t w a b h = absurd (cc)
  finds_value (u ∷ us) [] n t w a b h = absurd (cc)
  finds_value (u ∷ us) (x ∷ xs) zero t w a b h = ap (λ d. d) (by_test (Term_discrete u t))
    where
      by_test : (d : Dec (u ≡ t)) → pick d (Some (meaning x)) (value_in sig y num reduce choosing us xs t) ≡ Some (meaning w)
      by_test (yes e) = ap (λ (v : Value). Some (meaning v)) (same_Some x w b)
      by_test (no n) = absurd (n (same_Some u t a))
  finds_value (u ∷ us) (x ∷ xs) (suc n) t w a b h =
      by_test (finds_value us xs n t w a b (λ m e. let f = h (suc m) e in omega (arith, f))) (Term_discrete u t)
    where
      by_test : value_in sig y num reduce choosing us xs t ≡ Some (meaning w) → (d : Dec (u ≡ t))
          → pick d (Some (meaning x)) (value_in sig y num reduce choosing us xs t) ≡ Some (meaning w)
      by_test r (yes e) = let f = h 0 (ap (λ (v : Term). Some v) e) in absurd (omega (arith, f))
      by_test r (no n) = r

  pub written_value : (n : ℕ) (v : Val) → value_at y n ≡ Some v → (w : Value) × (slice_get y.values n ≡ Some w) × (meaning w ≡ v)
  written_value n v e = go (slice_get y.values n) refl e
    where
      go : (o : Option Value) → o ≡ slice_get y.values n → (o >>= λ w. Some (meaning w)) ≡ Some v
          → (w : Value) × (slice_get y.values n ≡ Some w) × (meaning w ≡ v)
      go None p e = absurd (cc)
      go (Some w) p e = (w, sym p, same_Some (meaning w) v e)

  pub value_by_term : (n : ℕ) (t : Term) (v : Val) → IsName y n t → value_at y n ≡ Some v → value_of sig y num reduce choosing t ≡ Some v
  value_by_term n t v i e =
      let w = written_value n v e in
      finds_value y.names y.values n t w.0 i w.1 (λ m f. completed.apart m n t f i) ∙ ap (λ u. Some u) w.2

  pub one_value : (t : Term) (v w : Val) → ValueOf y t v → ValueOf y t w → v ≡ w
  one_value t v w p q = same_Some v w (sym (value_by_term p.0 t v p.1 p.2) ∙ value_by_term q.0 t w q.1 q.2)

  have_all : (ts : List Term) (vs : List Val) → ValuesOf y ts vs → have_values sig y num reduce choosing ts vs ≡ true
  have_all [] [] h = refl
  have_all [] (v ∷ vs) h = absurd h
  have_all (t ∷ ts) [] h = absurd h
  have_all (t ∷ ts) (v ∷ vs) h =
      let a = value_by_term (h.0).0 t v (h.0).1 (h.0).2 in
      let b : decided (Val_discrete v v) ≡ true = decided_of (Val_discrete v v) refl in
      (λ i. elim (a i) as (λ _. Bool) [ None ↦ false | Some w ↦ decided (Val_discrete w v) ] && have_values sig y num reduce choosing ts vs)
      ∙ (λ i. b i && have_all ts vs h.1 i)

  -- ---- linear operations
  pub linear_name : (assigned : ℕ → Sort → Option Val) (n : ℕ) (h : Head) (ss : List Sort) (us : List Term) (v w : Val)
      → IsName y n (Apply h ss us) → value_at y n ≡ Some v
      → ValuesOf y us (map (ev sig y num reduce choosing assigned) us)
      → linear h (map (λ t. (t, ev sig y num reduce choosing assigned t)) us) ≡ Some w
      → ev sig y num reduce choosing assigned (Apply h ss us) ≡ v
  linear_name assigned n h ss us v w i e vals l =
      ev-Apply sig y num reduce choosing assigned h ss us ∙ ap (λ o. or_else o (rest_of sig y num reduce choosing assigned h ss us)) l
      ∙ same_Some w v
      (sym (completed.computed n h ss us (map (ev sig y num reduce choosing assigned) us) w i vals (ap (linear h) (pairs us) ∙ l)) ∙ e)
    where
      pairs : (us : List Term)
          → beside us (map (ev sig y num reduce choosing assigned) us) ≡ map (λ t. (t, ev sig y num reduce choosing assigned t)) us
      pairs [] = refl
      pairs (u ∷ us) = ap (λ ps. (u, ev sig y num reduce choosing assigned u) ∷ ps) (pairs us)

  pub numeral_name : (assigned : ℕ → Sort → Option Val) (n : ℕ) (a b : ℤ) (r : Bool) (v : Val) → IsName y n (Num a b r)
      → value_at y n ≡ Some v → ev sig y num reduce choosing assigned (Num a b r) ≡ v
  numeral_name assigned n a b r v i e =
      ev-Num sig y num reduce choosing assigned a b r ∙ same_Some (constant_val (ratio a b)) v (sym (completed.numeral n a b r i) ∙ e)

  -- ---- AC applications: of two names, what they join reduces to the name's representative
  single_reduced : (h : Head) (ss : List Sort) (r : ℕ) → IsReduced (IsRule y h ss) (r ∷ [])
  single_reduced h ss r l q rule p =
      let f = completed.rules_fit rule.0 _ rule.1 in
      go l p f.two
    where
      go : (l : List ℕ) → IsPart l (r ∷ []) → 2 ≤ length l → ⊥
      go [] p t = omega (arith, t)
      go (a ∷ []) p t = omega (arith, t)
      go (a ∷ b ∷ l) p t = two_parts r a b l p

  pub reduces_to_name : Reduction y reduce → (n : ℕ) (h : Head) (ss : List Sort) (p q r : ℕ)
      → ReducesTo (IsRule y h ss) (p ∷ q ∷ []) (r ∷ []) → reduce h ss (p ∷ q ∷ []) ≡ r ∷ []
  reduces_to_name reduction n h ss p q r f =
      only sig y completed reduce reduction h ss (p ∷ q ∷ []) (r ∷ []) f (single_reduced h ss r) (non_decreasing (r ∷ []) (tt, tt))

  -- ---- free applications: the name that is found has the value of the name itself
  named_is : (h : Head) (ss : List Sort) (vs : List Val) (v : Val) (ts : List Term) (ws : List Value) (n : ℕ) (t : Term) (w : Value)
      → slice_get ts n ≡ Some t → slice_get ws n ≡ Some w
      → is_application sig y num reduce choosing h ss vs (out-Term t) ≡ true
      → ((m : ℕ) (u : Term) (x : Value) → slice_get ts m ≡ Some u → slice_get ws m ≡ Some x
      → is_application sig y num reduce choosing h ss vs (out-Term u) ≡ true → meaning x ≡ v)
      → named_among sig y num reduce choosing h ss vs ts ws ≡ Some v
  named_is h ss vs v [] ws n t w a b c f = absurd (cc)
  named_is h ss vs v (u ∷ us) [] n t w a b c f = absurd (cc)
  named_is h ss vs v (u ∷ us) (x ∷ xs) zero t w a b c f =
      let k : is_application sig y num reduce choosing h ss vs (out-Term u) ≡ true =
      ap (λ z. is_application sig y num reduce choosing h ss vs (out-Term z)) (same_Some u t a) ∙ c in
      (λ i. cond (k i) (Some (meaning x)) (named_among sig y num reduce choosing h ss vs us xs)) ∙ ap (λ z. Some z) (f 0 u x refl refl k)
  named_is h ss vs v (u ∷ us) (x ∷ xs) (suc n) t w a b c f =
      by_test (named_is h ss vs v us xs n t w a b c (λ m z q d e g. f (suc m) z q d e g))
      (is_application sig y num reduce choosing h ss vs (out-Term u)) refl
    where
      by_test : named_among sig y num reduce choosing h ss vs us xs ≡ Some v → (b : Bool)
          → b ≡ is_application sig y num reduce choosing h ss vs (out-Term u)
          → cond b (Some (meaning x)) (named_among sig y num reduce choosing h ss vs us xs) ≡ Some v
      by_test r true e = ap (λ z. Some z) (f 0 u x refl refl (sym e))
      by_test r false e = r

  found_of : (ts : List Term) (ws : List Value) (t : Term) (v : Val) → value_in sig y num reduce choosing ts ws t ≡ Some v
      → (m : ℕ) × (w : Value) × (slice_get ts m ≡ Some t) × (slice_get ws m ≡ Some w) × (meaning w ≡ v)
  found_of [] ws t v e = absurd (cc)
  found_of (u ∷ us) [] t v e = absurd (cc)
  found_of (u ∷ us) (w ∷ ws) t v e = by_test (found_of us ws t v) (Term_discrete u t) e
    where
      by_test : (value_in sig y num reduce choosing us ws t ≡ Some v → (m : ℕ) × (x : Value) × (slice_get us m ≡ Some t) ×
          (slice_get ws m ≡ Some x) × (meaning x ≡ v))
          → (d : Dec (u ≡ t))
          → pick d (Some (meaning w)) (value_in sig y num reduce choosing us ws t) ≡ Some v
          → (m : ℕ) × (x : Value) × (slice_get (u ∷ us) m ≡ Some t) × (slice_get (w ∷ ws) m ≡ Some x) × (meaning x ≡ v)
      by_test ih (yes d) e = (0, w, ap (λ (z : Term). Some z) d, refl, same_Some (meaning w) v e)
      by_test ih (no d) e = let r = ih e in (suc r.0, r.1, r.2, r.3, r.4)

  pub valued_by : (t : Term) (v : Val) → value_of sig y num reduce choosing t ≡ Some v → ValueOf y t v
  valued_by t v e = let r = found_of y.names y.values t v e in (r.0, r.2, ap (λ o. o >>= λ w. Some (meaning w)) r.3 ∙ ap (λ z. Some z) r.4)

  all_valued : (ts : List Term) (vs : List Val) → have_values sig y num reduce choosing ts vs ≡ true → ValuesOf y ts vs
  all_valued [] [] e = tt
  all_valued [] (v ∷ vs) e = absurd (cc)
  all_valued (t ∷ ts) [] e = absurd (cc)
  all_valued (t ∷ ts) (v ∷ vs) e =
      let s =
      and_parts (elim (value_of sig y num reduce choosing t) as (λ _. Bool) [ None ↦ false | Some w ↦ decided (Val_discrete w v) ])
      (have_values sig y num reduce choosing ts vs) e in
      (by_value (value_of sig y num reduce choosing t) refl s.0, all_valued ts vs s.1)
    where
      by_pick : (w : Val) (d : Dec (w ≡ v)) → decided d ≡ true → w ≡ v
      by_pick w (yes d) e = d
      by_pick w (no d) e = absurd (cc)

      by_value : (o : Option Val) → o ≡ value_of sig y num reduce choosing t
          → elim o as (λ _. Bool) [ None ↦ false | Some w ↦ decided (Val_discrete w v) ] ≡ true → ValueOf y t v
      by_value None p e = absurd (cc)
      by_value (Some w) p e = valued_by t v (sym p ∙ ap (λ z. Some z) (by_pick w (Val_discrete w v) e))

  -- an application that is found is one of this head, these sorts and these argument values
  pub application_is : (h : Head) (ss : List Sort) (vs : List Val) (f : Term-F Term)
      → is_application sig y num reduce choosing h ss vs f ≡ true → (ts : List Term) × (roll-Term f ≡ Apply h ss ts) × ValuesOf y ts vs
  application_is h ss vs (layer.Bound n) e = absurd (cc)
  application_is h ss vs (layer.Num a b r) e = absurd (cc)
  application_is h ss vs (layer.Fresh n s) e = absurd (cc)
  application_is h ss vs (layer.Apply i us ts) e =
      let p = and_parts (decided (Head_discrete h i) && same_sorts ss us) (have_values sig y num reduce choosing ts vs) e in
      let q = and_parts (decided (Head_discrete h i)) (same_sorts ss us) p.0 in
      (ts, rolls-Apply i us ts ∙ (λ k. Apply (sym (same_head h i q.0) k) (sym (same_list ss us q.1) k) ts), all_valued ts vs p.1)

  pub free_name : (n : ℕ) (h : Head) (ss : List Sort) (us : List Term) (vs : List Val) (s : Sort) (v : Val) → IsName y n (Apply h ss us)
      → value_at y n ≡ Some v → sort_of sig (Apply h ss us) ≡ Some s
      → ValuesOf y us vs → named sig y num reduce choosing h ss vs ≡ Some v
  free_name n h ss us vs s v i e o vals =
      let w = written_value n v e in
      let a : decided (Head_discrete h h) ≡ true = decided_of (Head_discrete h h) refl in
      let b : is_application sig y num reduce choosing h ss vs (out-Term (Apply h ss us)) ≡ true =
      ap (is_application sig y num reduce choosing h ss vs) (outs-Apply h ss us) ∙ (λ k. a k && yes_sorts ss k && have_all us vs vals k) in
      named_is h ss vs v y.names y.values n (Apply h ss us) w.0 i w.1 b
      (λ m u x c d f.
      let r = application_is h ss vs (out-Term u) f in
      let z : u ≡ Apply h ss r.0 = sym (roll-out-Term u) ∙ r.1 in
      same_Some (meaning x) v
      (ap (λ q. q >>= λ w. Some (meaning w)) (sym d) ∙ sym (completed.congruent n m h ss us r.0 vs s i (c ∙ ap (λ q. Some q) z) o vals r.2)
      ∙ e))

  -- ---- AC applications
  pub joined_name : Reduction y reduce → (h : Head) (ss : List Sort) (p q r : ℕ) (va vb v : Val)
      → Represents sig y (sort_for sig y num reduce choosing h ss) va p → Represents sig y (sort_for sig y num reduce choosing h ss) vb q
      → Represents sig y (sort_for sig y num reduce choosing h ss) v r
      → ReducesTo (IsRule y h ss) (p ∷ q ∷ []) (r ∷ [])
      → whole sig y num reduce choosing h ss (sort_for sig y num reduce choosing h ss)
      (reduce h ss (members sig y num reduce choosing h ss (sort_for sig y num reduce choosing h ss) va
      ++ members sig y num reduce choosing h ss (sort_for sig y num reduce choosing h ss) vb)) ≡ v
  joined_name reduction h ss p q r va vb v a b c f =
      (λ i. whole sig y num reduce choosing h ss (sort_for sig y num reduce choosing h ss)
      (reduce h ss (members_of_named sig y num reduce choosing completed h ss va p a i
      ++ members_of_named sig y num reduce choosing completed h ss vb q b i)))
      ∙ ap (whole sig y num reduce choosing h ss (sort_for sig y num reduce choosing h ss)) (reduces_to_name reduction r h ss p q r f)
      ∙ value_of_representative sig y num reduce choosing completed (sort_for sig y num reduce choosing h ss) v r c

  -- ---- records
  value_in_place : (ts : List Term) (ws : List Val) (i : ℕ) (t : Term) → ValuesOf y ts ws → slice_get ts i ≡ Some t
      → (w : Val) × (val_at (vals ws) i ≡ Some w) × ValueOf y t w
  value_in_place [] [] i t h e = absurd (cc)
  value_in_place [] (w ∷ ws) i t h e = absurd h
  value_in_place (u ∷ us) [] i t h e = absurd h
  value_in_place (u ∷ us) (w ∷ ws) zero t h e = (w, refl, subst (λ (z : Term). ValueOf y z w) (same_Some u t e) h.0)
  value_in_place (u ∷ us) (w ∷ ws) (suc i) t h e = value_in_place us ws i t h.1 e

  -- a field of a record that evaluates to its value
  pub field_name : (assigned : ℕ → Sort → Option Val) (n m k i : ℕ) (ss : List Sort) (r : Term) (s : Sort) (fs : List Sort) (v vr : Val)
      → IsName y n (Apply (head.Field k i) ss (r ∷ [])) → value_at y n ≡ Some v → IsName y m r → value_at y m ≡ Some vr
      → sort_of sig r ≡ Some s → record_fields sig s ≡ Some fs
      → slice_get (field_terms s r (length fs)) i ≡ Some (Apply (head.Field k i) ss (r ∷ [])) → ev sig y num reduce choosing assigned r ≡ vr
      → ev sig y num reduce choosing assigned (Apply (head.Field k i) ss (r ∷ [])) ≡ v
  field_name assigned n m k i ss r s fs v vr a e b f o q p ih =
      let rec = completed.record_value m r s fs b o q in
      let at = value_in_place (field_terms s r (length fs)) rec.0 i (Apply (head.Field k i) ss (r ∷ [])) rec.2 p in
      let whole_value : vr ≡ fields (vals rec.0) = same_Some vr (fields (vals rec.0)) (sym f ∙ rec.1) in
      ev-Field sig y num reduce choosing assigned k i ss r ∙ ap (λ w. field_at sig y num reduce choosing w i) (ih ∙ whole_value) ∙ ap
      (λ z. or_else z nothing) at.1
      ∙ one_value (Apply (head.Field k i) ss (r ∷ [])) at.0 v at.2 (n, a, e)

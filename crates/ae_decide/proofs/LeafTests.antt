-- The test of the values of names says `true` exactly where the second clause holds.
use Rattle.std.proofs.Common.{drop, get_or}
use Rattle.std.proofs.lemmas.List.{drop_more}
use Rattle.std.specs.Prelude.{ℕ, suc, ℤ, pos, ◌+◌, ◌<◌, ◌<ℤ◌, ◌^◌, Bool, true, false, cond, not, ◌&&◌, ◌||◌, nat_eq, int_lt, ◌≡◌, ◌≢◌, ◌↔◌, List, [], ◌∷◌, length, map, slice_get, unsigned_abs, Option, Some, None}
use Rattle.std.specs.List.{AllByRecursion, list_all, flat_map}
use Rattle.std.proofs.Common.{inl, inr}
use Rattle.std.proofs.lemmas.Bool.{and_parts, and_from, or_cases, or_left, not-true, eqb-true, eq-eqb, ltb-true, lt-ltb, and_right, or_right}
use Rattle.std.proofs.lemmas.List.Folds.{list_all-map}
use Rattle.std.proofs.lemmas.Option.{same_Some}
use Rattle.std.proofs.Math.Nat.{eq-one_of_dvd-one}
use Rattle.ae_base.proofs.Tests.{false_true}
use mathlib.Core.Path.{refl, sym, ap, subst, ◌∙◌}
use native.Mathlib.Omega.{arith}
use lib.IntN.{ℤ_discrete}
use Rattle.ae_base.specs.Options.{◌>>=◌, known}
use Rattle.ae_base.proofs.AllOf.{all_of_test, test_of_all, all_append, all_front, all_back, all_from_places, all_of_map}
use Rattle.ae_base.proofs.Decided.{decided_of, decided_yes, decided_no, decided_not}
use Rattle.ae_base.proofs.Integers.{positive_is, positive_of}
use Rattle.ae_base.proofs.ListFacts.{list_all_at}
use Rattle.ae_base.proofs.Options.{bind_some, never_some}
use Rattle.ae_core.specs.Decided.{Sort_discrete}
use Rattle.ae_core.specs.Sorts.{sort_of, same_sort, is_numeric, within}
use Rattle.ae_core.specs.declared.problems.Signature.{Signature}
use Rattle.ae_core.specs.declared.terms.Sort.{Sort, Int, Real}
use Rattle.ae_core.specs.declared.terms.Term.{Term, out-Term}
use Rattle.ae_math.specs.Fractions.{ℚ, zero_ℚ, one_ℚ, ratio}
use Rattle.ae_rules.specs.Lines.{IsNumeric}
use Rattle.ae_num.specs.Forms.{IsNormal, IsRising, IsCommonDivisor, sizes, meaning as form_of}
use Rattle.ae_num.specs.declared.forms.Lin.{Lin}
use Rattle.ae_num.specs.declared.forms.Part.{Part}
use Rattle.ae_num.specs.declared.forms.Value.{Value, Value-F, Leaf, Number, Fields, fold-roll-Value, ind-Value, map-Value, roll-Value, out-Value, roll-out-Value}
use Rattle.ae_num.specs.declared.forms.Value.TheOpen as layer
use Rattle.ae_num.specs.declared.forms.Value.TheVariants.{rolls-Leaf, rolls-Number, rolls-Fields}
use Rattle.ae_num.proofs.NormalLaws.{single_normal}
use Rattle.ae_journal.specs.Values.{Val, number, leaf, fields, once, vals, meaning, meaning_step, sum_of_lin}
use Rattle.ae_journal.specs.Systems.{AreOver, Has, IsLeaf, IsName, IsNormalValue, IsOver, IsPredicateName, forms_in, forms_step, own, record_fields, value_at}
use Rattle.ae_journal.specs.declared.systems.System.{System}
use Rattle.ae_decide.specs.Clauses.{HasTerms, HasLeaves}
use Rattle.ae_decide.specs.Inner.Decisions.{normal_decided}
use Rattle.ae_decide.specs.Leaves.{is_normal, normal_step, has_factor, is_after, are_rising, is_proper, is_normal_value, written_own, is_of_sort, has_sort, is_leaf, all_over, all_over_if, is_leaf_over, over_step, is_over, is_over_if, is_predicate, is_leaf_by, is_leaf_value, has_own_leaf, has_value, all_have_values}
use Rattle.ae_decide.specs.Values.{Value_discrete, place_from, value_of, same_known}
use Rattle.ae_decide.proofs.NameTests.{applied, predicate_applied}
use Rattle.ae_decide.proofs.NormalValues.{one_written, meaning-roll, forms-roll, spelled, fields_normal}
use Rattle.ae_decide.proofs.ValueTests.{AreNormal, place_is, value_is, written_at, implied, by_implied}

-- ---- the steps of the loops
pub rising_step : (ps : List Part) (i : ℕ) (d : Part) → i < length ps
    → are_rising (drop i ps) ≡ list_all (is_after (get_or ps i d).key) (drop (i + 1) ps) && are_rising (drop (i + 1) ps)
rising_step ps i d h = ap are_rising (drop_more ps i d h)

pub over_loop : (sig : Signature) (y : System) (vs : List Value) (ss : List Sort) (i : ℕ) (v : Value) (s : Sort) → i < length vs → length vs ≡ length ss
    → all_over (map (is_over sig y) (drop i vs)) (drop i ss)
    ≡ is_over sig y (get_or vs i v) (get_or ss i s) && all_over (map (is_over sig y) (drop (i + 1) vs)) (drop (i + 1) ss)
over_loop sig y vs ss i v s h e =
    λ j. all_over (map (is_over sig y) (drop_more vs i v h j)) (drop_more ss i s (let k : i < length ss = omega (arith, h, e) in k) j)

pub over_lengths : (sig : Signature) (y : System) (vs : List Value) (ss : List Sort) → length vs ≢ length ss → all_over (map (is_over sig y) vs) ss ≡ false
over_lengths sig y [] [] n = absurd (n refl)
over_lengths sig y [] (s ∷ ss) n = refl
over_lengths sig y (v ∷ vs) [] n = refl
over_lengths sig y (v ∷ vs) (s ∷ ss) n =
    and_right (is_over sig y v s) (all_over (map (is_over sig y) vs) ss) (over_lengths sig y vs ss (λ e. n (ap suc e)))

-- ---- what the tests give at each variant
normal-roll : (x : Value-F Value) → is_normal_value (roll-Value x) ≡ normal_step (map-Value Value Bool is_normal_value x)
unfolding is_normal_value
normal-roll x = fold-roll-Value Bool normal_step x

pub normal-Leaf : (n : ℕ) → is_normal_value (Leaf n) ≡ true
normal-Leaf n = ap is_normal_value (sym (rolls-Leaf n)) ∙ normal-roll (layer.Leaf n)

pub normal-Number : (f : Lin) → is_normal_value (Number f) ≡ is_normal f
normal-Number f = ap is_normal_value (sym (rolls-Number f)) ∙ normal-roll (layer.Number f)

pub normal-Fields : (vs : List Value) → is_normal_value (Fields vs) ≡ list_all is_normal_value vs
normal-Fields vs = ap is_normal_value (sym (rolls-Fields vs)) ∙ normal-roll (layer.Fields vs) ∙ list_all-map (λ b. b) is_normal_value vs

pub ruleset normal_rules = (normal-Leaf, normal-Number, normal-Fields)

over-roll : (sig : Signature) (y : System) (x : Value-F Value) → is_over sig y (roll-Value x) ≡ over_step sig y (map-Value Value (Sort → Bool) (is_over sig y) x)
unfolding is_over
over-roll sig y x = fold-roll-Value (Sort → Bool) (over_step sig y) x

pub over-Leaf : (sig : Signature) (y : System) (n : ℕ) (s : Sort) → is_over sig y (Leaf n) s ≡ is_leaf_over sig y s n
over-Leaf sig y n s = ap (λ v. is_over sig y v s) (sym (rolls-Leaf n)) ∙ ap (λ f. f s) (over-roll sig y (layer.Leaf n))

pub over-Number : (sig : Signature) (y : System) (f : Lin) (s : Sort) → is_over sig y (Number f) s ≡ is_numeric s && list_all (λ p. is_leaf sig y s p.key) f.parts
over-Number sig y f s = ap (λ v. is_over sig y v s) (sym (rolls-Number f)) ∙ ap (λ g. g s) (over-roll sig y (layer.Number f))

pub over-Fields : (sig : Signature) (y : System) (vs : List Value) (s : Sort) → is_over sig y (Fields vs) s ≡ all_over_if (map (is_over sig y) vs) (record_fields sig s)
over-Fields sig y vs s = ap (λ v. is_over sig y v s) (sym (rolls-Fields vs)) ∙ ap (λ g. g s) (over-roll sig y (layer.Fields vs))

pub ruleset over_rules = (over-Leaf, over-Number, over-Fields)

-- ---- normal forms
record Proper (f : Lin) : Type 0 where
  positive : pos 0 <ℤ f.den
  rising : IsRising f.parts
  nonzero : AllByRecursion (λ (p : Part). p.factor ≢ pos 0) f.parts
  within_limits : AllByRecursion (λ n. n < 2 ^ 127) (sizes f.den f.parts f.constant)

is_within : (z : ℤ) → within z ≡ true → unsigned_abs z < 2 ^ 127
is_within z e = ltb-true (unsigned_abs z) (2 ^ 127) e

of_within : (z : ℤ) → unsigned_abs z < 2 ^ 127 → within z ≡ true
of_within z h = lt-ltb (unsigned_abs z) (2 ^ 127) h

rises_by : (ps : List Part) → are_rising ps ≡ true → IsRising ps
rises_by [] e = tt
rises_by (p ∷ ps) e =
    let q = and_parts (list_all (is_after p.key) ps) (are_rising ps) e in
    (all_of_test (is_after p.key) (λ r. p.key < r.key) (λ r h. ltb-true p.key r.key h) ps q.0, rises_by ps q.1)

by_rising : (ps : List Part) → IsRising ps → are_rising ps ≡ true
by_rising [] r = refl
by_rising (p ∷ ps) r =
    and_from _ _ (test_of_all (λ q. p.key < q.key) (is_after p.key) (λ q h. lt-ltb p.key q.key h) ps r.0) (by_rising ps r.1)

proper_of : (f : Lin) → is_proper f ≡ true → Proper f
proper_of f e =
    let a = int_lt (pos 0) f.den in
    let b = within f.den in
    let c = within f.constant in
    let d = list_all has_factor f.parts in
    let p = and_parts (a && b && c && d) (are_rising f.parts) e in
    let q = and_parts (a && b && c) d p.0 in
    let r = and_parts (a && b) c q.0 in
    let t = and_parts a b r.0 in
    record {
      positive = positive_is f.den t.0;
      rising = rises_by f.parts p.1;
      nonzero = all_of_test has_factor (λ x. x.factor ≢ pos 0) (λ x h. decided_no (ℤ_discrete x.factor (pos 0)) (not-true _ (and_parts (within x.factor) _ h).1)) f.parts q.1;
      within_limits = (
        is_within f.den t.1,
        (
          is_within f.constant r.1,
          all_of_map (λ n. n < 2 ^ 127) (λ (x : Part). unsigned_abs x.factor) f.parts
              (all_of_test has_factor (λ x. unsigned_abs x.factor < 2 ^ 127) (λ x h. is_within x.factor (and_parts (within x.factor) _ h).0) f.parts q.1),
        ),
      );
    }

by_proper : (f : Lin) → IsNormal f → is_proper f ≡ true
by_proper f n =
    and_from _ _ (and_from _ _ (and_from _ _ (and_from _ _ (positive_of f.den n.positive) (of_within f.den n.within.0)) (of_within f.constant n.within.1.0))
    (factors f.parts n.nonzero n.within.1.1)) (by_rising f.parts n.rising)
  where
    factors : (ps : List Part) → AllByRecursion (λ (p : Part). p.factor ≢ pos 0) ps → AllByRecursion (λ n. n < 2 ^ 127) (map (λ (p : Part). unsigned_abs p.factor) ps) → list_all has_factor ps ≡ true
    factors [] a b = refl
    factors (p ∷ ps) a b =
        and_from _ _ (and_from _ _ (of_within p.factor b.0) (ap not (decided_not (ℤ_discrete p.factor (pos 0)) a.0))) (factors ps a.1 b.1)

pub proper_within : (f : Lin) → is_proper f ≡ true → AllByRecursion (λ n. n < 2 ^ 127) (sizes f.den f.parts f.constant)
proper_within f e = (proper_of f e).within_limits

pub proper_positive : (f : Lin) → is_proper f ≡ true → pos 0 <ℤ f.den
proper_positive f e = (proper_of f e).positive

pub not_proper : (f : Lin) → is_proper f ≡ false → is_normal f ≡ false
not_proper f e = decided_not (normal_decided f) (λ n. false_true (sym e ∙ by_proper f n))

pub lowest_normal : (f : Lin) (r : Bool) → is_proper f ≡ true → ((r ≡ true) ↔ IsCommonDivisor (sizes f.den f.parts f.constant) 1) → r ≡ is_normal f
lowest_normal f true e h =
    let p = proper_of f e in
    sym (decided_of (normal_decided f) (record { positive = p.positive; rising = p.rising; nonzero = p.nonzero; lowest = h.0 refl; within = p.within_limits }))
lowest_normal f false e h = sym (decided_not (normal_decided f) (λ n. false_true (h.1 n.lowest)))

pub lowest_by : (ns : List ℕ) (g n : ℕ) → IsCommonDivisor ns g → n ≡ g → (nat_eq n 1 ≡ true) ↔ IsCommonDivisor ns 1
lowest_by ns g n c e = (λ t. subst (IsCommonDivisor ns) (sym e ∙ eqb-true n 1 t) c, λ d. eq-eqb n 1 (e ∙ eq-one_of_dvd-one (d.1 g c.0)))

-- ---- normal values
abbrev IsTested : Value → Type 0
IsTested v = (is_normal_value v ≡ true) ↔ IsNormalValue v

fields_tested : (ys : List ((v : Value) × IsTested v))
    → (list_all (λ b. b) (map is_normal_value (map {A = (v : Value) × IsTested v} (λ e. e.0) ys)) ≡ true)
    ↔ AllByRecursion IsNormal (flat_map (λ l. l) (map forms_in (map {A = (v : Value) × IsTested v} (λ e. e.0) ys)))
fields_tested [] = (λ e. tt, λ a. refl)
fields_tested (w ∷ ys) =
    let rest = map {A = (v : Value) × IsTested v} (λ e. e.0) ys in
    let r = fields_tested ys in (
      λ e. let p = and_parts (is_normal_value w.0) (list_all (λ b. b) (map is_normal_value rest)) e in
          all_append IsNormal (forms_in w.0) (flat_map (λ l. l) (map forms_in rest)) (w.1.0 p.0) (r.0 p.1),
      λ a. and_from (is_normal_value w.0) (list_all (λ b. b) (map is_normal_value rest)) (w.1.1 (all_front IsNormal (forms_in w.0) (flat_map (λ l. l) (map forms_in rest)) a))
          (r.1 (all_back IsNormal (forms_in w.0) (flat_map (λ l. l) (map forms_in rest)) a)),
    )

tested_case : (x : Value-F ((v : Value) × IsTested v)) → IsTested (roll-Value (map-Value ((v : Value) × IsTested v) Value (λ e. e.0) x))
tested_case x =
    let z = map-Value ((v : Value) × IsTested v) Value (λ e. e.0) x in (
      λ e. subst (AllByRecursion IsNormal) (sym (forms-roll z)) ((told x).0 (sym (normal-roll z) ∙ e)),
      λ a. normal-roll z ∙ (told x).1 (subst (AllByRecursion IsNormal) (forms-roll z) a),
    )
  where
    told : (x : Value-F ((v : Value) × IsTested v))
        → (normal_step (map-Value Value Bool is_normal_value (map-Value ((v : Value) × IsTested v) Value (λ e. e.0) x)) ≡ true)
        ↔ AllByRecursion IsNormal (forms_step (map-Value Value (List Lin) forms_in (map-Value ((v : Value) × IsTested v) Value (λ e. e.0) x)))
    told (layer.Leaf n) = (λ e. tt, λ a. refl)
    told (layer.Number f) = (λ e. (decided_yes (normal_decided f) e, tt), λ a. decided_of (normal_decided f) a.0)
    told (layer.Fields ys) = fields_tested ys

normal_tested : (v : Value) → IsTested v
normal_tested = ind-Value IsTested (λ x y e. subst (λ z. IsTested (roll-Value z)) e (tested_case y))

-- ---- the meaning of a name as its own value
numeric_by : (s : Sort) → is_numeric s ≡ true → IsNumeric s
numeric_by s e = elim (or_cases (same_sort s Int) (same_sort s Real) e) [
  | inl i ↦ inl (decided_yes (Sort_discrete s Int) i)
  | inr r ↦ inr (decided_yes (Sort_discrete s Real) r)
]

by_numeric : (s : Sort) → IsNumeric s → is_numeric s ≡ true
by_numeric s (inl e) = or_left (same_sort s Int) (same_sort s Real) (decided_of (Sort_discrete s Int) e)
by_numeric s (inr e) = or_right (same_sort s Int) (same_sort s Real) (decided_of (Sort_discrete s Real) e)

abbrev itself : ℕ → Lin
itself n = record { den = pos 1; parts = record { key = n; factor = pos 1 } ∷ []; constant = pos 0 }

normal_itself : (n : ℕ) → IsNormal (itself n)
normal_itself n = single_normal (itself n) n refl

meaning-Leaf : (n : ℕ) → meaning (Leaf n) ≡ leaf n
meaning-Leaf n = ap meaning (sym (rolls-Leaf n)) ∙ meaning-roll (layer.Leaf n)

form_itself : (n : ℕ) → number (form_of (itself n)) ≡ once n
unfolding one_ℚ zero_ℚ
form_itself n = refl

meaning-itself : (n : ℕ) → meaning (Number (itself n)) ≡ once n
meaning-itself n =
    ap meaning (sym (rolls-Number (itself n))) ∙ meaning-roll (layer.Number (itself n)) ∙ ap number (spelled (itself n) (normal_itself n)) ∙ form_itself n

meaning_own : (s : Sort) (n : ℕ) → meaning (written_own s n) ≡ own s n
meaning_own s n = go (is_numeric s)
  where
    go : (b : Bool) → meaning (cond b (Number (itself n)) (Leaf n)) ≡ cond b (once n) (leaf n)
    go true = meaning-itself n
    go false = meaning-Leaf n

normal_own : (s : Sort) (n : ℕ) → IsNormalValue (written_own s n)
normal_own s n = (normal_tested (written_own s n)).0 (go (is_numeric s))
  where
    go : (b : Bool) → is_normal_value (cond b (Number (itself n)) (Leaf n)) ≡ true
    go true = normal-Number (itself n) ∙ decided_of (normal_decided (itself n)) (normal_itself n)
    go false = normal-Leaf n

module _ (sig : Signature) (y : System) where
  -- ---- sorts
  pub is_sort : (o : Option Sort) (s : Sort) → is_of_sort o s ≡ true → o ≡ Some s
  is_sort (Some t) s e = ap (λ (z : Sort). Some z) (decided_yes (Sort_discrete t s) e)
  is_sort None s e = absurd (cc)

  pub of_sort : (o : Option Sort) (s : Sort) → o ≡ Some s → is_of_sort o s ≡ true
  of_sort o s e = ap (λ o. is_of_sort o s) e ∙ decided_of (Sort_discrete s s) refl

  pub sort_told : (o : Option Term) (s : Sort) → has_sort sig o s ≡ true → (t : Term) × (o ≡ Some t) × (sort_of sig t ≡ Some s)
  sort_told (Some t) s e = (t, refl, is_sort (sort_of sig t) s e)
  sort_told None s e = absurd (cc)

  pub by_sort : (o : Option Term) (s : Sort) (t : Term) → o ≡ Some t → sort_of sig t ≡ Some s → has_sort sig o s ≡ true
  by_sort o s t e g = ap (λ o. has_sort sig o s) e ∙ of_sort (sort_of sig t) s g

  pub known_is : (o : Option Value) (v : Value) → same_known o (Some v) ≡ true → o ≡ Some v
  known_is (Some w) v e = ap (λ (x : Value). Some x) (decided_yes (Value_discrete w v) e)
  known_is None v e = absurd (cc)

  pub by_known : (o : Option Value) (v : Value) → o ≡ Some v → same_known o (Some v) ≡ true
  by_known o v e = ap (λ o. same_known o (Some v)) e ∙ decided_of (Value_discrete v v) refl

  -- ---- leaves
  leaf_by : (s : Sort) (n : ℕ) → is_leaf sig y s n ≡ true → IsLeaf sig y s n
  leaf_by s n e =
      let p = and_parts (has_sort sig (slice_get y.names n) s) (same_known (slice_get y.values n) (Some (written_own s n))) e in
      let (t, i, o) = sort_told (slice_get y.names n) s p.0 in
      record {
        term = t;
        is = i;
        sort = o;
        value = written_at y n (written_own s n) (known_is (slice_get y.values n) (written_own s n) p.1) ∙ ap (λ (v : Val). Some v) (meaning_own s n);
      }

  by_leaf : AreNormal y → (s : Sort) (n : ℕ) → IsLeaf sig y s n → is_leaf sig y s n ≡ true
  by_leaf normal s n h =
      let (w, e, g) = bind_some (slice_get y.values n) (λ w. Some (meaning w)) (own s n) h.value in
      let m = same_Some (meaning w) (own s n) g in
      and_from (has_sort sig (slice_get y.names n) s) _ (by_sort (slice_get y.names n) s h.term h.is h.sort)
      (by_known (slice_get y.values n) (written_own s n)
      (e ∙ ap (λ (x : Value). Some x) (one_written w (written_own s n) (normal n w e) (normal_own s n) (m ∙ sym (meaning_own s n)))))

  -- ---- values over leaves
  module _ (normal : AreNormal y) where
    abbrev IsToldOver : Value → Type 0
    IsToldOver v = IsNormalValue v → (s : Sort) → (is_over sig y v s ≡ true) ↔ IsOver sig y s (meaning v)

    absent : (o : Option (List Sort)) → not (known o) ≡ true → o ≡ None
    absent (Some ss) e = absurd (cc)
    absent None e = refl

    over_leaf : (s : Sort) (n : ℕ) → (is_leaf_over sig y s n ≡ true) ↔ IsOver sig y s (leaf n)
    over_leaf s n =
        let b = not (is_numeric s) in
        let c = not (known (record_fields sig s)) in (
          λ e. let p = and_parts (b && c) (is_leaf sig y s n) e in
              let q = and_parts b c p.0 in
              (not-true (is_numeric s) q.0, absent (record_fields sig s) q.1, leaf_by s n p.1),
          λ (d, e, l). and_from (b && c) (is_leaf sig y s n) (and_from b c (ap not d) (ap (λ o. not (known o)) e)) (by_leaf normal s n l),
        )

    over_parts : (s : Sort) (d : ℤ) (ps : List Part)
        → (list_all (λ p. is_leaf sig y s p.key) ps ≡ true) ↔ AllByRecursion {X = ℕ × ℚ} (λ p. IsLeaf sig y s p.0) (map (λ (p : Part). (p.key, ratio p.factor d)) ps)
    over_parts s d [] = (λ e. tt, λ a. refl)
    over_parts s d (p ∷ ps) =
        let r = over_parts s d ps in (
          λ e. let q = and_parts (is_leaf sig y s p.key) (list_all (λ p. is_leaf sig y s p.key) ps) e in (leaf_by s p.key q.0, r.0 q.1),
          λ (a : IsLeaf sig y s p.key × AllByRecursion {X = ℕ × ℚ} (λ q. IsLeaf sig y s q.0) (map (λ (p : Part). (p.key, ratio p.factor d)) ps)).
              and_from (is_leaf sig y s p.key) (list_all (λ p. is_leaf sig y s p.key) ps) (by_leaf normal s p.key a.0) (r.1 a.1),
        )

    over_number : (s : Sort) (f : Lin) → IsNormal f
        → (is_numeric s && list_all (λ p. is_leaf sig y s p.key) f.parts ≡ true) ↔ IsOver sig y s (number (sum_of_lin f))
    over_number s f n =
        let r = over_parts s f.den f.parts in
        let same = spelled f n in (
          λ e. let q = and_parts (is_numeric s) (list_all (λ p. is_leaf sig y s p.key) f.parts) e in
              subst (λ g. IsOver sig y s (number g)) (sym same) (numeric_by s q.0, r.0 q.1),
          λ o. let a = subst (λ g. IsOver sig y s (number g)) same o in
              and_from (is_numeric s) (list_all (λ p. is_leaf sig y s p.key) f.parts) (by_numeric s a.0) (r.1 a.1),
        )

    over_lists : (ys : List ((v : Value) × IsToldOver v)) → AllByRecursion IsNormalValue (map {A = (v : Value) × IsToldOver v} (λ e. e.0) ys) → (ss : List Sort)
        → (all_over (map (is_over sig y) (map {A = (v : Value) × IsToldOver v} (λ e. e.0) ys)) ss ≡ true)
        ↔ AreOver sig y ss (vals (map meaning (map {A = (v : Value) × IsToldOver v} (λ e. e.0) ys)))
    over_lists [] n [] = (λ e. tt, λ a. refl)
    over_lists [] n (s ∷ ss) = (λ e. absurd (cc), λ a. absurd a)
    over_lists (w ∷ ys) n [] = (λ e. absurd (cc), λ a. absurd a)
    over_lists (w ∷ ys) n (s ∷ ss) =
        let rest = map {A = (v : Value) × IsToldOver v} (λ e. e.0) ys in
        let r = over_lists ys n.1 ss in
        let h = w.1 n.0 s in (
          λ e. let p = and_parts (is_over sig y w.0 s) (all_over (map (is_over sig y) rest) ss) e in (h.0 p.0, r.0 p.1),
          λ a. and_from (is_over sig y w.0 s) (all_over (map (is_over sig y) rest) ss) (h.1 a.0) (r.1 a.1),
        )

    over_fields : (ys : List ((v : Value) × IsToldOver v)) → AllByRecursion IsNormalValue (map {A = (v : Value) × IsToldOver v} (λ e. e.0) ys) → (s : Sort)
        → (all_over_if (map (is_over sig y) (map {A = (v : Value) × IsToldOver v} (λ e. e.0) ys)) (record_fields sig s) ≡ true)
        ↔ IsOver sig y s (fields (vals (map meaning (map {A = (v : Value) × IsToldOver v} (λ e. e.0) ys))))
    over_fields ys n s = go (record_fields sig s) refl
      where
        vs : List Value
        vs = map {A = (v : Value) × IsToldOver v} (λ e. e.0) ys

        go : (o : Option (List Sort)) → record_fields sig s ≡ o → (all_over_if (map (is_over sig y) vs) o ≡ true) ↔ IsOver sig y s (fields (vals (map meaning vs)))
        go (Some ss) e = (
          λ f. (ss, e, (over_lists ys n ss).0 f),
          λ (rs, g, a). (over_lists ys n ss).1 (subst (λ z. AreOver sig y z (vals (map meaning vs))) (same_Some rs ss (sym g ∙ e)) a),
        )
        go None e = (λ f. absurd (cc), λ (rs, g, a). absurd (never_some rs (sym e ∙ g)))

    over_case : (x : Value-F ((v : Value) × IsToldOver v)) → IsToldOver (roll-Value (map-Value ((v : Value) × IsToldOver v) Value (λ e. e.0) x))
    over_case x n s =
        let z = map-Value ((v : Value) × IsToldOver v) Value (λ e. e.0) x in (
          λ e. subst (IsOver sig y s) (sym (meaning-roll z)) ((told x n).0 (sym (ap (λ f. f s) (over-roll sig y z)) ∙ e)),
          λ o. ap (λ f. f s) (over-roll sig y z) ∙ (told x n).1 (subst (IsOver sig y s) (meaning-roll z) o),
        )
      where
        told : (x : Value-F ((v : Value) × IsToldOver v)) → IsNormalValue (roll-Value (map-Value ((v : Value) × IsToldOver v) Value (λ e. e.0) x))
            → (over_step sig y (map-Value Value (Sort → Bool) (is_over sig y) (map-Value ((v : Value) × IsToldOver v) Value (λ e. e.0) x)) s ≡ true)
            ↔ IsOver sig y s (meaning_step (map-Value Value Val meaning (map-Value ((v : Value) × IsToldOver v) Value (λ e. e.0) x)))
        told (layer.Leaf k) n = over_leaf s k
        told (layer.Number f) n = over_number s f (subst (AllByRecursion IsNormal) (forms-roll (layer.Number f)) n).0
        told (layer.Fields ys) n = over_fields ys (fields_normal (map {A = (v : Value) × IsToldOver v} (λ e. e.0) ys) n) s

    over_tested : (v : Value) → IsToldOver v
    over_tested = ind-Value IsToldOver (λ x y e. subst (λ z. IsToldOver (roll-Value z)) e (over_case y))

  -- ---- leaves of predicates
  leaf_told : (n : ℕ) (o : Option Value) → is_leaf_value n o ≡ true → (o >>= λ v. Some (meaning v)) ≡ Some (leaf n)
  leaf_told n None e = absurd (cc)
  leaf_told n (Some v) e = by_layer (out-Value v) refl e
    where
      by_layer : (l : Value-F Value) → out-Value v ≡ l → is_leaf_by n l ≡ true → Some (meaning v) ≡ Some (leaf n)
      by_layer (layer.Leaf k) o e =
          ap (λ w. Some (meaning w)) (sym (roll-out-Value v) ∙ ap roll-Value o) ∙ ap (λ (w : Val). Some w) (meaning-roll (layer.Leaf k) ∙ ap leaf (eqb-true k n e))
      by_layer (layer.Number f) o e = absurd (cc)
      by_layer (layer.Fields vs) o e = absurd (cc)

  by_leaf_value : (n : ℕ) (v : Value) → meaning v ≡ leaf n → is_leaf_by n (out-Value v) ≡ true
  by_leaf_value n v e = by_layer (out-Value v) refl
    where
      by_layer : (l : Value-F Value) → out-Value v ≡ l → is_leaf_by n l ≡ true
      by_layer l o = told l (sym (meaning-roll l) ∙ ap meaning (sym (sym (roll-out-Value v) ∙ ap roll-Value o)) ∙ e)
        where
          told : (l : Value-F Value) → meaning_step (map-Value Value Val meaning l) ≡ leaf n → is_leaf_by n l ≡ true
          told (layer.Leaf k) e = let z : k ≡ n = cc in eq-eqb k n z
          told (layer.Number f) e = absurd (cc)
          told (layer.Fields vs) e = absurd (cc)

  -- ---- the clause
  module _ (terms : HasTerms sig y) where
    leaves_of : all_have_values sig y ≡ true → HasLeaves sig y
    leaves_of e = record { normal = normal; over = over; predicate_value = predicate }
      where
        parts : (list_all is_normal_value y.values ≡ true) × (list_all (has_value sig y) y.names ≡ true)
        parts = and_parts (list_all is_normal_value y.values) (list_all (has_value sig y) y.names) e

        normal : AreNormal y
        normal n v i = (normal_tested v).0 (list_all_at is_normal_value y.values n v parts.0 i)

        at : (n : ℕ) (t : Term) → IsName y n t → (is_over_if sig y (value_of y t) (sort_of sig t) ≡ true) × (not (is_predicate sig t) || has_own_leaf y (place_from 0 y.names t) ≡ true)
        at n t i = and_parts _ _ (list_all_at (has_value sig y) y.names n t parts.1 i)

        over : (s : Sort) (v : Val) (n : ℕ) → Has sig y s v n → IsOver sig y s v
        over s v n h =
            let (w, f, g) = bind_some (slice_get y.values n) (λ w. Some (meaning w)) v h.value in
            let m = same_Some (meaning w) v g in
            subst (IsOver sig y s) m
            ((over_tested normal w (normal n w f) s).0
            ((λ i. is_over_if sig y ((sym (value_is y terms.apart n h.term h.is ∙ f)) i) (sym h.sort i)) ∙ (at n h.term h.is).0))

        predicate : (n : ℕ) (t : Term) → IsName y n t → IsPredicateName sig t → value_at y n ≡ Some (leaf n)
        predicate n t i q =
            leaf_told n (slice_get y.values n)
            (sym (ap (has_own_leaf y) (place_is y terms.apart n t i))
            ∙ by_implied (is_predicate sig t) (has_own_leaf y (place_from 0 y.names t)) (at n t i).1 (predicate_applied sig t q))

    of_leaves : HasLeaves sig y → all_have_values sig y ≡ true
    of_leaves l =
        and_from (list_all is_normal_value y.values) (list_all (has_value sig y) y.names)
        (test_of_all (λ v. is_normal_value v ≡ true) is_normal_value (λ v q. q) y.values
        (all_from_places (λ v. is_normal_value v ≡ true) y.values (λ n v i. (normal_tested v).1 (l.normal n v i))))
        (test_of_all (λ t. has_value sig y t ≡ true) (has_value sig y) (λ t q. q) y.names
        (all_from_places (λ t. has_value sig y t ≡ true) y.names
        (λ n t i. and_from _ _ (its_over n t i (sort_of sig t) refl) (implied (is_predicate sig t) (has_own_leaf y (place_from 0 y.names t)) (its_leaf n t i)))))
      where
        its_over : (n : ℕ) (t : Term) → IsName y n t → (o : Option Sort) → sort_of sig t ≡ o → is_over_if sig y (value_of y t) o ≡ true
        its_over n t i o e = by_value (value_of y t) o (value_is y terms.apart n t i) e
          where
            by_value : (p : Option Value) (o : Option Sort) → p ≡ slice_get y.values n → sort_of sig t ≡ o → is_over_if sig y p o ≡ true
            by_value None o f e = refl
            by_value (Some w) None f e = refl
            by_value (Some w) (Some s) f e =
                (over_tested l.normal w (l.normal n w (sym f)) s).1
                (l.over s (meaning w) n (record { term = t; is = i; sort = e; value = written_at y n w (sym f) }))

        its_leaf : (n : ℕ) (t : Term) → IsName y n t → is_predicate sig t ≡ true → has_own_leaf y (place_from 0 y.names t) ≡ true
        its_leaf n t i a =
            let (w, f, g) = bind_some (slice_get y.values n) (λ w. Some (meaning w)) (leaf n) (l.predicate_value n t i (applied sig t (out-Term t) refl a)) in
            ap (has_own_leaf y) (place_is y terms.apart n t i) ∙ ap (is_leaf_value n) f ∙ by_leaf_value n w (same_Some (meaning w) (leaf n) g)

    pub leaves_tested : (b : Bool) → b ≡ all_have_values sig y → (b ≡ true) ↔ HasLeaves sig y
    leaves_tested b e = (λ t. leaves_of (sym e ∙ t), λ c. e ∙ of_leaves c)

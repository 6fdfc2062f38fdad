-- The test of the values of records says `true` exactly where the fourth clause holds.
use Rattle.std.proofs.Common.{drop, get_or}
use Rattle.std.proofs.lemmas.List.{drop_more}
use Rattle.std.specs.Prelude.{ℕ, suc, ◌+◌, ◌<◌, Bool, true, false, ◌&&◌, nat_eq, ◌≡◌, ◌≢◌, ◌↔◌, List, [], ◌∷◌, length, map, slice_get, Option, Some, None}
use Rattle.std.specs.List.{AllByRecursion}
use Rattle.std.proofs.lemmas.Bool.{and_parts, and_from, eqb-true, eq-eqb, and_right}
use Rattle.std.proofs.lemmas.Option.{same_Some}
use mathlib.Core.Path.{refl, sym, ap, subst, ◌∙◌}
use native.Mathlib.Omega.{arith}
use Rattle.ae_base.specs.Options.{◌>>=◌, only}
use Rattle.ae_base.proofs.AllOf.{test_of_all, all_from_places, all_at}
use Rattle.ae_base.proofs.Decided.{decided_of, decided_yes}
use Rattle.ae_base.proofs.ListFacts.{list_all_at}
use Rattle.ae_base.proofs.Options.{bind_some, never_some}
use Rattle.ae_core.specs.Decided.{Sorts_discrete}
use Rattle.ae_core.specs.Sorts.{sort_of, same_sorts}
use Rattle.ae_core.specs.declared.problems.Signature.{Signature}
use Rattle.ae_core.specs.declared.terms.Head.TheVariants as head
use Rattle.ae_core.specs.declared.terms.Sort.{Sort}
use Rattle.ae_core.specs.declared.terms.Term.{Term, Term-F, Apply, out-Term}
use Rattle.ae_core.specs.declared.terms.Term.TheOpen as layer
use Rattle.ae_core.specs.declared.terms.Term.TheVariants.{outs-Apply}
use Rattle.ae_num.specs.declared.forms.Value.{Value, Value-F, map-Value, roll-Value, out-Value, roll-out-Value}
use Rattle.ae_num.specs.declared.forms.Value.TheOpen as value_layer
use Rattle.ae_journal.specs.Values.{Val, fields, vals, meaning, meaning_step}
use Rattle.ae_journal.specs.Systems.{IsName, IsNamed, IsNormalValue, ValuesOf, value_at, record_fields, field_terms}
use Rattle.ae_journal.specs.declared.systems.System.{System}
use Rattle.ae_decide.specs.Clauses.{HasTerms, HasLeaves, HasRecords}
use Rattle.ae_decide.specs.Records.{are_written, is_record_by, is_record, fields_at, fields_of, is_record_if, has_fields, argument_at, taken_by, taken, alike_if, has_taken, all_records}
use Rattle.ae_decide.specs.Values.{Value_discrete, value_of, same_known}
use Rattle.ae_decide.proofs.NameTests.{is_application}
use Rattle.ae_decide.proofs.NormalValues.{one_written, meaning-roll, fields_normal}
use Rattle.ae_decide.proofs.ValueTests.{value_here, value_is, has_written, written_at, of_written, written_of, normal_at, alike_of, of_alike}

-- ---- the steps of the loops
pub written_step : (y : System) (ts : List Term) (vs : List Value) (i : ℕ) (d : Term) (w : Value) → i < length ts → length ts ≡ length vs
    → are_written y (drop i ts) (drop i vs) ≡ same_known (value_of y (get_or ts i d)) (Some (get_or vs i w)) && are_written y (drop (i + 1) ts) (drop (i + 1) vs)
written_step y ts vs i d w h e = λ j. are_written y (drop_more ts i d h j) (drop_more vs i w (let k : i < length vs = omega (arith, h, e) in k) j)

pub written_lengths : (y : System) (ts : List Term) (vs : List Value) → length ts ≢ length vs → are_written y ts vs ≡ false
written_lengths y [] [] n = absurd (n refl)
written_lengths y [] (v ∷ vs) n = refl
written_lengths y (t ∷ ts) [] n = refl
written_lengths y (t ∷ ts) (v ∷ vs) n = and_right (same_known (value_of y t) (Some v)) (are_written y ts vs) (written_lengths y ts vs (λ e. n (ap suc e)))

module _ (y : System) (apart : (m n : ℕ) (t : Term) → IsName y m t → IsName y n t → m ≡ n) where
  -- ---- the values of fields
  known_same : (o : Option Value) (v : Value) → same_known o (Some v) ≡ true → o ≡ Some v
  known_same (Some w) v e = ap (λ (x : Value). Some x) (decided_yes (Value_discrete w v) e)
  known_same None v e = absurd (cc)

  same_of : (o : Option Value) (v : Value) → o ≡ Some v → same_known o (Some v) ≡ true
  same_of o v e = ap (λ o. same_known o (Some v)) e ∙ decided_of (Value_discrete v v) refl

  written_values : (ts : List Term) (vs : List Value) → are_written y ts vs ≡ true → ValuesOf y ts (map meaning vs)
  written_values [] [] e = tt
  written_values [] (v ∷ vs) e = absurd (cc)
  written_values (t ∷ ts) [] e = absurd (cc)
  written_values (t ∷ ts) (v ∷ vs) e =
      let p = and_parts (same_known (value_of y t) (Some v)) (are_written y ts vs) e in
      (of_written y apart t v (known_same (value_of y t) v p.0), written_values ts vs p.1)

  values_written : ((n : ℕ) (v : Value) → slice_get y.values n ≡ Some v → IsNormalValue v) → (ts : List Term) (ws : List Val) (vs : List Value)
      → ValuesOf y ts ws → vals (map meaning vs) ≡ vals ws → AllByRecursion IsNormalValue vs → are_written y ts vs ≡ true
  values_written normal [] [] [] a e n = refl
  values_written normal [] [] (v ∷ vs) a e n = absurd (cc)
  values_written normal [] (w ∷ ws) vs a e n = absurd a
  values_written normal (t ∷ ts) [] vs a e n = absurd a
  values_written normal (t ∷ ts) (w ∷ ws) [] a e n = absurd (cc)
  values_written normal (t ∷ ts) (w ∷ ws) (v ∷ vs) a e n =
      let p : meaning v ≡ w = cc in
      let q : vals (map meaning vs) ≡ vals ws = cc in
      let (x, f, g) = written_of y apart t w a.0 in
      and_from _ _ (same_of (value_of y t) v (f ∙ ap (λ (z : Value). Some z) (one_written x v (normal_at y apart normal t x f) n.0 (g ∙ sym p))))
      (values_written normal ts ws vs a.1 q n.1)

module _ (sig : Signature) (y : System) (terms : HasTerms sig y) (leaves : HasLeaves sig y) where
  fields_are : (t : Term) (s : Sort) (ss : List Sort) → sort_of sig t ≡ Some s → record_fields sig s ≡ Some ss
      → fields_of sig t ≡ Some (field_terms s t (length ss))
  fields_are t s ss e g =
      ap (λ (o : Option Sort). o >>= fields_at sig t) e ∙ ap (λ (o : Option (List Sort)). o >>= λ ss. Some (field_terms s t (length ss))) g

  -- ---- records
  record_by : (n : ℕ) (t : Term) (ts : List Term) → IsName y n t → is_record y ts (value_of y t) ≡ true
      → (vs : List Val) × (value_at y n ≡ Some (fields (vals vs))) × ValuesOf y ts vs
  record_by n t ts i e = go (value_of y t) refl e
    where
      told : (w : Value) (l : Value-F Value) → out-Value w ≡ l → value_of y t ≡ Some w → is_record_by y ts l ≡ true
          → (vs : List Val) × (value_at y n ≡ Some (fields (vals vs))) × ValuesOf y ts vs
      told w (value_layer.Fields vs) o f g =
          let m : meaning w ≡ fields (vals (map meaning vs)) = ap meaning (sym (roll-out-Value w) ∙ ap roll-Value o) ∙ meaning-roll (value_layer.Fields vs) in (
            map meaning vs,
            written_at y n w (sym (value_is y terms.apart n t i) ∙ f) ∙ ap (λ (v : Val). Some v) m,
            written_values y terms.apart ts vs g,
          )
      told w (value_layer.Leaf k) o f g = absurd (cc)
      told w (value_layer.Number k) o f g = absurd (cc)

      go : (o : Option Value) → value_of y t ≡ o → is_record y ts o ≡ true → (vs : List Val) × (value_at y n ≡ Some (fields (vals vs))) × ValuesOf y ts vs
      go (Some w) f g = told w (out-Value w) refl f g
      go None f g = absurd (cc)

  by_record : (n : ℕ) (t : Term) (ts : List Term) (vs : List Val) → IsName y n t → value_at y n ≡ Some (fields (vals vs)) → ValuesOf y ts vs
      → is_record y ts (value_of y t) ≡ true
  by_record n t ts vs i e a =
      let (w, f, g) = bind_some (slice_get y.values n) (λ w. Some (meaning w)) (fields (vals vs)) e in
      ap (is_record y ts) (value_is y terms.apart n t i ∙ f)
      ∙ told w (out-Value w) refl (leaves.normal n w f) (same_Some (meaning w) (fields (vals vs)) g)
    where
      told : (w : Value) (l : Value-F Value) → out-Value w ≡ l → IsNormalValue w → meaning w ≡ fields (vals vs) → is_record_by y ts l ≡ true
      told w l o m e = by_layer l (subst IsNormalValue is m) (sym (meaning-roll l) ∙ ap meaning (sym is) ∙ e)
        where
          is : w ≡ roll-Value l
          is = sym (roll-out-Value w) ∙ ap roll-Value o

          by_layer : (l : Value-F Value) → IsNormalValue (roll-Value l) → meaning_step (map-Value Value Val meaning l) ≡ fields (vals vs) → is_record_by y ts l ≡ true
          by_layer (value_layer.Fields us) m e =
              let z : vals (map meaning us) ≡ vals vs = cc in
              values_written y terms.apart leaves.normal ts vs us a z (fields_normal us m)
          by_layer (value_layer.Leaf k) m e = absurd (cc)
          by_layer (value_layer.Number k) m e = absurd (cc)

  -- ---- fields of written records
  taken_is : (k place : ℕ) (ss : List Sort) (us : List Term) (u : Term) → slice_get us place ≡ Some u
      → taken (Apply (head.Field k place) ss (Apply (head.Build k) ss us ∷ [])) ≡ Some u
  taken_is k place ss us u e =
      ap taken_by (outs-Apply (head.Field k place) ss (Apply (head.Build k) ss us ∷ []))
      ∙ ap (argument_at k place ss) (outs-Apply (head.Build k) ss us)
      ∙ ap (λ b. only b (slice_get us place)) (and_from (nat_eq k k) (same_sorts ss ss) (eq-eqb k k refl) (decided_of (Sorts_discrete ss ss) refl)) ∙ e

  record Taken (t u : Term) : Type 0 where
    type : ℕ
    place : ℕ
    sorts : List Sort
    args : List Term
    is : t ≡ Apply (head.Field type place) sorts (Apply (head.Build type) sorts args ∷ [])
    stands : slice_get args place ≡ Some u

  taken_tells : (t u : Term) → taken t ≡ Some u → Taken t u
  taken_tells t u e = by_outer (out-Term t) refl e
    where
      by_inner : (k place : ℕ) (ss : List Sort) (w : Term) → t ≡ Apply (head.Field k place) ss (w ∷ []) → (l : Term-F Term) → out-Term w ≡ l
          → argument_at k place ss l ≡ Some u → Taken t u
      by_inner k place ss w is (layer.Apply (head.Build j) os us) o e = tested (nat_eq j k && same_sorts os ss) refl e
        where
          tested : (b : Bool) → nat_eq j k && same_sorts os ss ≡ b → only b (slice_get us place) ≡ Some u → Taken t u
          tested true q e =
              let p = and_parts (nat_eq j k) (same_sorts os ss) q in
              let a = eqb-true j k p.0 in
              let b = decided_yes (Sorts_discrete os ss) p.1 in
              record {
                type = k;
                place = place;
                sorts = ss;
                args = us;
                is = is ∙ (λ i. Apply (head.Field k place) ss ((is_application w (head.Build j) os us o ∙ (λ i. Apply (head.Build (a i)) (b i) us)) i ∷ []));
                stands = e;
              }
          tested false q e = absurd (never_some u e)
      by_inner k place ss w is (layer.Apply (head.Symbol j) os us) o e = absurd (never_some u e)
      by_inner k place ss w is (layer.Apply (head.Field j i) os us) o e = absurd (never_some u e)
      by_inner k place ss w is (layer.Apply (head.Int j) os us) o e = absurd (never_some u e)
      by_inner k place ss w is (layer.Apply (head.Real j) os us) o e = absurd (never_some u e)
      by_inner k place ss w is (layer.Apply head.True os us) o e = absurd (never_some u e)
      by_inner k place ss w is (layer.Apply head.False os us) o e = absurd (never_some u e)
      by_inner k place ss w is (layer.Apply head.Void os us) o e = absurd (never_some u e)
      by_inner k place ss w is (layer.Bound j) o e = absurd (never_some u e)
      by_inner k place ss w is (layer.Num a b r) o e = absurd (never_some u e)
      by_inner k place ss w is (layer.Fresh j s) o e = absurd (never_some u e)

      by_outer : (l : Term-F Term) → out-Term t ≡ l → taken_by l ≡ Some u → Taken t u
      by_outer (layer.Apply (head.Field k place) ss (w ∷ [])) o e =
          by_inner k place ss w (is_application t (head.Field k place) ss (w ∷ []) o) (out-Term w) refl e
      by_outer (layer.Apply (head.Field k place) ss []) o e = absurd (never_some u e)
      by_outer (layer.Apply (head.Field k place) ss (w ∷ x ∷ us)) o e = absurd (never_some u e)
      by_outer (layer.Apply (head.Symbol j) os us) o e = absurd (never_some u e)
      by_outer (layer.Apply (head.Build j) os us) o e = absurd (never_some u e)
      by_outer (layer.Apply (head.Int j) os us) o e = absurd (never_some u e)
      by_outer (layer.Apply (head.Real j) os us) o e = absurd (never_some u e)
      by_outer (layer.Apply head.True os us) o e = absurd (never_some u e)
      by_outer (layer.Apply head.False os us) o e = absurd (never_some u e)
      by_outer (layer.Apply head.Void os us) o e = absurd (never_some u e)
      by_outer (layer.Bound j) o e = absurd (never_some u e)
      by_outer (layer.Num a b r) o e = absurd (never_some u e)
      by_outer (layer.Fresh j s) o e = absurd (never_some u e)

  -- ---- the clause
  pub records_of : all_records sig y ≡ true → HasRecords sig y
  records_of e = record {
    record_value = λ n t s ss i o g.
        record_by n t (field_terms s t (length ss)) i (sym (ap (is_record_if y (value_of y t)) (fields_are t s ss o g)) ∙ (at n t i).0);
    written = λ n k place ss us u v i g x.
        let t = Apply (head.Field k place) ss (Apply (head.Build k) ss us ∷ []) in
        let alike = sym (ap (alike_if y t) (taken_is k place ss us u g)) ∙ (at n t i).1 in
        let (w, a, b) = of_alike y terms.apart t u alike in
        value_here y terms.apart n t w i a ∙ sym (value_here y terms.apart x.0 u w x.1 b) ∙ x.2;
  }
    where
      at : (n : ℕ) (t : Term) → IsName y n t → (has_fields sig y t ≡ true) × (has_taken y t ≡ true)
      at n t i = and_parts (has_fields sig y t) (has_taken y t) (list_all_at (λ t. has_fields sig y t && has_taken y t) y.names n t e i)

  pub of_records : HasRecords sig y → all_records sig y ≡ true
  of_records r =
      test_of_all (λ t. has_fields sig y t && has_taken y t ≡ true) (λ t. has_fields sig y t && has_taken y t) (λ t q. q) y.names
      (all_from_places (λ t. has_fields sig y t && has_taken y t ≡ true) y.names
      (λ n t i. and_from (has_fields sig y t) (has_taken y t) (by_sort n t i (sort_of sig t) refl) (by_taken n t i (taken t) refl)))
    where
      by_sort : (n : ℕ) (t : Term) → IsName y n t → (o : Option Sort) → sort_of sig t ≡ o → is_record_if y (value_of y t) (o >>= fields_at sig t) ≡ true
      by_sort n t i None e = refl
      by_sort n t i (Some s) e = by_fields (record_fields sig s) refl
        where
          by_fields : (o : Option (List Sort)) → record_fields sig s ≡ o
              → is_record_if y (value_of y t) (o >>= λ ss. Some (field_terms s t (length ss))) ≡ true
          by_fields None g = refl
          by_fields (Some ss) g = let (vs, a, b) = r.record_value n t s ss i e g in by_record n t (field_terms s t (length ss)) vs i a b

      by_taken : (n : ℕ) (t : Term) → IsName y n t → (o : Option Term) → taken t ≡ o → alike_if y t o ≡ true
      by_taken n t i None e = refl
      by_taken n t i (Some u) e =
          let k = taken_tells t u e in
          let built = Apply (head.Build k.type) k.sorts k.args in
          let (m, j) = (terms.subterms n (head.Field k.type k.place) k.sorts (built ∷ []) (i ∙ ap (λ (w : Term). Some w) k.is)).0 in
          let (p, q) = all_at (IsNamed y) k.args k.place u (terms.subterms m (head.Build k.type) k.sorts k.args j) k.stands in
          let (w, x) = has_written y terms.values p u q in
          let here = written_at y p w x in
          alike_of y terms.apart leaves.normal t u (meaning w)
          (n, i, r.written n k.type k.place k.sorts k.args u (meaning w) (i ∙ ap (λ (w : Term). Some w) k.is) k.stands (p, q, here)) (p, q, here)

  pub records_tested : (b : Bool) → b ≡ all_records sig y → (b ≡ true) ↔ HasRecords sig y
  records_tested b e = (λ t. records_of (sym e ∙ t), λ c. e ∙ of_records c)

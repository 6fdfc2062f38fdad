-- Values in the normal form, over leaves.
use Rattle.std.specs.Prelude.{ℕ, suc, ◌+◌, ◌<◌, ◌⊎◌, Bool, true, false, cond, List, [], ◌∷◌, ◌≡◌, map, length, slice_get, Option, Some, None}
use Rattle.std.specs.List.{AllByRecursion}
use Rattle.std.proofs.Common.{refl, sym, ap, ◌∙◌, subst, arith, inl, inr}
use Rattle.std.proofs.lemmas.Option.{same_Some, slice_get_within}
use Rattle.ae_base.proofs.ListFacts.{value_at as there}
use Rattle.ae_base.proofs.AllOf.{all_weaker, all_of_map}
use Rattle.ae_base.proofs.Tests.{by_bool}
use Rattle.ae_math.specs.Fractions.{ℚ, ratio}
use Rattle.ae_core.specs.Sorts.{sort_of, is_numeric}
use Rattle.ae_core.specs.declared.terms.Sort.{Sort, Named}
use Rattle.ae_core.specs.declared.terms.Term.{Term, Apply}
use Rattle.ae_core.specs.declared.terms.Head.TheVariants as head
use Rattle.ae_rules.specs.Lines.{fields_from}
use Rattle.ae_num.specs.Forms.{IsNormal, meaning as form_of}
use Rattle.ae_num.specs.declared.forms.Part.{Part}
use Rattle.ae_num.specs.declared.forms.Lin.{Lin}
use Rattle.ae_num.specs.declared.forms.Value.{Value, Value-F, Leaf, Number, Fields, ind-Value, map-Value, roll-Value, out-Value}
use Rattle.ae_num.specs.declared.forms.Value.TheOpen as value_layer
use Rattle.ae_num.specs.declared.forms.Value.TheVariants.{rolls-Leaf, rolls-Number, rolls-Fields, outs-Leaf, outs-Number, outs-Fields}
use Rattle.ae_journal.specs.Values.{Val, number, leaf, fields, vals, once, meaning, sum_of_lin}
use Rattle.ae_journal.specs.Systems.{IsName, IsNamed, IsPredicateName, Has, IsLeaf, IsOver, AreOver, IsNormalValue, value_at, record_fields, field_terms, field_terms_of, forms_in}
use Rattle.ae_evaluation.proofs.Exact.{forms-Number}
use Rattle.ae_evaluation.proofs.SortFacts.{numeric_is, is_applied, is_field}
use Rattle.ae_base.specs.Options.{◌>>=◌}
use Rattle.ae_store.proofs.FieldLaws.{named_back}
use Rattle.ae_store.specs.Stores.{IsStore}
use Rattle.ae_settled.specs.Held.{Held, system_of}
use Rattle.ae_settled.specs.Valued.{HaveValues, IsOwnNumber, IsOwnLeaf, IsNumberOver, IsLeafOver, AreFields, AreValues}
use Rattle.ae_settled.proofs.Sorts.{is_record, predicate_unsorted, predicate_apart}
use Rattle.ae_settled.proofs.Written.{meaning-Leaf, meaning-Number, meaning-Fields, forms-Leaf, forms-Fields, all_flat, all_settled, meaning_own, value_of_written, written_value}
use Rattle.ae_settled.proofs.Terms.{named_sorted}

-- ---- written values of different kinds differ
pub leaf_fields : (n : ℕ) (vs : List Value) → Leaf n ≡ Fields vs → ⊥
leaf_fields n vs e = let z : ◌≡◌ {A = Value-F Value} (value_layer.Leaf n) (value_layer.Fields vs) = sym (outs-Leaf n) ∙ ap out-Value e ∙ outs-Fields vs in cc z

pub number_fields : (f : Lin) (vs : List Value) → Number f ≡ Fields vs → ⊥
number_fields f vs e = let z : ◌≡◌ {A = Value-F Value} (value_layer.Number f) (value_layer.Fields vs) = sym (outs-Number f) ∙ ap out-Value e ∙ outs-Fields vs in cc z

pub same_fields : (us vs : List Value) → Fields us ≡ Fields vs → us ≡ vs
same_fields us vs e = let z : ◌≡◌ {A = Value-F Value} (value_layer.Fields us) (value_layer.Fields vs) = sym (outs-Fields us) ∙ ap out-Value e ∙ outs-Fields vs in cc z

module _ (x : Held) (store : IsStore x.signature x.nodes) (values : AreValues x.signature (system_of x)) where
  -- ---- leaves
  number_leaf : (s : Sort) (k : ℕ) → is_numeric s ≡ true → IsOwnNumber x.signature (system_of x) s k → IsLeaf x.signature (system_of x) s k
  number_leaf s k n o =
      record {
        term = o.term;
        is = o.is;
        sort = o.sort;
        value = value_of_written (system_of x) k (Number o.value) o.value_is ∙ ap (λ v. Some v) (meaning_own o.value k o.own ∙ sym (ap (λ (b : Bool). cond b (once k) (leaf k)) n));
      }

  other_leaf : (s : Sort) (k : ℕ) → is_numeric s ≡ false → IsOwnLeaf x.signature (system_of x) s k → IsLeaf x.signature (system_of x) s k
  other_leaf s k n o =
      record {
        term = o.term;
        is = o.is;
        sort = o.sort;
        value = value_of_written (system_of x) k (Leaf k) o.own ∙ ap (λ v. Some v) (meaning-Leaf k ∙ sym (ap (λ (b : Bool). cond b (once k) (leaf k)) n));
      }

  -- ---- what is proved of each value, by induction on it
  abbrev IsRight : Value → ℕ → Term → Type 0
  IsRight v n t = IsNormalValue v × ((s : Sort) → sort_of x.signature t ≡ Some s → IsOver x.signature (system_of x) s (meaning v))

  abbrev P : Value → Type 0
  P v = (n : ℕ) (t : Term) → IsName (system_of x) n t → slice_get x.values n ≡ Some v → IsRight v n t

  leaf_right : (n k : ℕ) (t : Term) (v : Value) → v ≡ Leaf k → ((s : Sort) → sort_of x.signature t ≡ Some s → IsOver x.signature (system_of x) s (leaf k)) → IsRight v n t
  leaf_right n k t v e f =
      (subst (AllByRecursion IsNormal) (sym (ap forms_in e ∙ forms-Leaf k)) tt, λ s o. subst (IsOver x.signature (system_of x) s) (sym (ap meaning e ∙ meaning-Leaf k)) (f s o))

  number_right : (n : ℕ) (t : Term) (s : Sort) (v : Value) → sort_of x.signature t ≡ Some s → is_numeric s ≡ true → IsNumberOver x.signature (system_of x) s v → IsRight v n t
  number_right n t s v o m h =
      let keys : AllByRecursion (λ (p : ℕ × ℚ). IsLeaf x.signature (system_of x) s p.0) (form_of h.form).parts =
      all_of_map (λ (p : ℕ × ℚ). IsLeaf x.signature (system_of x) s p.0) (λ (p : Part). (p.key, ratio p.factor h.form.den)) h.form.parts
      (all_weaker (λ (p : Part). IsOwnNumber x.signature (system_of x) s p.key) (λ (p : Part). IsLeaf x.signature (system_of x) s p.key) (λ p l. number_leaf s p.key m l) h.form.parts h.over) in
      let over : IsOver x.signature (system_of x) s (number (sum_of_lin h.form)) = (numeric_is s m, all_settled (IsLeaf x.signature (system_of x) s) (form_of h.form).parts keys) in (
        subst (AllByRecursion IsNormal) (sym (ap forms_in h.is ∙ forms-Number h.form)) (h.normal, tt),
        λ u q. subst (λ (r : Sort). IsOver x.signature (system_of x) r (meaning v)) (same_Some s u (sym o ∙ q)) (subst (IsOver x.signature (system_of x) s) (sym (ap meaning h.is ∙ meaning-Number h.form)) over),
      )

  other_right : (n : ℕ) (t : Term) (s : Sort) (v : Value) → sort_of x.signature t ≡ Some s → is_numeric s ≡ false → record_fields x.signature s ≡ None → IsLeafOver x.signature (system_of x) s v → IsRight v n t
  other_right n t s v o m f h =
      leaf_right n h.leaf t v h.is (λ u q. subst (λ (r : Sort). IsOver x.signature (system_of x) r (leaf h.leaf)) (same_Some s u (sym o ∙ q)) (m, f, other_leaf s h.leaf m h.over))

  -- the sort of a field's term
  pub field_sort : (k i : ℕ) (us : List Sort) (t : Term) (os : List Sort) (o : Sort) → record_fields x.signature (Named k us) ≡ Some os → slice_get os i ≡ Some o
      → IsNamed (system_of x) (Apply (head.Field k i) us (t ∷ [])) → sort_of x.signature (Apply (head.Field k i) us (t ∷ [])) ≡ Some o
  field_sort k i us t os o f at h = by_sorted (named_sorted x store h.0 (Apply (head.Field k i) us (t ∷ [])) h.1)
    where
      by_sorted : ((s : Sort) × (sort_of x.signature (Apply (head.Field k i) us (t ∷ [])) ≡ Some s)) ⊎ IsPredicateName x.signature (Apply (head.Field k i) us (t ∷ []))
          → sort_of x.signature (Apply (head.Field k i) us (t ∷ [])) ≡ Some o
      by_sorted (inl s) =
          let a = is_applied x.signature (head.Field k i) us (t ∷ []) s.0 s.1 in
          let g = is_field x.signature k i us a.args s.0 a.headed in
          let same : g.sorts ≡ os = same_Some g.sorts os (sym g.fields ∙ f) in
          let z : s.0 ≡ o = same_Some s.0 o (sym g.at ∙ ap (λ (l : List Sort). slice_get l i) same ∙ at) in
          s.1 ∙ ap (λ (r : Sort). Some r) z
      by_sorted (inr p) = absurd (predicate_apart x.signature (head.Field k i) us (t ∷ []) o p (ap (λ (q : Option (List Sort)). q >>= λ fs. slice_get fs i) f ∙ at))

  -- the values of fields, from the one in a place on
  fields_right : (k : ℕ) (us : List Sort) (t : Term) (os : List Sort) → record_fields x.signature (Named k us) ≡ Some os → (i : ℕ) (ss : List Sort) → ((j : ℕ) → slice_get os (i + j) ≡ slice_get ss j)
      → (ys : List ((v : Value) × P v)) → HaveValues (system_of x) (fields_from k us t i (length ss)) (map {A = (v : Value) × P v} (λ e. e.0) ys)
      → AllByRecursion (AllByRecursion IsNormal) (map forms_in (map {A = (v : Value) × P v} (λ e. e.0) ys)) × AreOver x.signature (system_of x) ss (vals (map meaning (map {A = (v : Value) × P v} (λ e. e.0) ys)))
  fields_right k us t os f i [] at [] h = (tt, tt)
  fields_right k us t os f i [] at (y ∷ ys) h = absurd h
  fields_right k us t os f i (s ∷ ss) at [] h = absurd h
  fields_right k us t os f i (s ∷ ss) at (y ∷ ys) h =
      let z : i + 0 ≡ i = omega arith in
      let a : slice_get os i ≡ Some s = ap (slice_get os) (sym z) ∙ at 0 in
      let r = y.1 (h.0).name (Apply (head.Field k i) us (t ∷ [])) (h.0).is (h.0).value in
      let o = field_sort k i us t os s f a ((h.0).name, (h.0).is) in
      let w : (j : ℕ) → suc i + j ≡ i + suc j = λ j. omega arith in
      let rest = fields_right k us t os f (suc i) ss (λ j. ap (slice_get os) (w j) ∙ at (suc j)) ys h.1 in
      ((r.0, rest.0), (r.1 s o, rest.1))

  record_case : (n : ℕ) (t : Term) (s : Sort) (ss : List Sort) → sort_of x.signature t ≡ Some s → (f : record_fields x.signature s ≡ Some ss) → (y : Value-F ((v : Value) × P v))
      → AreFields (system_of x) (field_terms s t (length ss)) (roll-Value (map-Value ((v : Value) × P v) Value (λ e. e.0) y)) → IsRight (roll-Value (map-Value ((v : Value) × P v) Value (λ e. e.0) y)) n t
  record_case n t s ss o f (value_layer.Leaf k) h = absurd (leaf_fields k h.fields (sym (rolls-Leaf k) ∙ h.is))
  record_case n t s ss o f (value_layer.Number l) h = absurd (number_fields l h.fields (sym (rolls-Number l) ∙ h.is))
  record_case n t s ss o f (value_layer.Fields ys) h =
      let r = is_record x.signature s ss f in
      let named : Named r.type r.sorts ≡ s = named_back s r.type r.sorts r.out in
      let terms : field_terms s t (length ss) ≡ fields_from r.type r.sorts t 0 (length ss) = ap (λ l. field_terms_of l t (length ss)) r.out in
      let same : h.fields ≡ map {A = (v : Value) × P v} (λ e. e.0) ys = same_fields h.fields (map {A = (v : Value) × P v} (λ e. e.0) ys) (sym h.is ∙ rolls-Fields (map {A = (v : Value) × P v} (λ e. e.0) ys)) in
      let have : HaveValues (system_of x) (fields_from r.type r.sorts t 0 (length ss)) (map {A = (v : Value) × P v} (λ e. e.0) ys) =
      subst (λ vs. HaveValues (system_of x) (fields_from r.type r.sorts t 0 (length ss)) vs) same (subst (λ ts. HaveValues (system_of x) ts h.fields) terms h.are) in
      let q = fields_right r.type r.sorts t ss (ap (record_fields x.signature) named ∙ f) 0 ss (λ j. let z : 0 + j ≡ j = omega arith in ap (slice_get ss) z) ys have in
      let e : roll-Value (value_layer.Fields (map {A = (v : Value) × P v} (λ e. e.0) ys)) ≡ Fields (map {A = (v : Value) × P v} (λ e. e.0) ys) = rolls-Fields (map {A = (v : Value) × P v} (λ e. e.0) ys) in
      let over : IsOver x.signature (system_of x) s (fields (vals (map meaning (map {A = (v : Value) × P v} (λ e. e.0) ys)))) = (ss, f, q.1) in (
        subst (AllByRecursion IsNormal) (sym (ap forms_in e ∙ forms-Fields (map {A = (v : Value) × P v} (λ e. e.0) ys))) (all_flat IsNormal (map forms_in (map {A = (v : Value) × P v} (λ e. e.0) ys)) q.0),
        λ u p. subst (λ (r : Sort). IsOver x.signature (system_of x) r (meaning (roll-Value (value_layer.Fields (map {A = (v : Value) × P v} (λ e. e.0) ys))))) (same_Some s u (sym o ∙ p))
            (subst (IsOver x.signature (system_of x) s) (sym (ap meaning e ∙ meaning-Fields (map {A = (v : Value) × P v} (λ e. e.0) ys))) over),
      )

  by_fields : (n : ℕ) (t : Term) (s : Sort) → IsName (system_of x) n t → sort_of x.signature t ≡ Some s → (y : Value-F ((v : Value) × P v))
      → slice_get x.values n ≡ Some (roll-Value (map-Value ((v : Value) × P v) Value (λ e. e.0) y)) → is_numeric s ≡ false
      → (q : Option (List Sort)) → record_fields x.signature s ≡ q → IsRight (roll-Value (map-Value ((v : Value) × P v) Value (λ e. e.0) y)) n t
  by_fields n t s e o y v m None f = other_right n t s (roll-Value (map-Value ((v : Value) × P v) Value (λ e. e.0) y)) o m f (values.others n t s (roll-Value (map-Value ((v : Value) × P v) Value (λ e. e.0) y)) e o v m f)
  by_fields n t s e o y v m (Some ss) f = record_case n t s ss o f y (values.records n t s ss (roll-Value (map-Value ((v : Value) × P v) Value (λ e. e.0) y)) e o v f)

  by_sort : (n : ℕ) (t : Term) → IsName (system_of x) n t → (y : Value-F ((v : Value) × P v)) → slice_get x.values n ≡ Some (roll-Value (map-Value ((v : Value) × P v) Value (λ e. e.0) y))
      → ((s : Sort) × (sort_of x.signature t ≡ Some s)) ⊎ IsPredicateName x.signature t → IsRight (roll-Value (map-Value ((v : Value) × P v) Value (λ e. e.0) y)) n t
  by_sort n t e y v (inl o) =
      by_bool (is_numeric o.0)
      (λ m. number_right n t o.0 (roll-Value (map-Value ((v : Value) × P v) Value (λ e. e.0) y)) o.1 m (values.numbers n t o.0 (roll-Value (map-Value ((v : Value) × P v) Value (λ e. e.0) y)) e o.1 v m))
      (λ m. by_fields n t o.0 e o.1 y v m (record_fields x.signature o.0) refl)
  by_sort n t e y v (inr p) =
      leaf_right n n t (roll-Value (map-Value ((v : Value) × P v) Value (λ e. e.0) y)) (same_Some (roll-Value (map-Value ((v : Value) × P v) Value (λ e. e.0) y)) (Leaf n) (sym v ∙ values.predicates n t e p))
      (λ s o. absurd (predicate_unsorted x.signature t s p o))

  each_right : (v : Value) → P v
  each_right = ind-Value P (λ z y e. subst (λ z. P (roll-Value z)) e (λ n t i v. by_sort n t i y v (named_sorted x store n t i)))

  -- the name of a value has a term
  term_there : (n : ℕ) (v : Value) → slice_get x.values n ≡ Some v → (t : Term) × IsName (system_of x) n t
  term_there n v e = let l : n < length x.values = slice_get_within x.values n v e in there (system_of x).names n (omega (arith, l, values.one_each))

  pub normal : (n : ℕ) (v : Value) → slice_get x.values n ≡ Some v → IsNormalValue v
  normal n v e = let t = term_there n v e in (each_right v n t.0 t.1 e).0

  pub over : (s : Sort) (v : Val) (n : ℕ) → Has x.signature (system_of x) s v n → IsOver x.signature (system_of x) s v
  over s v n h = let w = written_value (system_of x) n v h.value in subst (IsOver x.signature (system_of x) s) w.2 ((each_right w.0 n h.term h.is w.1).1 s h.sort)

  pub predicate_value : (n : ℕ) (t : Term) → IsName (system_of x) n t → IsPredicateName x.signature t → value_at (system_of x) n ≡ Some (leaf n)
  predicate_value n t e p = value_of_written (system_of x) n (Leaf n) (values.predicates n t e p) ∙ ap (λ v. Some v) (meaning-Leaf n)

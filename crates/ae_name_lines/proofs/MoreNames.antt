-- Terms keep their values where more names come behind them.
use Rattle.std.specs.Prelude.{ℕ, zero, suc, ◌+◌, List, [], ◌∷◌, ◌++◌, ◌≡◌, length, slice_get, Option, Some, None}
use Rattle.std.specs.List.{AllByRecursion}
use Rattle.std.proofs.Common.{refl, sym, ap, ◌∙◌, subst, arith, inl, inr}
use Rattle.std.proofs.lemmas.Bool.{cases_lt}
use Rattle.std.proofs.lemmas.Option.{same_Some, none-some, slice_get_within}
use Rattle.ae_base.specs.Decided.{pick}
use Rattle.ae_base.specs.Options.{or_else}
use Rattle.ae_base.proofs.ListFacts.{get_append, get_before}
use Rattle.ae_core.specs.Decided.{Term_discrete}
use Rattle.ae_core.specs.Sorts.{sort_of}
use Rattle.ae_core.specs.declared.terms.Sort.{Sort, Named, Bool as BoolSort}
use Rattle.ae_core.specs.declared.terms.Sort.TheVariants.{outs-Bool}
use Rattle.ae_core.specs.declared.terms.Term.{Term, Term-F, Apply, out-Term}
use Rattle.ae_core.specs.declared.terms.Term.TheOpen as layer
use Rattle.ae_core.specs.declared.terms.Term.TheVariants.{outs-Apply}
use Rattle.ae_core.specs.declared.terms.Head.TheVariants as head
use Rattle.ae_core.specs.declared.problems.Signature.{Signature}
use Rattle.ae_rules.specs.Lines.{fields_from}
use Rattle.ae_num.specs.declared.forms.Value.{Value}
use Rattle.ae_journal.specs.Values.{Val, fields, more as with_more}
use Rattle.ae_journal.specs.Systems.{IsPredicateName, own, record_fields, fields_of, field_terms, field_terms_of}
use Rattle.ae_journal.specs.Evaluation.{depth_of}
use Rattle.ae_journal.specs.TermValues.{solved, number_from, leaf_of, each_field, opaque_at, opaque, value_by, IsLeast}
use Rattle.ae_journal.specs.Inner.Numbering.{term_number}
use Rattle.ae_journal.specs.declared.lines.Line.{Line}
use Rattle.ae_evaluation.proofs.SortFacts.{is_applied, is_field}
use Rattle.ae_store.specs.Terms.{HasOneName}
use Rattle.ae_store.proofs.FieldLaws.{named_back}
use Rattle.ae_settled.proofs.Sorts.{is_record}
use Rattle.ae_name_lines.specs.Closed.{IsAmong, AreClosed}
use Rattle.ae_name_lines.specs.InStep.{AreLineValues}
use Rattle.ae_name_lines.specs.Laws.{TermsKeepValues, LeastNamesStay, ValuesStayInStep}
use Rattle.ae_name_lines.proofs.Values.{values_same}

-- ---- the number of a term in a list
-- it is the first place of the term
record IsFirst (n : ℕ) (us : List Term) (t : Term) (o : Option ℕ) : Type 0 where
  place : ℕ
  is : o ≡ Some (n + place)
  at : slice_get us place ≡ Some t

first_by : (n : ℕ) (o : Option ℕ) (u t : Term) (us : List Term) (d : Dec (u ≡ t)) → ((u ≡ t → ⊥) → IsFirst (suc n) us t o) → IsFirst n (u ∷ us) t (pick d (Some n) o)
first_by n o u t us (yes e) f = record { place = zero; is = ap (λ (k : ℕ). Some k) (let z : n ≡ n + 0 = omega arith in z); at = ap (λ (w : Term). Some w) e }
first_by n o u t us (no d) f = let r = f d in record { place = suc r.place; is = r.is ∙ ap (λ (k : ℕ). Some k) (let z : suc n + r.place ≡ n + suc r.place = omega arith in z); at = r.at }

first_there : (n : ℕ) (us : List Term) (i : ℕ) (t : Term) → slice_get us i ≡ Some t → IsFirst n us t (number_from n us t)
first_there n [] i t e = absurd (none-some t e)
first_there n (u ∷ us) zero t e = first_by n (number_from (suc n) us t) u t us (Term_discrete u t) (λ d. absurd (d (same_Some u t e)))
first_there n (u ∷ us) (suc i) t e = first_by n (number_from (suc n) us t) u t us (Term_discrete u t) (λ d. first_there (suc n) us i t e)

number_by : (n k : ℕ) (o p : Option ℕ) (u t : Term) (d : Dec (u ≡ t)) → (o ≡ Some k → p ≡ Some k) → pick d (Some n) o ≡ Some k → pick d (Some n) p ≡ Some k
number_by n k o p u t (yes z) f e = e
number_by n k o p u t (no z) f e = f e

number_more : (n : ℕ) (us more : List Term) (t : Term) (k : ℕ) → number_from n us t ≡ Some k → number_from n (us ++ more) t ≡ Some k
number_more n [] more t k e = absurd (none-some k e)
number_more n (u ∷ us) more t k e = number_by n k (number_from (suc n) us t) (number_from (suc n) (us ++ more) t) u t (Term_discrete u t) (number_more (suc n) us more t k) e

-- ---- the leaf of a term
pub leaf_is : (ts : List Term) → HasOneName ts → (n : ℕ) (t : Term) → slice_get ts n ≡ Some t → leaf_of ts t ≡ n
leaf_is ts one n t e =
    let f = first_there 0 ts n t e in
    let z : 0 + f.place ≡ f.place = omega arith in
    ap (λ (o : Option ℕ). or_else o (length ts + term_number t)) f.is ∙ z ∙ one f.place n t f.at e

leaf_more : (ts more : List Term) (t : Term) → IsAmong ts t → leaf_of (ts ++ more) t ≡ leaf_of ts t
leaf_more ts more t m =
    let f = first_there 0 ts m.0 t m.1 in
    ap (λ (o : Option ℕ). or_else o (length (ts ++ more) + term_number t)) (number_more 0 ts more t (0 + f.place) f.is) ∙ sym (ap (λ (o : Option ℕ). or_else o (length ts + term_number t)) f.is)

-- ---- fields
pub bool_flat : (sig : Signature) → record_fields sig BoolSort ≡ None
bool_flat sig = ap (fields_of sig) outs-Bool

-- terms of these sorts, one by one, all among the terms
abbrev pub AreOfSorts : Signature → List Term → List Sort → List Term → Type 0
AreOfSorts sig ts [] [] = Unit {0}
AreOfSorts sig ts (s ∷ ss) (u ∷ us) = IsAmong ts u × (sort_of sig u ≡ Some s) × AreOfSorts sig ts ss us
AreOfSorts sig ts [] (u ∷ us) = ⊥
AreOfSorts sig ts (s ∷ ss) [] = ⊥

pub no_predicate : (sig : Signature) (k i : ℕ) (ss : List Sort) (us : List Term) → IsPredicateName sig (Apply (head.Field k i) ss us) → ⊥
no_predicate sig k i ss us p =
    let z : ◌≡◌ {A = Term-F Term} (layer.Apply (head.Field k i) ss us) (layer.Apply (head.Symbol p.0) p.1 p.2) = sym (outs-Apply (head.Field k i) ss us) ∙ ap out-Term p.3 ∙ outs-Apply (head.Symbol p.0) p.1 p.2 in cc z

module _ (sig : Signature) (ts : List Term) (closed : AreClosed sig ts) where
  field_sort : (k i : ℕ) (us os : List Sort) (t : Term) (o : Sort) → record_fields sig (Named k us) ≡ Some os → slice_get os i ≡ Some o → IsAmong ts (Apply (head.Field k i) us (t ∷ []))
      → sort_of sig (Apply (head.Field k i) us (t ∷ [])) ≡ Some o
  field_sort k i us os t o f e m = elim (closed.sorted m.0 (Apply (head.Field k i) us (t ∷ [])) m.1) [
    | inl s ↦
        let a = is_applied sig (head.Field k i) us (t ∷ []) s.0 s.1 in
        let g = is_field sig k i us a.args s.0 a.headed in
        let same : g.sorts ≡ os = same_Some g.sorts os (sym g.fields ∙ f) in
        s.1 ∙ sym g.at ∙ ap (λ (l : List Sort). slice_get l i) same ∙ e
    | inr p ↦ absurd (no_predicate sig k i us (t ∷ []) p)
  ]

  fields_from_there : (k : ℕ) (us os : List Sort) (t : Term) → record_fields sig (Named k us) ≡ Some os → (i : ℕ) (ss : List Sort) → ((j : ℕ) → slice_get os (i + j) ≡ slice_get ss j)
      → AllByRecursion (IsAmong ts) (fields_from k us t i (length ss)) → AreOfSorts sig ts ss (fields_from k us t i (length ss))
  fields_from_there k us os t f i [] at a = tt
  fields_from_there k us os t f i (s ∷ ss) at a =
      let z : i ≡ i + 0 = omega arith in
      let w : (j : ℕ) → suc i + j ≡ i + suc j = λ j. omega arith in (
        a.0,
        field_sort k i us os t s f (ap (slice_get os) z ∙ at 0) a.0,
        fields_from_there k us os t f (suc i) ss (λ j. ap (slice_get os) (w j) ∙ at (suc j)) a.1,
      )

  pub fields_there : (n : ℕ) (t : Term) (s : Sort) (ss : List Sort) → slice_get ts n ≡ Some t → sort_of sig t ≡ Some s → record_fields sig s ≡ Some ss → AreOfSorts sig ts ss (field_terms s t (length ss))
  fields_there n t s ss e o f =
      let r = is_record sig s ss f in
      let named : Named r.type r.sorts ≡ s = named_back s r.type r.sorts r.out in
      let terms : field_terms s t (length ss) ≡ fields_from r.type r.sorts t 0 (length ss) = ap (λ l. field_terms_of l t (length ss)) r.out in
      subst (AreOfSorts sig ts ss) (sym terms)
      (fields_from_there r.type r.sorts ss t (ap (record_fields sig) named ∙ f) 0 ss (λ j. let z : 0 + j ≡ j = omega arith in ap (slice_get ss) z)
      (subst (AllByRecursion (IsAmong ts)) terms (closed.fields n t s ss e o f)))

-- ---- more names
module _ (sig : Signature) (ts more : List Term) (js : List Line) (closed : AreClosed sig ts) where
  own_more : (s : Sort) (t : Term) → IsAmong ts t → solved js (own s (leaf_of (ts ++ more) t)) ≡ solved js (own s (leaf_of ts t))
  own_more s t m = ap (λ (k : ℕ). solved js (own s k)) (leaf_more ts more t m)

  -- where the sort is that of a record, it is the term's
  abbrev Keeps : ℕ → Type 0
  Keeps d = (s : Sort) (t : Term) → IsAmong ts t → ((ss : List Sort) → record_fields sig s ≡ Some ss → sort_of sig t ≡ Some s) → opaque_at sig (ts ++ more) js d s t ≡ opaque_at sig ts js d s t

  each_more : (d : ℕ) → Keeps d → (ss : List Sort) (us : List Term) → AreOfSorts sig ts ss us
      → each_field sig (ts ++ more) (opaque_at sig (ts ++ more) js d) ss us ≡ each_field sig ts (opaque_at sig ts js d) ss us
  each_more d f [] [] a = refl
  each_more d f [] (u ∷ us) a = absurd a
  each_more d f (s ∷ ss) [] a = absurd a
  each_more d f (s ∷ ss) (u ∷ us) a = λ i. with_more (f s u a.0 (λ os e. a.1) i) (each_more d f ss us a.2 i)

  by_fields : (d : ℕ) → Keeps d → (s : Sort) (t : Term) → IsAmong ts t → (q : Option (List Sort)) → ((ss : List Sort) → q ≡ Some ss → AreOfSorts sig ts ss (field_terms s t (length ss)))
      → elim q as (λ _. Val) [ None ↦ solved js (own s (leaf_of (ts ++ more) t)) | Some ss ↦ fields (each_field sig (ts ++ more) (opaque_at sig (ts ++ more) js d) ss (field_terms s t (length ss))) ]
      ≡ elim q as (λ _. Val) [ None ↦ solved js (own s (leaf_of ts t)) | Some ss ↦ fields (each_field sig ts (opaque_at sig ts js d) ss (field_terms s t (length ss))) ]
  by_fields d f s t m None a = own_more s t m
  by_fields d f s t m (Some ss) a = ap fields (each_more d f ss (field_terms s t (length ss)) (a ss refl))

  opaque_at_more : (d : ℕ) → Keeps d
  opaque_at_more zero s t m o = own_more s t m
  opaque_at_more (suc d) s t m o = by_fields d (opaque_at_more d) s t m (record_fields sig s) (λ ss e. fields_there sig ts closed m.0 t s ss m.1 (o ss e) e)

  sorted_by : (t : Term) (o : Option Sort) → sort_of sig t ≡ o → (ss : List Sort) → record_fields sig (or_else o BoolSort) ≡ Some ss → sort_of sig t ≡ Some (or_else o BoolSort)
  sorted_by t (Some s) e ss f = e
  sorted_by t None e ss f = absurd (none-some ss (sym (bool_flat sig) ∙ f))

  opaque_more : (t : Term) → IsAmong ts t → opaque sig (ts ++ more) js t ≡ opaque sig ts js t
  opaque_more t m = let s = or_else (sort_of sig t) BoolSort in opaque_at_more (depth_of sig s) s t m (sorted_by t (sort_of sig t) refl)

  pub value_more : (t : Term) → IsAmong ts t → value_by sig (ts ++ more) js t ≡ value_by sig ts js t
  value_more = values_same sig (ts ++ more) ts js js (IsAmong ts) (λ h ss us m. closed.arguments m.0 h ss us m.1) opaque_more

  -- a name of the longer list is one of the first, or comes behind them
  least_more : (n r : ℕ) → IsLeast sig ts js n r → IsLeast sig (ts ++ more) js n r
  least_more n r a = record {
    term = a.term;
    other = a.other;
    sort = a.sort;
    is = get_append ts more n a.term a.is;
    stands = get_append ts more r a.other a.stands;
    sorted = a.sorted;
    same = value_more a.other (r, a.stands) ∙ a.same ∙ sym (value_more a.term (n, a.is));
    least = λ m t i s e. elim (cases_lt m (length ts)) [
      | inl l ↦
          let j : slice_get ts m ≡ Some t = sym (get_before ts more m l) ∙ i in
          a.least m t j s (sym (value_more t (m, j)) ∙ e ∙ value_more a.term (n, a.is))
      | inr l ↦ let k = slice_get_within ts r a.other a.stands in omega (arith, k, l)
    ];
  }

  step_more : (values : List Value) → length values ≡ length ts → AreLineValues sig ts values js → AreLineValues sig (ts ++ more) values js
  step_more values one step n t v i e =
      let l = slice_get_within values n v e in
      let j : slice_get ts n ≡ Some t = sym (get_before ts more n (omega (arith, l, one))) ∙ i in
      step n t v j e ∙ sym (value_more t (n, j))

pub terms_keep_values : TermsKeepValues
terms_keep_values sig ts more js t closed m = value_more sig ts more js closed t m

pub least_names_stay : LeastNamesStay
least_names_stay sig ts more js n r closed a = least_more sig ts more js closed n r a

pub values_stay_in_step : ValuesStayInStep
values_stay_in_step sig ts more values js closed one step = step_more sig ts more js closed values one step

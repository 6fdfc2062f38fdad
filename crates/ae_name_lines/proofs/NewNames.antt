-- New names that no line has solved have the values of their terms.
use Rattle.std.specs.Prelude.{ℕ, zero, suc, ◌<◌, ◌≤◌, Bool, true, false, cond, ◌||◌, List, [], ◌∷◌, ◌++◌, ◌≡◌, map, length, slice_get, Option, Some, None}
use Rattle.std.specs.List.{AllByRecursion}
use Rattle.std.proofs.Common.{refl, sym, ap, ◌∙◌, subst, arith, inl, inr}
use Rattle.std.proofs.lemmas.Bool.{cases_lt, ne_eqb}
use Rattle.std.proofs.lemmas.List.Elements.{Contains-append_left, Contains-append_right, Contains-push}
use Rattle.std.proofs.lemmas.Option.{same_Some, none-some, slice_get_within}
use native.Mathlib.Decide.{ℕ_discrete}
use Rattle.ae_base.specs.Decided.{pick}
use Rattle.ae_base.specs.Options.{or_else}
use Rattle.ae_base.proofs.Decided.{decided_not, pick_no}
use Rattle.ae_base.proofs.ListFacts.{get_append, get_before, map_map, value_at as there}
use Rattle.ae_base.proofs.Tests.{false_true}
use Rattle.ae_math.specs.Fractions.{ℚ, zero_ℚ, one_ℚ, ◌+ℚ◌, ◌*ℚ◌}
use Rattle.ae_math.specs.Forms.{single, is_zero}
use Rattle.ae_math.proofs.FractionLaws.{zero_frac, zero_mul_q, add_zero_q}
use Rattle.ae_math.proofs.FormLaws.{is_zero_no}
use Rattle.ae_core.specs.Decided.{Sort_discrete}
use Rattle.ae_core.specs.Sorts.{sort_of, is_numeric, same_sort}
use Rattle.ae_core.proofs.Recursion.{para_fresh, para_apply}
use Rattle.ae_core.specs.declared.terms.Sort.{Sort, Sort-F, Int, Real, Bool as BoolSort, out-Sort}
use Rattle.ae_core.specs.declared.terms.Sort.TheOpen as sort_layer
use Rattle.ae_core.specs.declared.terms.Sort.TheVariants.{outs-Bool, outs-Int, outs-Real}
use Rattle.ae_core.specs.declared.terms.Term.{Term, Fresh, Apply}
use Rattle.ae_core.specs.declared.terms.Term.TheOpen as layer_of
use Rattle.ae_core.specs.declared.terms.Head.{Head}
use Rattle.ae_core.specs.declared.terms.Head.TheVariants as head
use Rattle.ae_core.specs.declared.problems.Signature.{Signature}
use Rattle.ae_rules.specs.Lines.{fields_from}
use Rattle.ae_num.specs.Forms.{meaning as form_of}
use Rattle.ae_num.specs.declared.forms.Lin.{Lin}
use Rattle.ae_num.specs.declared.forms.Value.{Value, Value-F, Leaf, Number, Fields, ind-Value, map-Value, roll-Value}
use Rattle.ae_num.specs.declared.forms.Value.TheOpen as layer
use Rattle.ae_num.specs.declared.forms.Value.TheVariants.{rolls-Leaf, rolls-Number, rolls-Fields}
use Rattle.ae_journal.specs.Values.{Val, number, leaf, fields, more as with_more, vals, once, nothing, meaning, sum_in, settled, scaled, leaf_factor}
use Rattle.ae_journal.specs.Systems.{IsName, IsPredicateName, own, linear, record_fields, field_terms, field_terms_of}
use Rattle.ae_journal.specs.Evaluation.{depth_of}
use Rattle.ae_journal.specs.TermValues.{put_leaf, solved, leaf_of, each_field, opaque_at, opaque, value_by}
use Rattle.ae_journal.specs.declared.lines.Oriented.TheVariants as oriented
use Rattle.ae_journal.specs.declared.lines.Line.{Line}
use Rattle.ae_journal.specs.declared.lines.Line.TheVariants as line
use Rattle.ae_journal.specs.declared.systems.System.{System}
use Rattle.ae_evaluation.specs.Shapes.{RecordsAreLists}
use Rattle.ae_store.specs.Terms.{HasOneName}
use Rattle.ae_settled.specs.Valued.{HaveValues, AreValues}
use Rattle.ae_settled.proofs.Leaves.{leaf_fields, number_fields, same_fields}
use Rattle.ae_settled.proofs.Sorts.{is_record, predicate_unsorted}
use Rattle.ae_name_lines.specs.Closed.{AreClosed}
use Rattle.ae_name_lines.specs.InStep.{AreLineValues, SolvesBelow, is_none, opaque_step, is_opaque, HasNewNames}
use Rattle.ae_name_lines.specs.Laws.{NewNamesAreInStep, OwnNumbersAreOwn, OwnLeavesAreOwn}
use Rattle.ae_name_lines.proofs.Values.{fresh_is, application_is}
use Rattle.ae_name_lines.proofs.MoreNames.{leaf_is, bool_flat, AreOfSorts, fields_there, value_more}
use Rattle.ae_name_lines.proofs.Spelled.{val_of, same_val}
use Rattle.ae_name_lines.proofs.Written.{leaf_means, number_means, fields_mean}
use Rattle.ae_name_lines.proofs.Linear.{none_alike}
use Rattle.ae_name_lines.proofs.Computed.{is_free, free_is, all_right}
use Rattle.ae_name_lines.proofs.Deep.{IsDeep, deep_enough}

-- ---- lines that solve only names below a number leave those beyond as they are
one_is_some : ¬ (one_ℚ ≡ zero_ℚ)
unfolding one_ℚ
one_is_some e = let f = zero_frac _ e in cc

-- a value put for another name leaves a name that is once itself
once_stays : (m n : ℕ) (w : Val) → ¬ (n ≡ m) → put_leaf m w (once n) ≡ once n
once_stays m n w d =
    let z : is_zero one_ℚ ≡ false = is_zero_no one_ℚ one_is_some in
    let c : pick (ℕ_discrete n m) (one_ℚ +ℚ zero_ℚ) zero_ℚ *ℚ (sum_in w).constant +ℚ zero_ℚ ≡ zero_ℚ =
    ap (λ (q : ℚ). q *ℚ (sum_in w).constant +ℚ zero_ℚ) (pick_no (ℕ_discrete n m) (one_ℚ +ℚ zero_ℚ) zero_ℚ d) ∙ ap (λ (q : ℚ). q +ℚ zero_ℚ) (zero_mul_q (sum_in w).constant) ∙ add_zero_q zero_ℚ in
    ap (λ b. number (record { parts = settled (cond b (scaled one_ℚ (sum_in w).parts) ((n, one_ℚ) ∷ []) ++ []); constant = leaf_factor ((n, one_ℚ) ∷ []) m *ℚ (sum_in w).constant +ℚ zero_ℚ })) (ne_eqb n m d)
    ∙ (λ i. number (record { parts = cond (z i) [] ((n, one_ℚ) ∷ []); constant = c i }))

-- written values that are their own
once_is : (n : ℕ) → val_of (single n) ≡ once n
once_is n = λ i. number (record { parts = cond (is_zero_no one_ℚ one_is_some i) [] ((n, one_ℚ) ∷ []); constant = zero_ℚ })

pub own_numbers_are_own : OwnNumbersAreOwn
own_numbers_are_own s n f m e = number_means f ∙ same_val (form_of f) (single n) e ∙ once_is n ∙ ap (λ b. cond b (once n) (leaf n)) (sym m)

pub own_leaves_are_own : OwnLeavesAreOwn
own_leaves_are_own s n m = leaf_means n ∙ ap (λ b. cond b (once n) (leaf n)) (sym m)

own_stays : (b : Bool) (m n : ℕ) (w : Val) → ¬ (n ≡ m) → put_leaf m w (cond b (once n) (leaf n)) ≡ cond b (once n) (leaf n)
own_stays true m n w d = once_stays m n w d
own_stays false m n w d = ap (λ b. cond b w (leaf n)) (ne_eqb n m d)

fewer : (k : ℕ) (j : Line) (js : List Line) → SolvesBelow k (j ∷ js) → SolvesBelow k js
fewer k j js below n v c = below n v (Contains-append_right (j ∷ []) js (line.Orient (oriented.Named n v)) c)

solved_beyond : (js : List Line) (k n : ℕ) (s : Sort) → SolvesBelow k js → k ≤ n → solved js (own s n) ≡ own s n
solved_beyond [] k n s below l = refl
solved_beyond (line.Orient (oriented.Named m v) ∷ js) k n s below l =
    let b = below m v (Contains-append_left (line.Orient (oriented.Named m v) ∷ []) js (line.Orient (oriented.Named m v)) (Contains-push [] (line.Orient (oriented.Named m v)))) in
    ap (solved js) (own_stays (is_numeric s) m n (meaning v) (λ e. omega (arith, e, b, l))) ∙ solved_beyond js k n s (fewer k (line.Orient (oriented.Named m v)) js below) l
solved_beyond (line.Orient (oriented.Rule u p q) ∷ js) k n s below l = solved_beyond js k n s (fewer k (line.Orient (oriented.Rule u p q)) js below) l
solved_beyond (line.Decide a ∷ js) k n s below l = solved_beyond js k n s (fewer k (line.Decide a) js below) l
solved_beyond (line.Drop o ∷ js) k n s below l = solved_beyond js k n s (fewer k (line.Drop o) js below) l
solved_beyond (line.Pair u a b ∷ js) k n s below l = solved_beyond js k n s (fewer k (line.Pair u a b) js below) l
solved_beyond (line.Learn c ∷ js) k n s below l = solved_beyond js k n s (fewer k (line.Learn c) js below) l
solved_beyond (line.TypeInstance i ss ∷ js) k n s below l = solved_beyond js k n s (fewer k (line.TypeInstance i ss) js below) l
solved_beyond (line.TermInstance f ts ∷ js) k n s below l = solved_beyond js k n s (fewer k (line.TermInstance f ts) js below) l
solved_beyond (line.Combine b g ∷ js) k n s below l = solved_beyond js k n s (fewer k (line.Combine b g) js below) l
solved_beyond (line.Back i ∷ js) k n s below l = solved_beyond js k n s (fewer k (line.Back i) js below) l

-- what a term of no record sort has that no line has solved
flat_is : (sig : Signature) (names : List Term) (js : List Line) (d : ℕ) (s : Sort) (t : Term) → record_fields sig s ≡ None → opaque_at sig names js d s t ≡ solved js (own s (leaf_of names t))
flat_is sig names js zero s t f = refl
flat_is sig names js (suc d) s t f =
    ap (λ (q : Option (List Sort)). elim q as (λ _. Val) [ None ↦ solved js (own s (leaf_of names t)) | Some ss ↦ fields (each_field sig names (opaque_at sig names js d) ss (field_terms s t (length ss))) ]) f

pub own_is : (sig : Signature) (names : List Term) (js : List Line) (k : ℕ) → HasOneName names → SolvesBelow k js → (n : ℕ) (t : Term) (s : Sort) (d : ℕ) → k ≤ n → slice_get names n ≡ Some t → record_fields sig s ≡ None
    → opaque_at sig names js d s t ≡ own s n
own_is sig names js k one below n t s d l e f = flat_is sig names js d s t f ∙ ap (λ (i : ℕ). solved js (own s i)) (leaf_is names one n t e) ∙ solved_beyond js k n s below l

-- ---- what nothing computes
opaque_constant : (k : ℕ) (s : Sort) → is_opaque (Fresh k s) ≡ true
unfolding is_opaque
opaque_constant k s = para_fresh Bool opaque_step k s

pub opaque_field : (k i : ℕ) (ss : List Sort) (a : Term) → is_opaque (Apply (head.Field k i) ss (a ∷ [])) ≡ is_opaque a
unfolding is_opaque
opaque_field k i ss a = para_apply Bool opaque_step (head.Field k i) ss (a ∷ [])

pub opaque_layer : (h : Head) (ss : List Sort) (us : List Term) → is_opaque (Apply h ss us) ≡ opaque_step (layer_of.Apply h ss (map (λ u. (u, is_opaque u)) us))
unfolding is_opaque
opaque_layer h ss us = para_apply Bool opaque_step h ss us

none_stated : (h : Head) (us : List Term) (f : Term → Val) → linear h (map (λ u. (u, f u)) us) ≡ None → is_none (linear h (map {A = Term × Bool} (λ a. (a.0, nothing)) (map (λ u. (u, is_opaque u)) us))) ≡ true
none_stated h us f n =
    ap (λ (ps : List (Term × Val)). is_none (linear h ps)) (map_map (λ u. (u, is_opaque u)) (λ (a : Term × Bool). (a.0, nothing)) us) ∙ ap is_none (none_alike f (λ u. nothing) h us n)

pub opaque_application : (h : Head) (ss : List Sort) (us : List Term) (f : Term → Val) → is_free h ≡ true → linear h (map (λ u. (u, f u)) us) ≡ None → is_opaque (Apply h ss us) ≡ true
opaque_application (head.Build k) ss us f e n = false_true e
opaque_application (head.Field k i) ss us f e n = false_true e
opaque_application (head.Symbol k) ss us f e n = opaque_layer (head.Symbol k) ss us
opaque_application head.True ss us f e n = opaque_layer head.True ss us
opaque_application head.False ss us f e n = opaque_layer head.False ss us
opaque_application head.Void ss us f e n = opaque_layer head.Void ss us
opaque_application (head.Int o) ss us f e n = opaque_layer (head.Int o) ss us ∙ none_stated (head.Int o) us f n
opaque_application (head.Real o) ss us f e n = opaque_layer (head.Real o) ss us ∙ none_stated (head.Real o) us f n

-- ---- the sort of predicates' applications isn't numeric
pub bool_is_no_number : is_numeric BoolSort ≡ false
bool_is_no_number =
    ap (λ c. c || same_sort BoolSort Real) (decided_not (Sort_discrete BoolSort Int) (λ e. let z : ◌≡◌ {A = Sort-F Sort} sort_layer.Bool sort_layer.Int = sym outs-Bool ∙ ap out-Sort e ∙ outs-Int in cc z))
    ∙ decided_not (Sort_discrete BoolSort Real) (λ e. let z : ◌≡◌ {A = Sort-F Sort} sort_layer.Bool sort_layer.Real = sym outs-Bool ∙ ap out-Sort e ∙ outs-Real in cc z)

module _ (sig : Signature) (ts : List Term) (values : List Value) (y : System) (js : List Line) (before : AreClosed sig ts) (closed : AreClosed sig y.names) (are : AreValues sig y) (news : HasNewNames sig ts values y)
    (below : SolvesBelow (length ts) js) (step : AreLineValues sig ts values js) where
  -- ---- names that were there
  old_name : (n : ℕ) (t : Term) → IsName y n t → n < length ts → slice_get ts n ≡ Some t
  old_name n t e l = sym (get_before ts news.more n l) ∙ ap (λ (ns : List Term). slice_get ns n) (sym news.names) ∙ e

  still_name : (n : ℕ) (t : Term) → slice_get ts n ≡ Some t → IsName y n t
  still_name n t e = ap (λ (ns : List Term). slice_get ns n) news.names ∙ get_append ts news.more n t e

  old_right : (n : ℕ) (t : Term) (v : Value) → IsName y n t → slice_get y.values n ≡ Some v → n < length ts → meaning v ≡ value_by sig y.names js t
  old_right n t v e a l =
      let i = old_name n t e l in
      let w = there values n (let o = news.one_each in omega (arith, l, o)) in
      ap meaning (same_Some v w.0 (sym a ∙ news.kept n w.0 w.1)) ∙ step n t w.0 i w.1 ∙ sym (value_more sig ts news.more js before t (n, i)) ∙ ap (λ (ns : List Term). value_by sig ns js t) (sym news.names)

  -- ---- new names
  abbrev IsNew : Term → Type 0
  IsNew t = (is_opaque t ≡ true) × ((n : ℕ) → IsName y n t → length ts ≤ n)

  -- a field of a new name is new
  field_new : (k i : ℕ) (us : List Sort) (n : ℕ) (t : Term) → IsName y n t → length ts ≤ n → is_opaque t ≡ true → IsNew (Apply (head.Field k i) us (t ∷ []))
  field_new k i us n t e l o = (
    opaque_field k i us t ∙ o,
    λ m f. elim (cases_lt m (length ts)) [
      | inl b ↦
          let a = (before.arguments m (head.Field k i) us (t ∷ []) (old_name m (Apply (head.Field k i) us (t ∷ [])) f b)).0 in
          let c = slice_get_within ts a.0 t a.1 in
          let d = closed.apart n a.0 t e (still_name a.0 t a.1) in
          absurd (omega (arith, c, d, l))
      | inr b ↦ b
    ],
  )

  fields_new : (k : ℕ) (us : List Sort) (n : ℕ) (t : Term) → IsName y n t → length ts ≤ n → is_opaque t ≡ true → (i c : ℕ) → AllByRecursion IsNew (fields_from k us t i c)
  fields_new k us n t e l o i zero = tt
  fields_new k us n t e l o i (suc c) = (field_new k i us n t e l o, fields_new k us n t e l o (suc i) c)

  abbrev IsRight : Value → Type 0
  IsRight v = (n : ℕ) (t : Term) (s : Sort) (d : ℕ) → length ts ≤ n → IsName y n t → slice_get y.values n ≡ Some v → is_opaque t ≡ true → sort_of sig t ≡ Some s → IsDeep sig d s
      → meaning v ≡ opaque_at sig y.names js d s t

  flat_right : (v : Value) (n : ℕ) (t : Term) (s : Sort) (d : ℕ) → length ts ≤ n → IsName y n t → slice_get y.values n ≡ Some v → is_opaque t ≡ true → sort_of sig t ≡ Some s → record_fields sig s ≡ None
      → meaning v ≡ opaque_at sig y.names js d s t
  flat_right v n t s d l e a o q f = news.new n t s v l e o q f a ∙ sym (own_is sig y.names js (length ts) closed.apart below n t s d l e f)

  fields_right : (d : ℕ) (ss : List Sort) (us : List Term) (ys : List ((v : Value) × IsRight v)) → AllByRecursion (IsDeep sig d) ss → AreOfSorts sig y.names ss us → AllByRecursion IsNew us
      → HaveValues y us (map {A = (v : Value) × IsRight v} (λ e. e.0) ys)
      → vals (map meaning (map {A = (v : Value) × IsRight v} (λ e. e.0) ys)) ≡ each_field sig y.names (opaque_at sig y.names js d) ss us
  fields_right d [] [] [] deep a new h = refl
  fields_right d [] [] (z ∷ ys) deep a new h = absurd h
  fields_right d [] (u ∷ us) ys deep a new h = absurd a
  fields_right d (s ∷ ss) [] ys deep a new h = absurd a
  fields_right d (s ∷ ss) (u ∷ us) [] deep a new h = absurd h
  fields_right d (s ∷ ss) (u ∷ us) (z ∷ ys) deep a new h =
      let first = z.1 (h.0).name u s d (new.0.1 (h.0).name (h.0).is) (h.0).is (h.0).value new.0.0 a.1 deep.0 in
      let rest = fields_right d ss us ys deep.1 a.2 new.1 h.1 in
      λ i. with_more (first i) (rest i)

  -- a value of a record sort is that of its fields
  record_right : (ys : List ((v : Value) × IsRight v)) (n : ℕ) (t : Term) (s : Sort) (ss : List Sort) (d : ℕ) → length ts ≤ n → IsName y n t
      → slice_get y.values n ≡ Some (Fields (map {A = (v : Value) × IsRight v} (λ e. e.0) ys)) → is_opaque t ≡ true → sort_of sig t ≡ Some s → record_fields sig s ≡ Some ss → IsDeep sig d s
      → meaning (Fields (map {A = (v : Value) × IsRight v} (λ e. e.0) ys)) ≡ opaque_at sig y.names js d s t
  record_right ys n t s ss zero l e a o q f deep = absurd (none-some ss (sym deep ∙ f))
  record_right ys n t s ss (suc d) l e a o q f deep =
      let ws = map {A = (v : Value) × IsRight v} (λ e. e.0) ys in
      let h = are.records n t s ss (Fields ws) e q a f in
      let have = subst (HaveValues y (field_terms s t (length ss))) (sym (same_fields ws h.fields h.is)) h.are in
      let r = is_record sig s ss f in
      let new = subst (AllByRecursion IsNew) (sym (ap (λ c. field_terms_of c t (length ss)) r.out)) (fields_new r.type r.sorts n t e l o 0 (length ss)) in
      fields_mean ws ∙ ap fields (fields_right d ss (field_terms s t (length ss)) ys (deep ss f) (fields_there sig y.names closed n t s ss e q f) new have)
      ∙ sym (ap (λ (c : Option (List Sort)). elim c as (λ _. Val) [ None ↦ solved js (own s (leaf_of y.names t)) | Some ss ↦ fields (each_field sig y.names (opaque_at sig y.names js d) ss (field_terms s t (length ss))) ]) f)

  leaf_right : (k : ℕ) (q : Option (List Sort)) (n : ℕ) (t : Term) (s : Sort) (d : ℕ) → length ts ≤ n → IsName y n t → slice_get y.values n ≡ Some (Leaf k) → is_opaque t ≡ true → sort_of sig t ≡ Some s
      → record_fields sig s ≡ q → meaning (Leaf k) ≡ opaque_at sig y.names js d s t
  leaf_right k None n t s d l e a o r f = flat_right (Leaf k) n t s d l e a o r f
  leaf_right k (Some ss) n t s d l e a o r f = let h = are.records n t s ss (Leaf k) e r a f in absurd (leaf_fields k h.fields h.is)

  number_right : (g : Lin) (q : Option (List Sort)) (n : ℕ) (t : Term) (s : Sort) (d : ℕ) → length ts ≤ n → IsName y n t → slice_get y.values n ≡ Some (Number g) → is_opaque t ≡ true → sort_of sig t ≡ Some s
      → record_fields sig s ≡ q → meaning (Number g) ≡ opaque_at sig y.names js d s t
  number_right g None n t s d l e a o r f = flat_right (Number g) n t s d l e a o r f
  number_right g (Some ss) n t s d l e a o r f = let h = are.records n t s ss (Number g) e r a f in absurd (number_fields g h.fields h.is)

  list_right : (ys : List ((v : Value) × IsRight v)) (q : Option (List Sort)) (n : ℕ) (t : Term) (s : Sort) (d : ℕ) → length ts ≤ n → IsName y n t
      → slice_get y.values n ≡ Some (Fields (map {A = (v : Value) × IsRight v} (λ e. e.0) ys)) → is_opaque t ≡ true → sort_of sig t ≡ Some s → record_fields sig s ≡ q → IsDeep sig d s
      → meaning (Fields (map {A = (v : Value) × IsRight v} (λ e. e.0) ys)) ≡ opaque_at sig y.names js d s t
  list_right ys None n t s d l e a o r f deep = flat_right (Fields (map {A = (v : Value) × IsRight v} (λ e. e.0) ys)) n t s d l e a o r f
  list_right ys (Some ss) n t s d l e a o r f deep = record_right ys n t s ss d l e a o r f deep

  layer_right : (z : Value-F ((v : Value) × IsRight v)) → IsRight (roll-Value (map-Value ((v : Value) × IsRight v) Value (λ e. e.0) z))
  layer_right (layer.Leaf k) = subst IsRight (sym (rolls-Leaf k)) (λ n t s d l e a o r deep. leaf_right k (record_fields sig s) n t s d l e a o r refl)
  layer_right (layer.Number g) = subst IsRight (sym (rolls-Number g)) (λ n t s d l e a o r deep. number_right g (record_fields sig s) n t s d l e a o r refl)
  layer_right (layer.Fields ys) =
      subst IsRight (sym (rolls-Fields (map {A = (v : Value) × IsRight v} (λ e. e.0) ys))) (λ n t s d l e a o r deep. list_right ys (record_fields sig s) n t s d l e a o r refl deep)

  each_right : (v : Value) → IsRight v
  each_right = ind-Value IsRight (λ z w e. subst (λ u. IsRight (roll-Value u)) e (layer_right w))

  -- ---- all names
  module _ (deep : (t : Term) (s : Sort) → sort_of sig t ≡ Some s → IsDeep sig (depth_of sig s) s) where
    predicate_by : (n : ℕ) (t : Term) (v : Value) → length ts ≤ n → IsName y n t → slice_get y.values n ≡ Some v → IsPredicateName sig t → (o : Option Sort) → sort_of sig t ≡ o
        → meaning v ≡ opaque_at sig y.names js (depth_of sig (or_else o BoolSort)) (or_else o BoolSort) t
    predicate_by n t v l e a p (Some s) o = absurd (predicate_unsorted sig t s p o)
    predicate_by n t v l e a p None o =
        ap meaning (same_Some v (Leaf n) (sym a ∙ are.predicates n t e p)) ∙ leaf_means n ∙ ap (λ b. cond b (once n) (leaf n)) (sym bool_is_no_number)
        ∙ sym (own_is sig y.names js (length ts) closed.apart below n t BoolSort (depth_of sig BoolSort) l e (bool_flat sig))

    opaque_right : (n : ℕ) (t : Term) (v : Value) → length ts ≤ n → IsName y n t → slice_get y.values n ≡ Some v → is_opaque t ≡ true → meaning v ≡ opaque sig y.names js t
    opaque_right n t v l e a o = elim (closed.sorted n t e) [
      | inl s ↦ each_right v n t s.0 (depth_of sig s.0) l e a o s.1 (deep t s.0 s.1) ∙ ap (λ (c : Option Sort). opaque_at sig y.names js (depth_of sig (or_else c BoolSort)) (or_else c BoolSort) t) (sym s.1)
      | inr p ↦ predicate_by n t v l e a p (sort_of sig t) refl
    ]

    root_right : (n : ℕ) (t : Term) (v : Value) → IsName y n t → slice_get y.values n ≡ Some v → is_opaque t ≡ true → value_by sig y.names js t ≡ opaque sig y.names js t → meaning v ≡ opaque sig y.names js t
    root_right n t v e a o z = elim (cases_lt n (length ts)) [ inl l ↦ old_right n t v e a l ∙ z | inr l ↦ opaque_right n t v l e a o ]

    new_in_step : AreLineValues sig y.names y.values js
    new_in_step =
        all_right sig y js closed are (λ n k s v e a. root_right n (Fresh k s) v e a (opaque_constant k s) (fresh_is sig y.names js k s))
        (λ n h ss us v e a f z.
        root_right n (Apply h ss us) v e a (opaque_application h ss us (value_by sig y.names js) f z) (application_is sig y.names js h ss us ∙ free_is sig y.names js h ss us f z))

pub new_names_are_in_step : RecordsAreLists → NewNamesAreInStep
new_names_are_in_step lists sig ts values y js lawful before closed are news below step = new_in_step sig ts values y js before closed are news below step (deep_enough sig lawful lists)

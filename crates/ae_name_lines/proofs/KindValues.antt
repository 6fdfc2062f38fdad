-- The values of terms by their kinds: what is computed from values of other terms, and what no line has solved.
use Rattle.std.specs.Prelude.{ℕ, ℤ, zero, suc, ◌+◌, Bool, true, List, [], ◌∷◌, ◌≡◌, map, length, slice_get, Option, Some, None}
use Rattle.std.specs.List.{AllByRecursion}
use Rattle.std.proofs.Common.{refl, sym, ap, ◌∙◌, arith}
use Rattle.std.proofs.lemmas.Option.{same_Some, none-some, slice_get_within}
use Rattle.ae_base.specs.Options.{or_else}
use Rattle.ae_base.proofs.AllOf.{all_at}
use Rattle.ae_base.proofs.ListFacts.{get_map, map_map, cons_head, cons_tail}
use Rattle.ae_base.proofs.Options.{known_each}
use Rattle.ae_base.proofs.Tests.{false_true}
use Rattle.ae_core.specs.Sorts.{sort_of}
use Rattle.ae_core.specs.Inner.Induction.{by_terms}
use Rattle.ae_core.proofs.Recursion.{para_bound, para_num}
use Rattle.ae_core.specs.declared.terms.Sort.{Sort, Named, Bool as BoolSort}
use Rattle.ae_core.specs.declared.terms.Term.{Term, Bound, Num, Fresh, Apply}
use Rattle.ae_core.specs.declared.terms.Head.{Head}
use Rattle.ae_core.specs.declared.terms.Head.TheVariants as head
use Rattle.ae_core.specs.declared.problems.Signature.{Signature}
use Rattle.ae_journal.specs.Values.{Val, fields, val_at, nothing}
use Rattle.ae_journal.specs.Systems.{own, linear, record_fields, field_terms}
use Rattle.ae_journal.specs.Evaluation.{depth_of}
use Rattle.ae_journal.specs.TermValues.{solved, leaf_of, field_of, each_field, opaque_at, opaque, value_by}
use Rattle.ae_journal.specs.declared.lines.Line.{Line}
use Rattle.ae_evaluation.proofs.SortFacts.{is_applied, is_field}
use Rattle.ae_evaluation.specs.Shapes.{RecordsAreLists}
use Rattle.ae_name_lines.specs.InStep.{is_none, opaque_step, is_opaque}
use Rattle.ae_name_lines.specs.Laws.{NumeralsAreNumbers, OperationsAreStated, FieldsFollowRecords, WrittenFieldsAreArguments, UnsolvedTermsAreLeaves}
use Rattle.ae_name_lines.proofs.Values.{num_is, fresh_is, application_is}
use Rattle.ae_name_lines.proofs.Linear.{none_alike}
use Rattle.ae_name_lines.proofs.Computed.{field_at, terms_of_named, val_at-vals, is_free, free_is}
use Rattle.ae_name_lines.proofs.Deep.{IsDeep, deep_enough}
use Rattle.ae_name_lines.proofs.NewNames.{opaque_field, opaque_layer, own_is}

pub numerals_are_numbers : NumeralsAreNumbers
numerals_are_numbers sig ts js a b real = num_is sig ts js a b real

pub operations_are_stated : OperationsAreStated
operations_are_stated sig ts js (head.Int o) ss us v e = application_is sig ts js (head.Int o) ss us ∙ ap (λ (q : Option Val). or_else q (opaque sig ts js (Apply (head.Int o) ss us))) e
operations_are_stated sig ts js (head.Real o) ss us v e = application_is sig ts js (head.Real o) ss us ∙ ap (λ (q : Option Val). or_else q (opaque sig ts js (Apply (head.Real o) ss us))) e
operations_are_stated sig ts js (head.Symbol n) ss us v e = absurd (none-some v e)
operations_are_stated sig ts js (head.Build n) ss us v e = absurd (none-some v e)
operations_are_stated sig ts js (head.Field n i) ss us v e = absurd (none-some v e)
operations_are_stated sig ts js head.True ss us v e = absurd (none-some v e)
operations_are_stated sig ts js head.False ss us v e = absurd (none-some v e)
operations_are_stated sig ts js head.Void ss us v e = absurd (none-some v e)

pub fields_follow_records : FieldsFollowRecords
fields_follow_records sig ts js k i ss a b e =
    application_is sig ts js (head.Field k i) ss (a ∷ []) ∙ ap (λ (v : Val). field_of sig ts v i) e ∙ sym (application_is sig ts js (head.Field k i) ss (b ∷ []))

pub written_fields_are_arguments : WrittenFieldsAreArguments
written_fields_are_arguments sig ts js k l i ss os us u e =
    application_is sig ts js (head.Field k i) ss (Apply (head.Build l) os us ∷ []) ∙ ap (λ (v : Val). field_of sig ts v i) (application_is sig ts js (head.Build l) os us)
    ∙ ap (λ (q : Option Val). or_else q nothing) (val_at-vals (map (value_by sig ts js) us) i ∙ get_map (value_by sig ts js) us i u e)

-- ---- what nothing computes
none_is : (o : Option Val) → is_none o ≡ true → o ≡ None
none_is None e = refl
none_is (Some v) e = false_true e

pub none_means : (h : Head) (us : List Term) (f : Term → Val) → is_none (linear h (map {A = Term × Bool} (λ a. (a.0, nothing)) (map (λ u. (u, is_opaque u)) us))) ≡ true → linear h (map (λ u. (u, f u)) us) ≡ None
none_means h us f e =
    none_alike (λ u. nothing) f h us
    (ap (linear h) (sym (map_map (λ u. (u, is_opaque u)) (λ (a : Term × Bool). (a.0, nothing)) us)) ∙ none_is (linear h (map {A = Term × Bool} (λ a. (a.0, nothing)) (map (λ u. (u, is_opaque u)) us))) e)

pub nothing_stated : (h : Head) (ss : List Sort) (us : List Term) (f : Term → Val) → is_free h ≡ true → is_opaque (Apply h ss us) ≡ true → linear h (map (λ u. (u, f u)) us) ≡ None
nothing_stated (head.Build k) ss us f e o = false_true e
nothing_stated (head.Field k i) ss us f e o = false_true e
nothing_stated (head.Symbol k) ss us f e o = refl
nothing_stated head.True ss us f e o = refl
nothing_stated head.False ss us f e o = refl
nothing_stated head.Void ss us f e o = refl
nothing_stated (head.Int q) ss us f e o = none_means (head.Int q) us f (sym (opaque_layer (head.Int q) ss us) ∙ o)
nothing_stated (head.Real q) ss us f e o = none_means (head.Real q) us f (sym (opaque_layer (head.Real q) ss us) ∙ o)

field_in : (sig : Signature) (ts : List Term) (f : Sort → Term → Val) (ss : List Sort) (us : List Term) (i : ℕ) (s : Sort) (u : Term) → slice_get ss i ≡ Some s → slice_get us i ≡ Some u
    → val_at (each_field sig ts f ss us) i ≡ Some (f s u)
field_in sig ts f [] us i s u p q = absurd (none-some s p)
field_in sig ts f (r ∷ ss) [] i s u p q = absurd (none-some u q)
field_in sig ts f (r ∷ ss) (w ∷ us) zero s u p q = λ i. Some (f (same_Some r s p i) (same_Some w u q i))
field_in sig ts f (r ∷ ss) (w ∷ us) (suc i) s u p q = field_in sig ts f ss us i s u p q

module _ (sig : Signature) (ts : List Term) (js : List Line) (deep : (t : Term) (s : Sort) → sort_of sig t ≡ Some s → IsDeep sig (depth_of sig s) s) where
  record IsLevel (t : Term) (s : Sort) : Type 0 where
    depth : ℕ
    enough : IsDeep sig depth s
    is : value_by sig ts js t ≡ opaque_at sig ts js depth s t

  abbrev HasLevel : Term → Type 0
  HasLevel t = (s : Sort) → sort_of sig t ≡ Some s → is_opaque t ≡ true → IsLevel t s

  root_level : (t : Term) (s : Sort) → sort_of sig t ≡ Some s → value_by sig ts js t ≡ opaque sig ts js t → IsLevel t s
  root_level t s o e = record {
    depth = depth_of sig s;
    enough = deep t s o;
    is = e ∙ ap (λ (q : Option Sort). opaque_at sig ts js (depth_of sig (or_else q BoolSort)) (or_else q BoolSort) t) o;
  }

  free_level : (h : Head) (ss : List Sort) (us : List Term) → is_free h ≡ true → HasLevel (Apply h ss us)
  free_level h ss us f s o q = root_level (Apply h ss us) s o (application_is sig ts js h ss us ∙ free_is sig ts js h ss us f (nothing_stated h ss us (value_by sig ts js) f q))

  -- a field has one level less than its record
  field_by : (k i : ℕ) (ss os : List Sort) (a : Term) (s : Sort) → record_fields sig (Named k ss) ≡ Some os → slice_get os i ≡ Some s → (d : ℕ) → IsDeep sig d (Named k ss)
      → value_by sig ts js a ≡ opaque_at sig ts js d (Named k ss) a → IsLevel (Apply (head.Field k i) ss (a ∷ [])) s
  field_by k i ss os a s f at zero n e = absurd (none-some os (sym n ∙ f))
  field_by k i ss os a s f at (suc d) n e =
      let l = slice_get_within os i s at in
      let there : slice_get (field_terms (Named k ss) a (length os)) i ≡ Some (Apply (head.Field k i) ss (a ∷ [])) =
      ap (λ (us : List Term). slice_get us i) (terms_of_named k ss a (length os)) ∙ field_at k ss a 0 (length os) i l ∙ ap (λ (j : ℕ). Some (Apply (head.Field k j) ss (a ∷ []))) (let z : 0 + i ≡ i = omega arith in z) in
      record {
        depth = d;
        enough = all_at (IsDeep sig d) os i s (n os f) at;
        is = application_is sig ts js (head.Field k i) ss (a ∷ [])
            ∙ ap (λ (v : Val). field_of sig ts v i)
            (e ∙ ap (λ (q : Option (List Sort)). elim q as (λ _. Val) [ None ↦ solved js (own (Named k ss) (leaf_of ts a)) | Some rs ↦ fields (each_field sig ts (opaque_at sig ts js d) rs (field_terms (Named k ss) a (length rs))) ]) f)
            ∙ ap (λ (q : Option Val). or_else q nothing) (field_in sig ts (opaque_at sig ts js d) os (field_terms (Named k ss) a (length os)) i s (Apply (head.Field k i) ss (a ∷ [])) at there);
      }

  -- the argument of a field is its record
  record IsTaken (k i : ℕ) (ss : List Sort) (us : List Term) (s : Sort) : Type 0 where
    sorts : List Sort
    known : record_fields sig (Named k ss) ≡ Some sorts
    at : slice_get sorts i ≡ Some s
    args : map (sort_of sig) us ≡ Some (Named k ss) ∷ []

  taken : (k i : ℕ) (ss : List Sort) (us : List Term) (s : Sort) → sort_of sig (Apply (head.Field k i) ss us) ≡ Some s → IsTaken k i ss us s
  taken k i ss us s o =
      let a = is_applied sig (head.Field k i) ss us s o in
      let g = is_field sig k i ss a.args s a.headed in
      record { sorts = g.sorts; known = g.fields; at = g.at; args = known_each (sort_of sig) us a.args a.known ∙ ap (map (λ (r : Sort). Some r)) g.args_are }

  field_level : (k i : ℕ) (ss : List Sort) (us : List Term) → AllByRecursion HasLevel us → HasLevel (Apply (head.Field k i) ss us)
  field_level k i ss [] each s o q = let z : ◌≡◌ {A = List (Option Sort)} [] (Some (Named k ss) ∷ []) = (taken k i ss [] s o).args in absurd (cc z)
  field_level k i ss (a ∷ []) each s o q =
      let t = taken k i ss (a ∷ []) s o in
      let r = each.0 (Named k ss) (cons_head (sort_of sig a) (Some (Named k ss)) [] [] t.args) (sym (opaque_field k i ss a) ∙ q) in
      field_by k i ss t.sorts a s t.known t.at r.depth r.enough r.is
  field_level k i ss (a ∷ b ∷ us) each s o q =
      let z : sort_of sig b ∷ map (sort_of sig) us ≡ [] = cons_tail (sort_of sig a) (Some (Named k ss)) (sort_of sig b ∷ map (sort_of sig) us) [] (taken k i ss (a ∷ b ∷ us) s o).args in absurd (cc z)

  bound_level : (n : ℕ) → HasLevel (Bound n)
  unfolding is_opaque
  bound_level n s o q = false_true (sym (para_bound Bool opaque_step n) ∙ q)

  num_level : (a b : ℤ) (r : Bool) → HasLevel (Num a b r)
  unfolding is_opaque
  num_level a b r s o q = false_true (sym (para_num Bool opaque_step a b r) ∙ q)

  built_level : (k : ℕ) (ss : List Sort) (us : List Term) → HasLevel (Apply (head.Build k) ss us)
  built_level k ss us s o q = false_true (sym (opaque_layer (head.Build k) ss us) ∙ q)

  apply_level : (h : Head) (ss : List Sort) (us : List Term) → AllByRecursion HasLevel us → HasLevel (Apply h ss us)
  apply_level (head.Build k) ss us each = built_level k ss us
  apply_level (head.Field k i) ss us each = field_level k i ss us each
  apply_level (head.Symbol k) ss us each = free_level (head.Symbol k) ss us refl
  apply_level (head.Int o) ss us each = free_level (head.Int o) ss us refl
  apply_level (head.Real o) ss us each = free_level (head.Real o) ss us refl
  apply_level head.True ss us each = free_level head.True ss us refl
  apply_level head.False ss us each = free_level head.False ss us refl
  apply_level head.Void ss us each = free_level head.Void ss us refl

  level : (t : Term) → HasLevel t
  level = by_terms HasLevel bound_level num_level (λ n r s o q. root_level (Fresh n r) s o (fresh_is sig ts js n r)) apply_level

pub unsolved_terms_are_leaves : RecordsAreLists → UnsolvedTermsAreLeaves
unsolved_terms_are_leaves lists sig ts js k n t s lawful closed e o f q below l =
    let r = level sig ts js (deep_enough sig lawful lists) t s o q in
    r.is ∙ own_is sig ts js k closed.apart below n t s r.depth l e f

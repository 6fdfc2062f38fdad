-- The first names have the numbers that lines make of their terms, where the old ones do, and new ones that nothing computes are their own.
use Rattle.std.specs.Prelude.{ℕ, ℤ, zero, suc, ◌<◌, ◌≤◌, ◌⊎◌, Bool, true, List, [], ◌∷◌, ◌≡◌, map, take, drop, length, slice_get, Option, Some, None}
use Rattle.std.specs.List.{AllByRecursion}
use Rattle.std.proofs.Common.{refl, sym, ap, ◌∙◌, subst, arith, inl, inr, take-append-drop}
use Rattle.std.proofs.lemmas.Bool.{cases_lt}
use Rattle.std.proofs.lemmas.List.{length-take-le}
use Rattle.std.proofs.lemmas.Option.{none-some}
use native.Mathlib.Decide.{ℕ_discrete}
use Rattle.ae_base.proofs.AllOf.{all_both, all_before_map}
use Rattle.ae_base.proofs.ListFacts.{value_at as there, get_before, get_map}
use Rattle.ae_math.specs.Fractions.{ratio}
use Rattle.ae_math.specs.Forms.{number as number_form}
use Rattle.ae_core.specs.Sorts.{sort_of, is_closed_sort, is_numeric}
use Rattle.ae_core.specs.Inner.Induction.{by_terms}
use Rattle.ae_core.proofs.SortLaws.{sort_in_bound}
use Rattle.ae_core.specs.declared.terms.Sort.{Sort}
use Rattle.ae_core.specs.declared.terms.Term.{Term, Num, Fresh, Apply}
use Rattle.ae_core.specs.declared.terms.Head.{Head}
use Rattle.ae_core.specs.declared.terms.Head.TheVariants as head
use Rattle.ae_core.specs.declared.problems.Signature.{Signature}
use Rattle.ae_num.specs.Forms.{meaning as form_of}
use Rattle.ae_num.specs.declared.forms.Lin.{Lin}
use Rattle.ae_num.specs.declared.forms.Value.{Number}
use Rattle.ae_journal.specs.Values.{Val, meaning}
use Rattle.ae_journal.specs.Systems.{linear, record_fields}
use Rattle.ae_journal.specs.TermValues.{value_by}
use Rattle.ae_journal.specs.declared.lines.Line.{Line}
use Rattle.ae_evaluation.proofs.SortFacts.{is_applied, is_built}
use Rattle.ae_settled.specs.Valued.{linear_form}
use Rattle.ae_settled.proofs.Nodes.{application}
use Rattle.ae_store.specs.declared.nodes.Node.{Node}
use Rattle.ae_store.specs.Shapes.{shapes}
use Rattle.ae_store.specs.Stores.{IsStore}
use Rattle.ae_store.specs.Terms.{terms, named}
use Rattle.ae_store.proofs.StoreLaws.{name_term}
use Rattle.ae_value_table.specs.declared.patterns.Pattern.{Number as NumberOf}
use Rattle.ae_value_table.specs.declared.patterns.Entry.{Entry}
use Rattle.ae_value_table.specs.Table.{Contents, own, number_at, leaf_at, value_in, held, values}
use Rattle.ae_value_table.proofs.ValueLaws.{by-Number}
use Rattle.ae_value_fitting.proofs.Written.{own_means}
use Rattle.ae_patterns.specs.Patterns.{AreEntriesOf}
use Rattle.ae_strips.specs.Stripping.{IsNoField, StripsTo, itself, of_written, of_other}
use Rattle.ae_strips.proofs.FieldTerms.{length_is, name_there, args_below, within, no_later}
use Rattle.ae_strips.proofs.Totals.{IsFieldSomewhere, field_decided, comes, sort_kept}
use Rattle.ae_entering.specs.Firsts.{AreFirst}
use Rattle.ae_entering.proofs.PatternFacts.{numeric_record, number_is}
use Rattle.ae_entering.proofs.Sorting.{IsOnNumbers, int_operands, real_operands}
use Rattle.ae_take_in.specs.Computing.{IsComputed}
use Rattle.ae_name_lines.specs.Closed.{AreClosed}
use Rattle.ae_name_lines.specs.InStep.{AreLineValues, SolvesBelow, is_opaque}
use Rattle.ae_name_lines.specs.Laws.{UnsolvedTermsAreLeaves}
use Rattle.ae_name_lines.proofs.Computed.{is_free}
use Rattle.ae_name_lines.proofs.KindValues.{numerals_are_numbers, operations_are_stated, fields_follow_records, written_fields_are_arguments}
use Rattle.ae_name_lines.proofs.Linear.{linear_made}
use Rattle.ae_name_lines.proofs.MoreNames.{value_more}
use Rattle.ae_name_lines.proofs.NewNames.{own_numbers_are_own, opaque_layer, opaque_application}
use Rattle.ae_name_lines.proofs.Spelled.{val_of, same_val}
use Rattle.ae_name_lines.proofs.Stores.{stores_are_closed}
use Rattle.ae_name_lines.proofs.Written.{number_means}
use Rattle.ae_new_widths.proofs.Operations.{numbered, vals_numbered, forms_numbered}
use Rattle.ae_new_widths.proofs.OpaqueNames.{constant_opaque, opaque_free, opaque_own, field_opaque}

-- what stands in a front of a list
pub front_at : {A : Type 0} (xs : List A) (i k : ℕ) (x : A) → i ≤ length xs → k < i → slice_get xs k ≡ Some x → slice_get (take i xs) k ≡ Some x
front_at xs i k x l below at =
    sym (get_before (take i xs) (drop i xs) k (omega (arith, below, length-take-le i xs l))) ∙ ap (λ ys. slice_get ys k) (take-append-drop i xs) ∙ at

no_record : (sig : Signature) (ts : List Term) (s : Sort) → is_numeric s ≡ true → (o : Option (List Sort)) → record_fields sig s ≡ o → record_fields sig s ≡ None
no_record sig ts s m None e = e
no_record sig ts s m (Some ss) e = absurd (numeric_record sig ts s ss m e)

module _ (sig : Signature) (nodes : List Node) (store : IsStore sig nodes) (js : List Line) where
  abbrev ts : List Term
  ts = terms (shapes nodes)

  closed : AreClosed sig ts
  closed = stores_are_closed sig nodes store

  -- ---- a name has the value of what it comes down to
  pub strips_value : (n m : ℕ) → StripsTo ts n m → value_by sig ts js (named ts n) ≡ value_by sig ts js (named ts m)
  strips_value _ _ (itself n t at plain) = refl
  strips_value _ _ (of_written n a b u m k place ss f s w r) =
      let up : value_by sig ts js f.owner ≡ value_by sig ts js (Apply (head.Build k) ss w.arguments) =
      ap (value_by sig ts js) (sym (name_term ts a f.owner f.owner_is)) ∙ strips_value a b s ∙ ap (value_by sig ts js) (name_term ts b (Apply (head.Build k) ss w.arguments) w.is) in
      ap (value_by sig ts js) (name_term ts n (Apply (head.Field k place) ss (f.owner ∷ [])) f.is)
      ∙ fields_follow_records sig ts js k place ss f.owner (Apply (head.Build k) ss w.arguments) up
      ∙ written_fields_are_arguments sig ts js k k place ss ss w.arguments w.argument w.at
      ∙ ap (value_by sig ts js) (sym (name_term ts u w.argument w.argument_is)) ∙ strips_value u m r
  strips_value _ _ (of_other n a b m k place ss f s none g) =
      let up : value_by sig ts js f.owner ≡ value_by sig ts js g.owner =
      ap (value_by sig ts js) (sym (name_term ts a f.owner f.owner_is)) ∙ strips_value a b s ∙ ap (value_by sig ts js) (name_term ts b g.owner g.owner_is) in
      ap (value_by sig ts js) (name_term ts n (Apply (head.Field k place) ss (f.owner ∷ [])) f.is) ∙ fields_follow_records sig ts js k place ss f.owner g.owner up
      ∙ ap (value_by sig ts js) (sym (name_term ts m (Apply (head.Field k place) ss (g.owner ∷ [])) g.is))

  module _ (c : Contents) (entries : AreEntriesOf sig ts c.entries) (inside : c.taken ≤ length c.entries) (old_closed : AreClosed sig (take c.taken ts)) (lines : AreLineValues sig (take c.taken ts) (values c) js)
      (below : SolvesBelow c.taken js) (unsolved : UnsolvedTermsAreLeaves) where
    -- ---- old names
    old_right : (k : ℕ) (t : Term) (s : Sort) → k < c.taken → slice_get ts k ≡ Some t → sort_of sig t ≡ Some s → is_numeric s ≡ true → value_by sig ts js t ≡ val_of (form_of (number_at c k))
    old_right k t s l at o m =
        let e = there c.entries k (omega (arith, l, inside)) in
        let pattern : (e.0).pattern ≡ NumberOf k = number_is sig ts k (e.0).pattern (entries.each k e.0 e.1).pattern t s at o m in
        let value : slice_get (values c) k ≡ Some (Number (number_at c k)) =
        get_map (λ (d : Entry). value_in c d.pattern) (held c) k e.0 (front_at c.entries c.taken k e.0 inside l e.1) ∙ ap Some (ap (value_in c) pattern ∙ by-Number (number_at c) (leaf_at c) k) in
        let front : slice_get (take c.taken ts) k ≡ Some t = front_at ts c.taken k t (omega (arith, inside, entries.within)) l at in
        ap (λ (ns : List Term). value_by sig ns js t) (sym (take-append-drop c.taken ts)) ∙ value_more sig (take c.taken ts) (drop c.taken ts) js old_closed t (k, front)
        ∙ sym (lines k t (Number (number_at c k)) front value) ∙ number_means (number_at c k)

    module _ (name : ℕ) (here : name < length ts) (number : ℕ → Lin) (leaf : ℕ → ℕ) (first : AreFirst sig ts name number leaf) (kept : (k : ℕ) → k < c.taken → number k ≡ number_at c k)
        (free : (k : ℕ) → c.taken ≤ k → (IsComputed ts k → ⊥) → StripsTo ts k k → number k ≡ own k) where
      -- the number of a name is what the lines make of its term
      abbrev IsRightNumber : ℕ → Term → Type 0
      IsRightNumber k t = value_by sig ts js t ≡ val_of (form_of (number k))

      kept_right : (k : ℕ) (t : Term) (s : Sort) → k < c.taken → slice_get ts k ≡ Some t → sort_of sig t ≡ Some s → is_numeric s ≡ true → IsRightNumber k t
      kept_right k t s l at o m = old_right k t s l at o m ∙ ap (λ (f : Lin). val_of (form_of f)) (sym (kept k l))

      -- ---- what nothing computes
      opaque_right : (k : ℕ) (t : Term) (s : Sort) → c.taken ≤ k → slice_get ts k ≡ Some t → sort_of sig t ≡ Some s → is_numeric s ≡ true → is_opaque t ≡ true → IsRightNumber k t
      opaque_right k t s l at o m q =
          let own_is : number k ≡ own k = free k l (opaque_free ts k t at q) (opaque_own sig nodes store closed k t at q) in
          unsolved sig ts js c.taken k t s store.lawful closed at o (no_record sig ts s m (record_fields sig s) refl) q below l ∙ sym (own_numbers_are_own s k (own k) m (own_means k))
          ∙ ap (λ (f : Lin). meaning (Number f)) (sym own_is) ∙ number_means (number k)

      any_right : (k : ℕ) (t : Term) (s : Sort) → (k < c.taken) ⊎ (c.taken ≤ k) → slice_get ts k ≡ Some t → sort_of sig t ≡ Some s → is_numeric s ≡ true → is_opaque t ≡ true → IsRightNumber k t
      any_right k t s (inl l) at o m q = kept_right k t s l at o m
      any_right k t s (inr l) at o m q = opaque_right k t s l at o m q

      -- ---- a new name that is no field, where the names before it are right
      module _ (k : ℕ) (early : k < name) (new : c.taken ≤ k) (s : Sort) (m : is_numeric s ≡ true)
          (again : (j : ℕ) (t : Term) (r : Sort) → j < k → slice_get ts j ≡ Some t → sort_of sig t ≡ Some r → is_numeric r ≡ true → IsRightNumber j t) where
        abbrev IsPlainRight : Term → Type 0
        IsPlainRight t = slice_get ts k ≡ Some t → sort_of sig t ≡ Some s → IsNoField t → IsRightNumber k t

        num_right : (a b : ℤ) (r : Bool) → IsPlainRight (Num a b r)
        num_right a b r at o plain =
            numerals_are_numbers sig ts js a b r ∙ sym (same_val (form_of (number k)) (number_form (ratio a b)) (first.numerals k a b r early at))

        args_right : (r : Sort) → is_numeric r ≡ true → (args : List ℕ) → AllByRecursion (λ a. a < k) args → AllByRecursion (λ u. sort_of sig u ≡ Some r) (map (named ts) args)
            → AllByRecursion (λ a. value_by sig ts js (named ts a) ≡ val_of (form_of (number a))) args
        args_right r n args low sorts =
            all_both (λ (a : ℕ). a < k) (λ (a : ℕ). sort_of sig (named ts a) ≡ Some r) (λ (a : ℕ). value_by sig ts js (named ts a) ≡ val_of (form_of (number a)))
            (λ a l o. again a (named ts a) r l (name_there sig nodes store a (omega (arith, l, early, here, length_is sig nodes store))) o n) args low
            (all_before_map (λ u. sort_of sig u ≡ Some r) (named ts) args sorts)

        operation_right : (h : Head) (ss : List Sort) (us : List Term) (w : Val) → IsOnNumbers sig s ss us → linear h (map (λ u. (u, value_by sig ts js u)) us) ≡ Some w → slice_get ts k ≡ Some (Apply h ss us)
            → IsRightNumber k (Apply h ss us)
        operation_right h ss us w on stated at =
            let p = application sig nodes store k h ss us at in
            let args = (p.node).args in
            let is : map (named ts) args ≡ us = (p.shape).args in
            let low = args_below sig nodes store k p.node p.at in
            let right = args_right s on.numeric args low (subst (AllByRecursion (λ u. sort_of sig u ≡ Some s)) (sym is) on.each) in
            let vals = sym (vals_numbered ts number (value_by sig ts js) args right) ∙ ap (map (λ u. (u, value_by sig ts js u))) is in
            let made = linear_made h (map (numbered ts number) args) w (ap (linear h) vals ∙ stated) in
            let q = first.operations k h ss args made.made early low (at ∙ ap (λ (vs : List Term). Some (Apply h ss vs)) (sym is)) (ap (linear_form h) (forms_numbered ts number args) ∙ made.is) in
            operations_are_stated sig ts js h ss us w stated ∙ made.value ∙ sym (same_val (form_of (number k)) made.made q)

        free_right : (h : Head) (ss : List Sort) (us : List Term) → is_free h ≡ true → linear h (map (λ u. (u, value_by sig ts js u)) us) ≡ None → IsPlainRight (Apply h ss us)
        free_right h ss us f e at o plain = opaque_right k (Apply h ss us) s new at o m (opaque_application h ss us (value_by sig ts js) f e)

        stated_right : (h : Head) (ss : List Sort) (us : List Term) → is_free h ≡ true → (sort_of sig (Apply h ss us) ≡ Some s → IsOnNumbers sig s ss us) → (q : Option Val)
            → linear h (map (λ u. (u, value_by sig ts js u)) us) ≡ q → IsPlainRight (Apply h ss us)
        stated_right h ss us f on None e at o plain = free_right h ss us f e at o plain
        stated_right h ss us f on (Some w) e at o plain = operation_right h ss us w (on o) e at

        field_right : (j i : ℕ) (ss : List Sort) (us : List Term) → IsPlainRight (Apply (head.Field j i) ss us)
        field_right j i ss [] at o plain = opaque_right k (Apply (head.Field j i) ss []) s new at o m (opaque_layer (head.Field j i) ss [])
        field_right j i ss (a ∷ []) at o plain = absurd (plain j i ss a refl)
        field_right j i ss (a ∷ b ∷ us) at o plain = opaque_right k (Apply (head.Field j i) ss (a ∷ b ∷ us)) s new at o m (opaque_layer (head.Field j i) ss (a ∷ b ∷ us))

        built_right : (j : ℕ) (ss : List Sort) (us : List Term) → IsPlainRight (Apply (head.Build j) ss us)
        built_right j ss us at o plain =
            let a = is_applied sig (head.Build j) ss us s o in
            let b = is_built sig j ss a.args s a.headed in
            absurd (numeric_record sig ts s a.args m (subst (λ (r : Sort). record_fields sig r ≡ Some a.args) b.is b.fields))

        applied_right : (h : Head) (ss : List Sort) (us : List Term) → IsPlainRight (Apply h ss us)
        applied_right (head.Int p) ss us = stated_right (head.Int p) ss us refl (int_operands sig p ss us s) (linear (head.Int p) (map (λ u. (u, value_by sig ts js u)) us)) refl
        applied_right (head.Real p) ss us = stated_right (head.Real p) ss us refl (real_operands sig p ss us s) (linear (head.Real p) (map (λ u. (u, value_by sig ts js u)) us)) refl
        applied_right (head.Symbol j) ss us = free_right (head.Symbol j) ss us refl refl
        applied_right head.True ss us = free_right head.True ss us refl refl
        applied_right head.False ss us = free_right head.False ss us refl refl
        applied_right head.Void ss us = free_right head.Void ss us refl refl
        applied_right (head.Build j) ss us = built_right j ss us
        applied_right (head.Field j i) ss us = field_right j i ss us

        plain_right : (t : Term) → IsPlainRight t
        plain_right =
            by_terms IsPlainRight (λ n at o plain. absurd (none-some s (sym (sort_in_bound sig (is_closed_sort sig) [] n) ∙ o))) num_right
            (λ n r at o plain. opaque_right k (Fresh n r) s new at o m (constant_opaque n r)) (λ h ss us each. applied_right h ss us)

      -- ---- any of the first names
      right_by : (k : ℕ) (t : Term) (s : Sort) → k < name → slice_get ts k ≡ Some t → sort_of sig t ≡ Some s → is_numeric s ≡ true
          → ((j : ℕ) (u : Term) (r : Sort) → j < k → slice_get ts j ≡ Some u → sort_of sig u ≡ Some r → is_numeric r ≡ true → IsRightNumber j u) → IsRightNumber k t
      right_by k t s early at o m again = by_age (cases_lt k c.taken)
        where
          is : named ts k ≡ t
          is = name_term ts k t at

          inside_nodes : k < length nodes
          inside_nodes = omega (arith, early, here, length_is sig nodes store)

          end : ℕ
          end = (comes sig nodes store k inside_nodes).name

          strips : StripsTo ts k end
          strips = (comes sig nodes store k inside_nodes).strips

          end_inside : end < length nodes
          end_inside = omega (arith, within sig nodes store k end strips, length_is sig nodes store)

          end_at : slice_get ts end ≡ Some (named ts end)
          end_at = name_there sig nodes store end end_inside

          end_sorted : sort_of sig (named ts end) ≡ Some s
          end_sorted = sym (sort_kept sig nodes store k end strips) ∙ ap (sort_of sig) is ∙ o

          through : IsRightNumber end (named ts end) → IsRightNumber k t
          through h =
              ap (value_by sig ts js) (sym is) ∙ strips_value k end strips ∙ h
              ∙ ap (λ (f : Lin). val_of (form_of f)) (sym (first.covered_numbers k end s early strips (ap (sort_of sig) is ∙ o) m))

          by_name : c.taken ≤ k → IsNoField (named ts end) → Dec (end ≡ k) → IsRightNumber k t
          by_name new plain (yes e) = plain_right k early new s m again t at o (subst IsNoField (ap (named ts) e ∙ is) plain)
          by_name new plain (no d) = through (again end (named ts end) s (omega (arith, d, no_later sig nodes store k end strips (named ts end) end_at plain)) end_at end_sorted m)

          by_field : c.taken ≤ k → IsFieldSomewhere sig nodes store end ⊎ IsNoField (named ts end) → IsRightNumber k t
          by_field new (inl f) = through (any_right end (named ts end) s (cases_lt end c.taken) end_at end_sorted m (field_opaque sig nodes store closed k end strips f))
          by_field new (inr plain) = by_name new plain (ℕ_discrete end k)

          by_age : (k < c.taken) ⊎ (c.taken ≤ k) → IsRightNumber k t
          by_age (inl l) = kept_right k t s l at o m
          by_age (inr new) = by_field new (field_decided sig nodes store end end_inside)

      right_below : (bound k : ℕ) (t : Term) (s : Sort) → k < bound → k < name → slice_get ts k ≡ Some t → sort_of sig t ≡ Some s → is_numeric s ≡ true → IsRightNumber k t
      right_below zero k t s l early at o m = absurd (omega (arith, l))
      right_below (suc bound) k t s l early at o m = right_by k t s early at o m (λ j u r b at_j o_j m_j. right_below bound j u r (omega (arith, b, l)) (omega (arith, b, early)) at_j o_j m_j)

      pub numbers_right : (k : ℕ) (t : Term) (s : Sort) → k < name → slice_get ts k ≡ Some t → sort_of sig t ≡ Some s → is_numeric s ≡ true → value_by sig ts js t ≡ val_of (form_of (number k))
      numbers_right k t s early at o m = right_below (suc k) k t s (omega arith) early at o m

-- Values have the shape that the sorts of their terms ask for.
use Rattle.std.specs.Prelude.{ℕ, zero, suc, ℤ, ◌<◌, ◌≤◌, Bool, true, false, cond, ◌||◌, List, [], ◌∷◌, ◌++◌, ◌≡◌, ◌≢◌, ◌⊎◌, map, length, slice_get, Option, Some, None}
use Rattle.std.specs.List.{AllByRecursion}
use Rattle.std.proofs.Common.{inl, inr}
use mathlib.Core.Path.{refl, sym, ap, ◌∙◌, subst}
use native.Mathlib.Omega.{arith}
use Rattle.ae_math.specs.Fractions.{ℚ, zero_ℚ, one_ℚ, neg_ℚ, inverse_ℚ, ratio}
use Rattle.ae_math.specs.Forms.{is_zero}
use Rattle.ae_math.proofs.FractionLaws.{zero_frac}
use Rattle.ae_core.specs.Inner.Induction.{by_terms}
use Rattle.ae_core.specs.Decided.{Sort_discrete}
use Rattle.ae_rules.specs.Linear.{form, is_number}
use Rattle.ae_core.specs.Sorts.{sort_of, is_closed_sort, is_numeric, numeral_ok, head_sort}
use Rattle.ae_base.specs.Options.{or_else, all_known, ◌>>=◌}
use Rattle.ae_rules.specs.Instances.{choices_of}
use Rattle.ae_rules.specs.Derivations.{IsConstructor}
use Rattle.ae_rules.specs.Lines.{IsNumeric, IsAc}
use Rattle.ae_core.specs.Signatures.{IsLawful}
use Rattle.ae_core.proofs.SortLaws.{sort_in_bound, sort_in_num, sort_in_fresh}
use Rattle.ae_core.specs.declared.terms.Sort.{Sort, Int, Real, Named, out-Sort}
use Rattle.ae_core.specs.declared.terms.Sort.TheVariants.{outs-Int, outs-Real}
use Rattle.ae_core.specs.declared.terms.Term.{Term, Bound, Num, Fresh, Apply, Apply', out-Term, roll-out-Term}
use Rattle.ae_core.specs.declared.terms.Head.{Head}
use Rattle.ae_core.specs.declared.terms.Head.TheVariants as head
use Rattle.ae_core.specs.declared.terms.Op.TheVariants as op
use Rattle.ae_core.specs.declared.problems.Signature.{Signature}
use Rattle.ae_core.specs.declared.problems.SymbolEntry.{SymbolEntry}
use Rattle.ae_core.specs.declared.problems.Nature.{Nature}
use Rattle.ae_core.specs.declared.problems.Nature.TheVariants.{Free, Ac, Choice}
use Rattle.ae_multiset.specs.Multisets.{count}
use Rattle.ae_multiset.proofs.Counts.{count_same}
use Rattle.ae_num.specs.Forms.{meaning as form_of}
use Rattle.ae_num.specs.declared.forms.Value.{Value, Value-F, fold-roll-Value, ind-Value, map-Value, roll-Value}
use Rattle.ae_num.specs.declared.forms.Value.TheOpen as value_layer
use Rattle.ae_journal.specs.Values.{Val, Vals, number, leaf, fields, none, more, once, constant_val, nothing, plus_val, scale_val, vals, val_at, meaning, meaning_step, scaled, sum_in, IsSettled}
use Rattle.ae_journal.specs.Keys.{Key, Numbering, applied, constant, joined, place}
use Rattle.ae_journal.specs.Systems.{fields_of, IsCompleted, IsName, IsRepresentative, IsPredicateName, Has, ValuesOf, value_at, own, linear, quotient, record_fields, IsOver, AreOver}
use Rattle.ae_journal.specs.Evaluation.{Reduction, ev, new_at, new, new_leaf, new_single, choice, chooses, first_value, constructor_value, depth_of, each_place}
use Rattle.ae_journal.specs.Evaluation.{element, value_of_element, members, whole, result_sort, value_of, named, named_among, is_application, is_ac, free_value}
use Rattle.ae_journal.specs.Evaluation.{other_value, applied_value, field_at}
use Rattle.ae_evaluation.proofs.Facts.{Shapes}
use Rattle.ae_evaluation.specs.Shapes.{IsNumber, IsRecordValue}
use Rattle.ae_evaluation.proofs.Sums.{settles}
use Rattle.ae_evaluation.proofs.Depth.{deep, not_flat, is_record}
use Rattle.ae_evaluation.proofs.Linear.{ev-Apply, ev-Num, rest_of, ev-Fresh}
use Rattle.ae_evaluation.proofs.SortFacts.{IsApplied, is_applied, is_built, IsField, is_field, result_is, ac_arguments, numeric_is, of_numeric, no_result}
use Rattle.ae_evaluation.proofs.Constructors.{constructor_of, choices_are, choice_not_numeric, choice_no_fields}
use Rattle.ae_evaluation.proofs.Sane.{sort_for, SaneVal, SaneElement, an_element, no_join, element_value, value_of_representative, linear_sane, number_sane}
use Rattle.ae_evaluation.proofs.Sane.{sane_new, sane_or, sane_found, applied_sane, valued_sane, both_sane}
use Rattle.ae_evaluation.proofs.Found.{found_value}
use Rattle.ae_evaluation.proofs.Names.{valued_by, application_is, written_value}
use Rattle.ae_journal.specs.declared.systems.System.{System}
use Rattle.ae_base.proofs.Decided.{decided_not}
use Rattle.ae_base.proofs.Options.{bind_some, never_some, only_some, when_some}
use Rattle.std.proofs.lemmas.Option.{same_Some}

-- ---- the sums in a written value are settled
abbrev mutual
  pub AreSettled : Val → Type 0
  AreSettled (number f) = IsSettled f.parts
  AreSettled (leaf n) = Unit {0}
  AreSettled (fields vs) = AllSettled vs

  pub AllSettled : Vals → Type 0
  AllSettled none = Unit {0}
  AllSettled (more v vs) = AreSettled v × AllSettled vs

meaning-roll : (x : Value-F Value) → meaning (roll-Value x) ≡ meaning_step (map-Value Value Val meaning x)
unfolding meaning
meaning-roll x = fold-roll-Value Val meaning_step x

fields_settled : (ys : List ((v : Value) × AreSettled (meaning v)))
    → AllSettled (vals (map meaning (map {A = (v : Value) × AreSettled (meaning v)} (λ e. e.0) ys)))
fields_settled [] = tt
fields_settled (y ∷ ys) = (y.1, fields_settled ys)

settled_case : (y : Value-F ((v : Value) × AreSettled (meaning v)))
    → AreSettled (meaning (roll-Value (map-Value ((v : Value) × AreSettled (meaning v)) Value (λ e. e.0) y)))
settled_case (value_layer.Leaf n) = subst AreSettled (sym (meaning-roll (value_layer.Leaf n))) tt
settled_case (value_layer.Number f) = subst AreSettled (sym (meaning-roll (value_layer.Number f))) (settles (form_of f).parts)
settled_case (value_layer.Fields ys) = subst AreSettled (sym (meaning-roll (value_layer.Fields (map (λ e. e.0) ys)))) (fields_settled ys)

pub meaning_settled : (v : Value) → AreSettled (meaning v)
meaning_settled = ind-Value (λ v. AreSettled (meaning v)) (λ x y e. subst (λ z. AreSettled (meaning (roll-Value z))) e (settled_case y))

pub one_not_zero : one_ℚ ≢ zero_ℚ
unfolding one_ℚ
one_not_zero e = let f = zero_frac _ e in cc

pub named_not_numeric : (n : ℕ) (ss : List Sort) → is_numeric (Named n ss) ≡ false
named_not_numeric n ss =
    λ i. decided_not (Sort_discrete (Named n ss) Int) (λ e. cc) i || decided_not (Sort_discrete (Named n ss) Real) (λ e. cc) i

module _ (sig : Signature) where
  -- ---- the shape that a sort asks for
  abbrev mutual
    pub HasShape : Sort → Val → Type 0
    HasShape s (number f) = IsNumeric s × IsSettled f.parts
    HasShape s (leaf n) = (is_numeric s ≡ false) × (record_fields sig s ≡ None)
    HasShape s (fields vs) = (ss : List Sort) × (record_fields sig s ≡ Some ss) × HaveShapes ss vs

    pub HaveShapes : List Sort → Vals → Type 0
    HaveShapes [] none = Unit {0}
    HaveShapes (s ∷ ss) (more v vs) = HasShape s v × HaveShapes ss vs
    HaveShapes [] (more v vs) = ⊥
    HaveShapes (s ∷ ss) none = ⊥

  mutual
    over_shape : (y : System) (s : Sort) (v : Val) → IsOver sig y s v → AreSettled v → HasShape s v
    over_shape y s (number f) o t = (o.0, t)
    over_shape y s (leaf n) o t = (o.0, o.1)
    over_shape y s (fields vs) o t = (o.0, o.1, over_shapes y o.0 vs o.2 t)

    over_shapes : (y : System) (ss : List Sort) (vs : Vals) → AreOver sig y ss vs → AllSettled vs → HaveShapes ss vs
    over_shapes y [] none o t = tt
    over_shapes y [] (more v vs) o t = o
    over_shapes y (s ∷ ss) none o t = o
    over_shapes y (s ∷ ss) (more v vs) o t = (over_shape y s v o.0 t.0, over_shapes y ss vs o.1 t.1)

  not_numeric : (n : ℕ) (ss : List Sort) → IsNumeric (Named n ss) → ⊥
  not_numeric n ss (inl e) = cc
  not_numeric n ss (inr e) = cc

  -- ---- of a record sort it is a list
  pub fields_shape : (s : Sort) (ss : List Sort) (v : Val) → record_fields sig s ≡ Some ss → (is_numeric s ≡ false) → HasShape s v
      → (vs : Vals) × (v ≡ fields vs) × HaveShapes ss vs
  fields_shape s ss (number f) e n h = let z : true ≡ false = sym (of_numeric s h.0) ∙ n in absurd (cc)
  fields_shape s ss (leaf k) e n h = absurd (cc)
  fields_shape s ss (fields vs) e n h =
      let z : h.0 ≡ ss = same_Some h.0 ss (sym h.1 ∙ e) in (vs, refl, subst (λ (os : List Sort). HaveShapes os vs) z h.2)

  numbers_shape : (s : Sort) (v : Val) → IsNumeric s → HasShape s v → IsNumber v
  numbers_shape s (number f) n h = (f, refl, h.1)
  numbers_shape s (leaf k) n h = let z : true ≡ false = sym (of_numeric s n) ∙ h.0 in absurd (cc)
  numbers_shape s (fields vs) n h = absurd (no_fields s n h.0 h.1)
    where
      no_fields : (s : Sort) → IsNumeric s → (ss : List Sort) → record_fields sig s ≡ Some ss → ⊥
      no_fields s (inl e) ss r = never_some ss (sym (ap (record_fields sig) e ∙ ap (fields_of sig) outs-Int) ∙ r)
      no_fields s (inr e) ss r = never_some ss (sym (ap (record_fields sig) e ∙ ap (fields_of sig) outs-Real) ∙ r)

  listed : (ss : List Sort) (vs : Vals) → HaveShapes ss vs → (ws : List Val) × (vs ≡ vals ws) × (length ws ≡ length ss)
  listed [] none h = ([], refl, refl)
  listed [] (more v vs) h = absurd h
  listed (s ∷ ss) none h = absurd h
  listed (s ∷ ss) (more v vs) h = let r = listed ss vs h.1 in (v ∷ r.0, ap (more v) r.1, ap suc r.2)

  pub shape_at : (ss : List Sort) (vs : Vals) (i : ℕ) (s : Sort) → HaveShapes ss vs → slice_get ss i ≡ Some s
      → (v : Val) × (val_at vs i ≡ Some v) × HasShape s v
  shape_at [] vs i s h e = absurd (cc)
  shape_at (o ∷ ss) none i s h e = absurd h
  shape_at (o ∷ ss) (more v vs) zero s h e = let z : o ≡ s = cc in (v, refl, subst (λ (o : Sort). HasShape o v) z h.0)
  shape_at (o ∷ ss) (more v vs) (suc i) s h e = shape_at ss vs i s h.1 e

  -- ---- what linear operations answer
  pub linear_number : (h : Head) (args : List (Term × Val)) (v : Val) → linear h args ≡ Some v → IsNumber v
  linear_number h args v e = go h args e
    where
      plus_number : (a b : Val) → ◌≡◌ {A = Option Val} (Some (plus_val a b)) (Some v) → IsNumber v
      plus_number a b e =
          let f : plus_val a b ≡ v = same_Some (plus_val a b) v e in
          subst IsNumber f (sum_in (plus_val a b), refl, settles ((sum_in a).parts ++ (sum_in b).parts))

      scale_number : (x : ℚ) (a : Val) → ◌≡◌ {A = Option Val} (Some (scale_val x a)) (Some v) → IsNumber v
      scale_number x a e =
          let f : scale_val x a ≡ v = same_Some (scale_val x a) v e in
          subst IsNumber f (sum_in (scale_val x a), refl, settles (scaled x (sum_in a).parts))

      product_number : (p q : Bool) (ka kb : ℚ) (va vb : Val)
          → cond p (Some (scale_val ka vb)) (cond q (Some (scale_val kb va)) None) ≡ Some v → IsNumber v
      product_number true q ka kb va vb e = scale_number ka vb e
      product_number false true ka kb va vb e = scale_number kb va e
      product_number false false ka kb va vb e = absurd (cc)

      zero_number : (z : Bool) (x : ℚ) (w : Val) → cond z None (Some (scale_val x w)) ≡ Some v → IsNumber v
      zero_number true x w e = absurd (cc)
      zero_number false x w e = scale_number x w e

      quotient_number : (w : Val) (b : Term) → quotient w b ≡ Some v → IsNumber v
      quotient_number w (Bound n) e = absurd (cc)
      quotient_number w (Num p q r) e = zero_number (is_zero (ratio p q)) (inverse_ℚ (ratio p q)) w e
      quotient_number w (Fresh n o) e = absurd (cc)
      quotient_number w (Apply' h ss shape row) e = absurd (cc)

      go : (h : Head) (args : List (Term × Val)) → linear h args ≡ Some v → IsNumber v
      go (head.Int op.Add) (a ∷ b ∷ []) e = plus_number a.1 b.1 e
      go (head.Int op.Sub) (a ∷ b ∷ []) e = plus_number a.1 (scale_val (neg_ℚ one_ℚ) b.1) e
      go (head.Int op.Neg) (a ∷ []) e = scale_number (neg_ℚ one_ℚ) a.1 e
      go (head.Int op.Mul) (a ∷ b ∷ []) e =
          product_number (is_number (form a.0)) (is_number (form b.0)) (form a.0).constant (form b.0).constant a.1 b.1 e
      go (head.Real op.Add) (a ∷ b ∷ []) e = plus_number a.1 b.1 e
      go (head.Real op.Sub) (a ∷ b ∷ []) e = plus_number a.1 (scale_val (neg_ℚ one_ℚ) b.1) e
      go (head.Real op.Neg) (a ∷ []) e = scale_number (neg_ℚ one_ℚ) a.1 e
      go (head.Real op.Mul) (a ∷ b ∷ []) e =
          product_number (is_number (form a.0)) (is_number (form b.0)) (form a.0).constant (form b.0).constant a.1 b.1 e
      go (head.Real op.Div) (a ∷ b ∷ []) e = quotient_number a.1 b.0 e
      go h args e = absurd (cc)

  pub arithmetic : (h : Head) (ss : List Sort) (args : List (Term × Val)) (v : Val) (s : Sort) → linear h args ≡ Some v
      → result_sort sig h ss ≡ Some s → IsNumeric s
  arithmetic (head.Int o) ss args v s e r = inl (sym (same_Some Int s r))
  arithmetic (head.Real o) ss args v s e r = inr (sym (same_Some Real s r))
  arithmetic (head.Symbol n) ss args v s e r = absurd (cc)
  arithmetic (head.Build n) ss args v s e r = absurd (cc)
  arithmetic (head.Field n i) ss args v s e r = absurd (cc)
  arithmetic head.True ss args v s e r = absurd (cc)
  arithmetic head.False ss args v s e r = absurd (cc)
  arithmetic head.Void ss args v s e r = absurd (cc)

  number_shape : (s : Sort) (v : Val) → IsNumeric s → IsNumber v → HasShape s v
  number_shape s v n h = subst (HasShape s) (sym h.1) (n, h.2)

  own_shape : (s : Sort) (k : ℕ) → record_fields sig s ≡ None → HasShape s (own s k)
  own_shape s k e = by_test (is_numeric s) refl
    where
      by_test : (b : Bool) → b ≡ is_numeric s → HasShape s (cond b (once k) (leaf k))
      by_test true z = (numeric_is s (sym z), (one_not_zero, tt, tt))
      by_test false z = (sym z, e)

  -- ---- evaluation
  module _ (lawful : IsLawful sig) (y : System) (num : Numbering) (reduce : Head → List Sort → List ℕ → List ℕ) (choosing : Bool)
      (completed : IsCompleted sig y) (reduction : Reduction y reduce) where
    pub name_shape : (s : Sort) (v : Val) (n : ℕ) → Has sig y s v n → HasShape s v
    name_shape s v n h =
        let w = written_value sig y num reduce choosing completed n v h.value in
        over_shape y s v (completed.over s v n h) (subst AreSettled w.2 (meaning_settled w.0))

    -- the name that is found for an application has its sort
    found_application : (h : Head) (ss : List Sort) (vs : List Val) (ts : List Term) (ws : List Value) (v : Val)
        → named_among sig y num reduce choosing h ss vs ts ws ≡ Some v
        → (m : ℕ) × (t : Term) × (w : Value) × (slice_get ts m ≡ Some t) × (slice_get ws m ≡ Some w) × (meaning w ≡ v) ×
        (is_application sig y num reduce choosing h ss vs (out-Term t) ≡ true)
    found_application h ss vs [] ws v e = absurd (cc)
    found_application h ss vs (u ∷ us) [] v e = absurd (cc)
    found_application h ss vs (u ∷ us) (w ∷ ws) v e =
        by_test (found_application h ss vs us ws v) (is_application sig y num reduce choosing h ss vs (out-Term u)) refl e
      where
        by_test : (named_among sig y num reduce choosing h ss vs us ws ≡ Some v
            → (m : ℕ) × (t : Term) × (x : Value) × (slice_get us m ≡ Some t) × (slice_get ws m ≡ Some x) × (meaning x ≡ v) ×
            (is_application sig y num reduce choosing h ss vs (out-Term t) ≡ true)) → (b : Bool)
            → b ≡ is_application sig y num reduce choosing h ss vs (out-Term u)
            → cond b (Some (meaning w)) (named_among sig y num reduce choosing h ss vs us ws) ≡ Some v
            → (m : ℕ) × (t : Term) × (x : Value) × (slice_get (u ∷ us) m ≡ Some t) × (slice_get (w ∷ ws) m ≡ Some x) × (meaning x ≡ v) ×
            (is_application sig y num reduce choosing h ss vs (out-Term t) ≡ true)
        by_test ih true z e = (0, u, w, refl, refl, same_Some (meaning w) v e, sym z)
        by_test ih false z e = let r = ih e in (suc r.0, r.1, r.2, r.3, r.4, r.5, r.6)

    pub named_has : (h : Head) (ss : List Sort) (vs : List Val) (s : Sort) (v : Val) → result_sort sig h ss ≡ Some s
        → named sig y num reduce choosing h ss vs ≡ Some v
        → (m : ℕ) × (us : List Term) × IsName y m (Apply h ss us) × ValuesOf y us vs × Has sig y s v m
    named_has h ss vs s v r e =
        let f = found_application h ss vs y.names y.values v e in
        let a = application_is sig y num reduce choosing completed h ss vs (out-Term f.1) f.6 in
        let z : f.1 ≡ Apply h ss a.0 = sym (roll-out-Term f.1) ∙ a.1 in
        let w = ap (λ o. o >>= λ w. Some (meaning w)) f.4 ∙ ap (λ u. Some u) f.5 in
        (f.0, a.0, f.3 ∙ ap (λ (t : Term). Some t) z, a.2, by_sort f.0 f.1 a.0 z f.3 w (completed.sorted f.0 f.1 f.3))
      where
        by_sort : (m : ℕ) (t : Term) (us : List Term) → t ≡ Apply h ss us → IsName y m t → value_at y m ≡ Some v
            → ((o : Sort) × (sort_of sig t ≡ Some o)) ⊎ IsPredicateName sig t → Has sig y s v m
        by_sort m t us z i w (inl p) =
            let q = is_applied sig h ss us p.0 (ap (sort_of sig) (sym z) ∙ p.1) in
            let same : p.0 ≡ s = same_Some p.0 s (sym (result_is sig h ss q.args p.0 q.headed) ∙ r) in
            record { term = t; is = i; sort = p.1 ∙ ap (λ (o : Sort). Some o) same; value = w }
        by_sort m t us z i w (inr p) =
            let f : Apply h ss us ≡ Apply (head.Symbol p.0) p.1 p.2 = sym z ∙ p.3 in
            let g : h ≡ head.Symbol p.0 = cc in
            let n = sym (no_result sig p.0 p.1 p.2 p.4 ss) ∙ ap (λ (k : Head). result_sort sig k ss) (sym g) ∙ r in
            absurd (cc)

    named_shape : (h : Head) (ss : List Sort) (vs : List Val) (s : Sort) (v : Val) → result_sort sig h ss ≡ Some s
        → named sig y num reduce choosing h ss vs ≡ Some v → HasShape s v
    named_shape h ss vs s v r e = let f = named_has h ss vs s v r e in name_shape s v f.0 f.4

    -- ---- the value of a constructor is a leaf
    leaf_shape : (s : Sort) (v : Val) → is_numeric s ≡ false → record_fields sig s ≡ None → HasShape s v → (k : ℕ) × (v ≡ leaf k)
    leaf_shape s (leaf k) n r h = (k, refl)
    leaf_shape s (number f) n r h = let z : true ≡ false = sym (of_numeric s h.0) ∙ n in absurd (cc)
    leaf_shape s (fields vs) n r h = absurd (never_some h.0 (sym r ∙ h.1))

    pub constructor_leaf : (h : Head) → IsConstructor sig h → (k : ℕ) × (constructor_value sig y num reduce choosing h ≡ leaf k)
    constructor_leaf h c = go (named sig y num reduce choosing h [] []) refl
      where
        go : (o : Option Val) → o ≡ named sig y num reduce choosing h [] []
            → (k : ℕ) × (or_else o (leaf (new_leaf sig y num reduce choosing (applied h [] []))) ≡ leaf k)
        go None e = (new_leaf sig y num reduce choosing (applied h [] []), refl)
        go (Some v) e =
            let o = constructor_of sig lawful h c in
            let a = is_applied sig h [] [] o.sort o.sorted in
            let sh = named_shape h [] [] o.sort v (result_is sig h [] a.args o.sort a.headed) (sym e) in
            leaf_shape o.sort v (choice_not_numeric sig o.sort o.heads o.listed) (choice_no_fields sig o.sort o.heads o.listed) sh

    -- a new value that isn't a record's
    first_of : (s : Sort) (v : Val) (o : Option (List Head)) → choices_of sig (out-Sort s) ≡ o
        → first_value sig y num reduce choosing o ≡ Some v
        → (h : Head) × (hs : List Head) × (choices_of sig (out-Sort s) ≡ Some (h ∷ hs)) ×
        (constructor_value sig y num reduce choosing h ≡ v)
    first_of s v None e f = absurd (cc)
    first_of s v (Some []) e f = absurd (cc)
    first_of s v (Some (h ∷ hs)) e f = (h, hs, e, same_Some (constructor_value sig y num reduce choosing h) v f)

    pub single_shape : (s : Sort) (q : Key) → record_fields sig s ≡ None → HasShape s (new_single sig y num reduce choosing s q)
    single_shape s q r = go (choice sig y num reduce choosing s q) refl
      where
        go : (o : Option Val) → o ≡ choice sig y num reduce choosing s q
            → HasShape s (or_else o (own s (new_leaf sig y num reduce choosing q)))
        go None e = own_shape s (new_leaf sig y num reduce choosing q) r
        go (Some v) e =
            let b =
            only_some (chooses sig y num reduce choosing q) (first_value sig y num reduce choosing (choices_of sig (out-Sort s))) v (sym e) in
            let f = first_of s v (choices_of sig (out-Sort s)) refl b.1 in
            let l = constructor_leaf f.0 (choices_are sig lawful s (f.0 ∷ f.1) 0 f.0 f.2 refl) in
            subst (HasShape s) (sym l.1 ∙ f.3) (choice_not_numeric sig s (f.0 ∷ f.1) f.2, r)

    shapes_each : (d : ℕ) → ((s : Sort) (q : Key) → depth_of sig s ≤ d → HasShape s (new_at sig y num reduce choosing d s q))
        → (ss : List Sort) → AllByRecursion (λ o. depth_of sig o ≤ d) ss
        → (i : ℕ) (q : Key) → HaveShapes ss (each_place (new_at sig y num reduce choosing d) i ss q)
    shapes_each d f [] a i q = tt
    shapes_each d f (s ∷ ss) a i q = (f s (place q i) a.0, shapes_each d f ss a.1 (suc i) q)

    all_at_most : (n d : ℕ) (ss : List Sort) → n ≤ suc d → AllByRecursion (λ o. depth_of sig o < n) ss
        → AllByRecursion (λ o. depth_of sig o ≤ d) ss
    all_at_most n d [] h a = tt
    all_at_most n d (s ∷ ss) h a = (omega (arith, a.0, h), all_at_most n d ss h a.1)

    new_at_shape : (d : ℕ) (s : Sort) (q : Key) → depth_of sig s ≤ d → HasShape s (new_at sig y num reduce choosing d s q)
    new_at_shape zero s q h = by_fields (record_fields sig s) refl
      where
        by_fields : (o : Option (List Sort)) → record_fields sig s ≡ o → HasShape s (new_single sig y num reduce choosing s q)
        by_fields None e = single_shape s q e
        by_fields (Some ss) e = let p = not_flat sig lawful s ss e in absurd (omega (arith, h, p))
    new_at_shape (suc d) s q h = by_fields (new_at_shape d) (record_fields sig s) refl
      where
        by_fields : ((s : Sort) (q : Key) → depth_of sig s ≤ d → HasShape s (new_at sig y num reduce choosing d s q))
            → (o : Option (List Sort)) → record_fields sig s ≡ o
            → HasShape s (elim o as
            (λ _. Val) [
              | None ↦ new_single sig y num reduce choosing s q
              | Some ss ↦ fields
                  (each_place (new_at sig y num reduce choosing d) 0 ss q)
            ])
        by_fields f None e = single_shape s q e
        by_fields f (Some ss) e = (ss, e, shapes_each d f ss (all_at_most (depth_of sig s) d ss h (deep sig lawful s ss e)) 0 q)

    new_shape : (s : Sort) (q : Key) → HasShape s (new sig y num reduce choosing s q)
    new_shape s q = new_at_shape (depth_of sig s) s q (omega arith)

    -- an element has a value of the sort that the symbol joins
    abbrev pub IsShaped : Head → List Sort → ℕ → Type 0
    IsShaped h ss x = HasShape (sort_for sig y num reduce choosing h ss) (value_of_element sig y num reduce choosing x)

    representative_shaped : (h : Head) (ss : List Sort) (r : ℕ) → IsRepresentative sig y (sort_for sig y num reduce choosing h ss) r
        → IsShaped h ss r
    representative_shaped h ss r p =
        subst (HasShape (sort_for sig y num reduce choosing h ss))
        (sym (value_of_representative sig y num reduce choosing completed (sort_for sig y num reduce choosing h ss) p.0 r p.1))
        (name_shape (sort_for sig y num reduce choosing h ss) p.0 r p.1.has)

    abbrev pub IsGood : Val → Type 0
    IsGood = SaneVal sig y num reduce choosing completed IsShaped

    element_shaped : (h : Head) (ss : List Sort) (v : Val) → HasShape (sort_for sig y num reduce choosing h ss) v
        → IsShaped h ss (element sig y num reduce choosing (sort_for sig y num reduce choosing h ss) v)
    element_shaped h ss v p =
        subst (HasShape (sort_for sig y num reduce choosing h ss))
        (sym (element_value sig y num reduce choosing completed (sort_for sig y num reduce choosing h ss) v)) p

    whole_shape : (h : Head) (ss : List Sort) (ns : List ℕ)
        → ((x : ℕ) → 0 < count x ns → SaneElement sig y num reduce choosing completed IsShaped h ss x)
        → HasShape (sort_for sig y num reduce choosing h ss)
        (whole sig y num reduce choosing h ss (sort_for sig y num reduce choosing h ss) ns)
    whole_shape h ss [] f = new_shape (sort_for sig y num reduce choosing h ss) (joined h ss [])
    whole_shape h ss (n ∷ []) f = go (f n (omega (arith, count_same n [])))
      where
        go : SaneElement sig y num reduce choosing completed IsShaped h ss n
            → HasShape (sort_for sig y num reduce choosing h ss) (value_of_element sig y num reduce choosing n)
        go (an_element _ _ _ e v) = e
    whole_shape h ss (m ∷ n ∷ ns) f = new_shape (sort_for sig y num reduce choosing h ss) (joined h ss (m ∷ n ∷ ns))

    joins_shaped : (h : Head) (ss : List Sort) (v w : Val) → IsGood v → IsGood w → HasShape (sort_for sig y num reduce choosing h ss) v
        → HasShape (sort_for sig y num reduce choosing h ss) w
        → (x : ℕ)
        → 0 < count x (reduce h ss
        (members sig y num reduce choosing h ss (sort_for sig y num reduce choosing h ss) v ++ members sig y num reduce choosing h ss
        (sort_for sig y num reduce choosing h ss) w))
        → SaneElement sig y num reduce choosing completed IsShaped h ss x
    joins_shaped h ss v w a b p q =
        both_sane sig y num reduce choosing completed IsShaped representative_shaped reduction h ss v w a b (λ _. element_shaped h ss v p)
        (λ _. element_shaped h ss w q)

    free_shape : (h : Head) (ss : List Sort) (vs : List Val) (s : Sort) → result_sort sig h ss ≡ Some s
        → HasShape s (free_value sig y num reduce choosing h ss s vs)
    free_shape h ss vs s r = go (named sig y num reduce choosing h ss vs) refl
      where
        go : (o : Option Val) → o ≡ named sig y num reduce choosing h ss vs
            → HasShape s (or_else o (new sig y num reduce choosing s (applied h ss vs)))
        go None e = new_shape s (applied h ss vs)
        go (Some v) e = named_shape h ss vs s v r (sym e)

    -- ---- AC heads
    ac_entry : (o : Option SymbolEntry)
        → or_else (o >>= λ e. Some (elim e.nature as (λ _. Bool) [ Free ↦ false | Ac ↦ true | Choice of at ↦ false ])) false ≡ true
        → (e : SymbolEntry) × (o ≡ Some e) × (e.nature ≡ Ac)
    ac_entry None h = absurd (cc)
    ac_entry (Some e) h = (e, refl, go e.nature h)
      where
        go : (n : Nature) → elim n as (λ _. Bool) [ Free ↦ false | Ac ↦ true | Choice of at ↦ false ] ≡ true → n ≡ Ac
        go Free h = absurd (cc)
        go Ac h = refl
        go (Choice of at) h = absurd (cc)

    pub ac_is : (h : Head) → is_ac sig y num reduce choosing h ≡ true → IsAc sig h
    ac_is (head.Symbol n) e = ac_entry (slice_get sig.symbols n) e
    ac_is (head.Int op.Mul) e = tt
    ac_is (head.Real op.Mul) e = tt
    ac_is (head.Build n) e = absurd (cc)
    ac_is (head.Field n k) e = absurd (cc)
    ac_is head.True e = absurd (cc)
    ac_is head.False e = absurd (cc)
    ac_is head.Void e = absurd (cc)
    ac_is (head.Int op.Add) e = absurd (cc)
    ac_is (head.Int op.Sub) e = absurd (cc)
    ac_is (head.Int op.Neg) e = absurd (cc)
    ac_is (head.Int op.Div) e = absurd (cc)
    ac_is (head.Int op.Mod) e = absurd (cc)
    ac_is (head.Real op.Add) e = absurd (cc)
    ac_is (head.Real op.Sub) e = absurd (cc)
    ac_is (head.Real op.Neg) e = absurd (cc)
    ac_is (head.Real op.Div) e = absurd (cc)
    ac_is (head.Real op.Mod) e = absurd (cc)

    both_at : (h : Head) (ss args : List Sort) (s : Sort) (v w : Val) → is_ac sig y num reduce choosing h ≡ true
        → head_sort sig h ss args ≡ Some s → HaveShapes args (vals (v ∷ w ∷ [])) → HasShape s v × HasShape s w
    both_at h ss args s v w c o p =
        let q = subst (λ (os : List Sort). HaveShapes os (vals (v ∷ w ∷ []))) (ac_arguments sig lawful h ss args s (ac_is h c) o) p in
        (q.0, (q.1).0)

    -- ---- applications
    other_shape : (h : Head) (ss args : List Sort) (s : Sort) (vs : List Val) → head_sort sig h ss args ≡ Some s → HaveShapes args (vals vs)
        → AllByRecursion IsGood vs → HasShape s (other_value sig y num reduce choosing h ss s vs)
    other_shape h ss args s [] o p g = free_shape h ss [] s (result_is sig h ss args s o)
    other_shape h ss args s (v ∷ []) o p g = free_shape h ss (v ∷ []) s (result_is sig h ss args s o)
    other_shape h ss args s (v ∷ w ∷ []) o p g = by_test (is_ac sig y num reduce choosing h) refl
      where
        sorted : sort_for sig y num reduce choosing h ss ≡ s
        sorted = ap (λ q. or_else q Int) (result_is sig h ss args s o)

        by_test : (b : Bool) → b ≡ is_ac sig y num reduce choosing h
            → HasShape s (cond b
            (whole sig y num reduce choosing h ss s
            (reduce h ss (members sig y num reduce choosing h ss s v ++ members sig y num reduce choosing h ss s w)))
            (free_value sig y num reduce choosing h ss s (v ∷ w ∷ [])))
        by_test false z = free_shape h ss (v ∷ w ∷ []) s (result_is sig h ss args s o)
        by_test true z =
            let b = both_at h ss args s v w (sym z) o p in
            let a = subst (λ (q : Sort). HasShape q v) (sym sorted) b.0 in
            let c = subst (λ (q : Sort). HasShape q w) (sym sorted) b.1 in
            subst (λ (q : Sort). HasShape q
            (whole sig y num reduce choosing h ss q
            (reduce h ss (members sig y num reduce choosing h ss q v ++ members sig y num reduce choosing h ss q w)))) sorted
            (whole_shape h ss (reduce h ss
            (members sig y num reduce choosing h ss (sort_for sig y num reduce choosing h ss) v ++ members sig y num reduce choosing h ss
            (sort_for sig y num reduce choosing h ss) w)) (joins_shaped h ss v w g.0 (g.1).0 a c))
    other_shape h ss args s (v ∷ w ∷ x ∷ vs) o p g = free_shape h ss (v ∷ w ∷ x ∷ vs) s (result_is sig h ss args s o)

    field_shape : (n i : ℕ) (ss args : List Sort) (s : Sort) (vs : List Val) → head_sort sig (head.Field n i) ss args ≡ Some s
        → HaveShapes args (vals vs) → HasShape s (applied_value sig y num reduce choosing (head.Field n i) ss s vs)
    field_shape n i ss args s vs o p = go vs (subst (λ (os : List Sort). HaveShapes os (vals vs)) f.args_are p)
      where
        f : IsField sig n i ss args s
        f = is_field sig n i ss args s o

        go : (vs : List Val) → HaveShapes (Named n ss ∷ []) (vals vs)
            → HasShape s (applied_value sig y num reduce choosing (head.Field n i) ss s vs)
        go [] p = absurd p
        go (v ∷ []) p =
            let r = fields_shape (Named n ss) f.sorts v f.fields (named_not_numeric n ss) p.0 in
            let a = shape_at f.sorts r.0 i s r.2 f.at in
            subst (HasShape s) (sym (ap (λ u. field_at sig y num reduce choosing u i) r.1 ∙ ap (λ o. or_else o nothing) a.1)) a.2
        go (v ∷ w ∷ vs) p = absurd p.1

    applied_shape : (h : Head) (ss args : List Sort) (s : Sort) (vs : List Val) → head_sort sig h ss args ≡ Some s
        → HaveShapes args (vals vs) → AllByRecursion IsGood vs → HasShape s (applied_value sig y num reduce choosing h ss s vs)
    applied_shape (head.Build n) ss args s vs o p g =
        let b = is_built sig n ss args s o in subst (λ (q : Sort). HasShape q (fields (vals vs))) b.is (args, b.fields, p)
    applied_shape (head.Field n i) ss args s vs o p g = field_shape n i ss args s vs o p
    applied_shape (head.Symbol n) ss args s vs o p g = other_shape (head.Symbol n) ss args s vs o p g
    applied_shape (head.Int q) ss args s vs o p g = other_shape (head.Int q) ss args s vs o p g
    applied_shape (head.Real q) ss args s vs o p g = other_shape (head.Real q) ss args s vs o p g
    applied_shape head.True ss args s vs o p g = other_shape head.True ss args s vs o p g
    applied_shape head.False ss args s vs o p g = other_shape head.False ss args s vs o p g
    applied_shape head.Void ss args s vs o p g = other_shape head.Void ss args s vs o p g

    -- ---- terms
    module _ (assigned : ℕ → Sort → Option Val)
        (assigned_fine : (n : ℕ) (s : Sort) (v : Val) → assigned n s ≡ Some v → HasShape s v × IsGood v) where
      abbrev pub IsFine : Term → Type 0
      IsFine t =
          (s : Sort) → sort_of sig t ≡ Some s → HasShape s (ev sig y num reduce choosing assigned t) × IsGood
          (ev sig y num reduce choosing assigned t)

      arguments : (ts : List Term) (args : List Sort) → AllByRecursion IsFine ts → all_known (map (sort_of sig) ts) ≡ Some args
          → HaveShapes args (vals (map (ev sig y num reduce choosing assigned) ts)) × AllByRecursion
          (λ t. IsGood (ev sig y num reduce choosing assigned t)) ts
      arguments [] args a e = let z : [] ≡ args = same_Some [] args e in (subst (λ (os : List Sort). HaveShapes os none) z tt, tt)
      arguments (t ∷ ts) args a e =
          let b = bind_some (sort_of sig t) (λ x. all_known (map (sort_of sig) ts) >>= λ xs. Some (x ∷ xs)) args e in
          let c = bind_some (all_known (map (sort_of sig) ts)) (λ xs. Some (b.0 ∷ xs)) args b.2 in
          let z : b.0 ∷ c.0 ≡ args = same_Some (b.0 ∷ c.0) args c.2 in
          let f = a.0 b.0 b.1 in
          let r = arguments ts c.0 a.1 c.1 in (
            subst (λ (os : List Sort). HaveShapes os
                (more (ev sig y num reduce choosing assigned t) (vals (map (ev sig y num reduce choosing assigned) ts)))) z (f.0, r.0),
            (f.1, r.1),
          )

      goods : (ts : List Term) → AllByRecursion (λ t. IsGood (ev sig y num reduce choosing assigned t)) ts
          → AllByRecursion IsGood (map (ev sig y num reduce choosing assigned) ts)
      goods [] a = tt
      goods (t ∷ ts) a = (a.0, goods ts a.1)

      bound_case : (n : ℕ) → IsFine (Bound n)
      bound_case n s e = absurd (never_some s (sym (sort_in_bound sig (is_closed_sort sig) [] n) ∙ e))

      num_case : (a b : ℤ) (r : Bool) → IsFine (Num a b r)
      num_case a b r s e =
          let w = when_some (numeral_ok a b r) (cond r Real Int) s (sym (sort_in_num sig (is_closed_sort sig) [] a b r) ∙ e) in
          let v = sym (ev-Num sig y num reduce choosing assigned a b r) in (
            subst (HasShape s) v (subst (λ (q : Sort). HasShape q (constant_val (ratio a b))) w.1 (numeral_sort r, tt)),
            subst IsGood v
                (number_sane sig y num reduce choosing completed IsShaped (ratio a b)),
          )
        where
          numeral_sort : (r : Bool) → IsNumeric (cond r Real Int)
          numeral_sort true = inr refl
          numeral_sort false = inl refl

      valued_shape : (t : Term) (s : Sort) (v : Val) → sort_of sig t ≡ Some s → value_of sig y num reduce choosing t ≡ Some v → HasShape s v
      valued_shape t s v e o =
          let r = valued_by sig y num reduce choosing completed t v o in
          name_shape s v r.0 (record { term = t; is = r.1; sort = e; value = r.2 })

      fresh_case : (n : ℕ) (o : Sort) → IsFine (Fresh n o)
      fresh_case n o s e = (
        subst (HasShape s) (sym (ev-Fresh sig y num reduce choosing assigned n o))
            (subst (λ (q : Sort). HasShape q
            (or_else (assigned n o)
            (or_else (value_of sig y num reduce choosing (Fresh n o)) (new sig y num reduce choosing o (constant n o))))) w.1
            (shape (assigned n o) refl (value_of sig y num reduce choosing (Fresh n o)) refl)),
        subst IsGood (sym (ev-Fresh sig y num reduce choosing assigned n o))
            (sane_or sig y num reduce choosing completed IsShaped (assigned n o) _ (λ v f. (assigned_fine n o v f).1)
            (sane_or sig y num reduce choosing completed IsShaped (value_of sig y num reduce choosing (Fresh n o)) _
            (λ v f. sane_found sig y num reduce choosing completed IsShaped v
            (found_value sig y num reduce choosing y.names y.values (Fresh n o) v f))
            (sane_new sig y num reduce choosing completed IsShaped (depth_of sig o) o (constant n o)
            (no_join (constant n o) (λ i us ns e. cc))))),
      )
        where
          w : (is_closed_sort sig o ≡ true) × (o ≡ s)
          w = when_some (is_closed_sort sig o) o s (sym (sort_in_fresh sig (is_closed_sort sig) [] n o) ∙ e)

          shape : (p : Option Val) → p ≡ assigned n o → (q : Option Val) → q ≡ value_of sig y num reduce choosing (Fresh n o)
              → HasShape o (or_else p (or_else q (new sig y num reduce choosing o (constant n o))))
          shape (Some v) f q g = (assigned_fine n o v (sym f)).0
          shape None f (Some v) g = valued_shape (Fresh n o) o v (e ∙ ap (λ (q : Sort). Some q) (sym w.1)) (sym g)
          shape None f None g = new_shape o (constant n o)

      apply_case : (h : Head) (ss : List Sort) (ts : List Term) → AllByRecursion IsFine ts → IsFine (Apply h ss ts)
      apply_case h ss ts a s e =
          let v = sym (ev-Apply sig y num reduce choosing assigned h ss ts) in (
            subst (HasShape s) v (by_linear (linear h (map (λ t. (t, ev sig y num reduce choosing assigned t)) ts)) refl),
            subst IsGood v (sane_or sig y num reduce choosing completed IsShaped
                (linear h (map (λ t. (t, ev sig y num reduce choosing assigned t)) ts)) _
                (λ v f. linear_sane sig y num reduce choosing completed IsShaped h _ v
                (valued_sane sig y num reduce choosing completed IsShaped assigned ts r.1) f)
                (applied_sane sig y num reduce choosing completed IsShaped h ss (map (ev sig y num reduce choosing assigned) ts)
                (goods ts r.1) joins)),
          )
        where
          q : IsApplied sig h ss ts s
          q = is_applied sig h ss ts s e

          r : HaveShapes q.args (vals (map (ev sig y num reduce choosing assigned) ts)) × AllByRecursion
              (λ t. IsGood (ev sig y num reduce choosing assigned t)) ts
          r = arguments ts q.args a q.known

          result : result_sort sig h ss ≡ Some s
          result = result_is sig h ss q.args s q.headed

          by_linear : (o : Option Val) → o ≡ linear h (map (λ t. (t, ev sig y num reduce choosing assigned t)) ts)
              → HasShape s (or_else o (rest_of sig y num reduce choosing assigned h ss ts))
          by_linear (Some v) f = number_shape s v (arithmetic h ss _ v s (sym f) result) (linear_number h _ v (sym f))
          by_linear None f =
              subst (λ (o : Option Sort). HasShape s
              (applied_value sig y num reduce choosing h ss (or_else o Int) (map (ev sig y num reduce choosing assigned) ts))) (sym result)
              (applied_shape h ss q.args s (map (ev sig y num reduce choosing assigned) ts) q.headed r.0 (goods ts r.1))

          joins : (v w : Val) → map (ev sig y num reduce choosing assigned) ts ≡ v ∷ w ∷ [] → is_ac sig y num reduce choosing h ≡ true
              → (x : ℕ)
              → 0 < count x (reduce h ss
              (members sig y num reduce choosing h ss (sort_for sig y num reduce choosing h ss) v ++ members sig y num reduce choosing h ss
              (sort_for sig y num reduce choosing h ss) w))
              → SaneElement sig y num reduce choosing completed IsShaped h ss x
          joins v w f c =
              let b = both_at h ss q.args s v w c q.headed (subst (λ (us : List Val). HaveShapes q.args (vals us)) f r.0) in
              let g = subst (AllByRecursion IsGood) f (goods ts r.1) in
              let sorted : s ≡ sort_for sig y num reduce choosing h ss = sym (ap (λ o. or_else o Int) result) in
              joins_shaped h ss v w g.0 (g.1).0 (subst (λ (o : Sort). HasShape o v) sorted b.0)
              (subst (λ (o : Sort). HasShape o w) sorted b.1)

      pub fine : (t : Term) → IsFine t
      fine = by_terms IsFine bound_case num_case fresh_case apply_case

      -- values have the shape that their sorts ask for
      pub shapes : Shapes sig y num reduce choosing assigned
      shapes = record {
        numbers = λ t s e n. numbers_shape s (ev sig y num reduce choosing assigned t) n (fine t s e).0;
        records = λ t s ss e r. record_shape t s ss e r;
      }
        where
          not_number : (s : Sort) (ss : List Sort) → record_fields sig s ≡ Some ss → is_numeric s ≡ false
          not_number s ss r = let i = is_record sig s ss r in ap is_numeric i.is ∙ named_not_numeric i.type i.sorts

          record_shape : (t : Term) (s : Sort) (ss : List Sort) → sort_of sig t ≡ Some s → record_fields sig s ≡ Some ss
              → IsRecordValue ss (ev sig y num reduce choosing assigned t)
          record_shape t s ss e r =
              let f = fields_shape s ss (ev sig y num reduce choosing assigned t) r (not_number s ss r) (fine t s e).0 in
              let l = listed ss f.0 f.2 in
              (l.0, f.1 ∙ ap fields l.1, l.2)

-- A `solve` line is in step with a value put for a name.
use Rattle.std.specs.Prelude.{ℕ, ℤ, zero, suc, Bool, true, false, cond, nat_eq, List, [], ◌∷◌, ◌++◌, ◌≡◌, ◌≢◌, map, length, slice_get, Option, Some, None}
use Rattle.std.specs.List.{AllByRecursion}
use Rattle.std.proofs.Common.{refl, sym, ap, ◌∙◌, subst, inl, inr}
use Rattle.std.proofs.lemmas.Bool.{ne_eqb}
use Rattle.std.proofs.lemmas.Option.{same_Some}
use native.Mathlib.Decide.{ℕ_discrete}
use Rattle.ae_base.specs.Options.{or_else}
use Rattle.ae_base.proofs.AllOf.{all_weaker}
use Rattle.ae_base.proofs.Decided.{pick_no}
use Rattle.ae_base.proofs.Tests.{by_bool}
use Rattle.ae_math.specs.Fractions.{zero_ℚ, ratio, ◌+ℚ◌}
use Rattle.ae_math.specs.Forms.{Form, number as number_form, factor_in, substitute}
use Rattle.ae_math.proofs.FormLaws.{substitute_absent}
use Rattle.ae_core.specs.Sorts.{sort_of, is_numeric}
use Rattle.ae_core.specs.declared.terms.Sort.{Sort, Bool as BoolSort}
use Rattle.ae_core.specs.declared.terms.Term.{Term, Fresh, Apply}
use Rattle.ae_core.specs.declared.terms.Head.{Head}
use Rattle.ae_core.specs.declared.problems.Signature.{Signature}
use Rattle.ae_num.specs.Forms.{meaning as form_of}
use Rattle.ae_num.specs.declared.forms.Lin.{Lin}
use Rattle.ae_num.specs.declared.forms.Part.{Part}
use Rattle.ae_num.specs.declared.forms.Value.{Value, Value-F, Leaf, Number, Fields, ind-Value, map-Value, roll-Value}
use Rattle.ae_num.specs.declared.forms.Value.TheOpen as layer
use Rattle.ae_num.specs.declared.forms.Value.TheVariants.{rolls-Leaf, rolls-Number, rolls-Fields}
use Rattle.ae_journal.specs.Values.{Val, leaf, fields, more as with_more, vals, meaning}
use Rattle.ae_journal.specs.Systems.{IsName, own, linear, record_fields, field_terms}
use Rattle.ae_journal.specs.Evaluation.{depth_of}
use Rattle.ae_journal.specs.TermValues.{put_leaf, put_leaves, solved, leaf_of, each_field, opaque_at, opaque, value_by}
use Rattle.ae_journal.specs.declared.lines.Oriented.TheVariants as oriented
use Rattle.ae_journal.specs.declared.lines.Line.{Line}
use Rattle.ae_journal.specs.declared.lines.Line.TheVariants as line
use Rattle.ae_journal.specs.declared.systems.System.{System}
use Rattle.ae_settled.specs.Held.{Held, terms_of, system_of}
use Rattle.ae_settled.specs.Valued.{HaveValues, IsOwnNumber, AreValues}
use Rattle.ae_settled.proofs.Leaves.{leaf_fields, number_fields, same_fields}
use Rattle.ae_value_changes.specs.Put.{with_values}
use Rattle.ae_name_lines.specs.Closed.{AreClosed}
use Rattle.ae_name_lines.specs.InStep.{AreLineValues}
use Rattle.ae_name_lines.specs.Laws.{PutNumbersAreInStep, PutLeavesAreInStep}
use Rattle.ae_name_lines.proofs.Values.{fresh_is, application_is}
use Rattle.ae_name_lines.proofs.Solving.{solved-append}
use Rattle.ae_name_lines.proofs.Spelled.{val_of, same_val, put_val}
use Rattle.ae_name_lines.proofs.Written.{leaf_means, number_means, fields_mean, no_leaf, same_leaf, same_number}
use Rattle.ae_name_lines.proofs.Linear.{none_alike}
use Rattle.ae_name_lines.proofs.Computed.{is_free, has_value, free_is, all_right}

-- ---- what the line makes of what nothing computes
module _ (sig : Signature) (names : List Term) (js : List Line) (m : ℕ) (w : Value) where
  abbrev solving : List Line
  solving = js ++ line.Orient (oriented.Named m w) ∷ []

  solved_put : (v : Val) → solved (js ++ line.Orient (oriented.Named m w) ∷ []) v ≡ put_leaf m (meaning w) (solved js v)
  solved_put v = solved-append js (line.Orient (oriented.Named m w) ∷ []) v

  abbrev Puts : ℕ → Type 0
  Puts d = (s : Sort) (t : Term) → opaque_at sig names solving d s t ≡ put_leaf m (meaning w) (opaque_at sig names js d s t)

  each_put : (d : ℕ) → Puts d → (ss : List Sort) (us : List Term) → each_field sig names (opaque_at sig names solving d) ss us ≡ put_leaves m (meaning w) (each_field sig names (opaque_at sig names js d) ss us)
  each_put d f [] [] = refl
  each_put d f [] (u ∷ us) = refl
  each_put d f (s ∷ ss) [] = refl
  each_put d f (s ∷ ss) (u ∷ us) = λ i. with_more (f s u i) (each_put d f ss us i)

  by_fields : (d : ℕ) → Puts d → (s : Sort) (t : Term) (q : Option (List Sort))
      → elim q as (λ _. Val) [ None ↦ solved solving (own s (leaf_of names t)) | Some ss ↦ fields (each_field sig names (opaque_at sig names solving d) ss (field_terms s t (length ss))) ]
      ≡ put_leaf m (meaning w) (elim q as (λ _. Val) [ None ↦ solved js (own s (leaf_of names t)) | Some ss ↦ fields (each_field sig names (opaque_at sig names js d) ss (field_terms s t (length ss))) ])
  by_fields d f s t None = solved_put (own s (leaf_of names t))
  by_fields d f s t (Some ss) = ap fields (each_put d f ss (field_terms s t (length ss)))

  opaque_at_put : (d : ℕ) → Puts d
  opaque_at_put zero s t = solved_put (own s (leaf_of names t))
  opaque_at_put (suc d) s t = by_fields d (opaque_at_put d) s t (record_fields sig s)

  opaque_put : (t : Term) → opaque sig names (js ++ line.Orient (oriented.Named m w) ∷ []) t ≡ put_leaf m (meaning w) (opaque sig names js t)
  opaque_put t = let s = or_else (sort_of sig t) BoolSort in opaque_at_put (depth_of sig s) s t

-- ---- leaves and numbers among the values
module _ (sig : Signature) (y : System) (closed : AreClosed sig y.names) (are : AreValues sig y) where
  -- a leaf that is a value is its own value
  leaf_by : (n k : ℕ) (t : Term) (s : Sort) → IsName y n t → slice_get y.values n ≡ Some (Leaf k) → sort_of sig t ≡ Some s → is_numeric s ≡ false → (q : Option (List Sort)) → record_fields sig s ≡ q
      → slice_get y.values k ≡ Some (Leaf k)
  leaf_by n k t s e a o m None f =
      let h = are.others n t s (Leaf k) e o a m f in
      let z : k ≡ h.leaf = same_leaf k h.leaf h.is in
      subst (λ (i : ℕ). slice_get y.values i ≡ Some (Leaf i)) (sym z) h.over.own
  leaf_by n k t s e a o m (Some ss) f = let h = are.records n t s ss (Leaf k) e o a f in absurd (leaf_fields k h.fields h.is)

  leaf_own : (n k : ℕ) (t : Term) → IsName y n t → slice_get y.values n ≡ Some (Leaf k) → slice_get y.values k ≡ Some (Leaf k)
  leaf_own n k t e a = elim (closed.sorted n t e) [
    | inl s ↦ by_bool (is_numeric s.0) (λ m. let h = are.numbers n t s.0 (Leaf k) e s.1 a m in absurd (no_leaf k h.form h.is)) (λ m. leaf_by n k t s.0 e a s.1 m (record_fields sig s.0) refl)
    | inr p ↦
        let z : k ≡ n = same_leaf k n (same_Some (Leaf k) (Leaf n) (sym a ∙ are.predicates n t e p)) in
        subst (λ (i : ℕ). slice_get y.values i ≡ Some (Leaf k)) (sym z) a
  ]

  -- a number is over numbers that are their own values, and so not over a name that is a leaf
  number_by : (n : ℕ) (f : Lin) (t : Term) (s : Sort) (P : Type 0) → IsName y n t → slice_get y.values n ≡ Some (Number f) → sort_of sig t ≡ Some s → is_numeric s ≡ false → (q : Option (List Sort)) → record_fields sig s ≡ q → P
  number_by n f t s P e a o m None r = let h = are.others n t s (Number f) e o a m r in absurd (no_leaf h.leaf f (sym h.is))
  number_by n f t s P e a o m (Some ss) r = let h = are.records n t s ss (Number f) e o a r in absurd (number_fields f h.fields h.is)

  pub number_over : (n : ℕ) (t : Term) (f : Lin) → IsName y n t → slice_get y.values n ≡ Some (Number f) → (s : Sort) × AllByRecursion (λ (p : Part). IsOwnNumber sig y s p.key) f.parts
  number_over n t f e a = elim (closed.sorted n t e) [
    | inl s ↦ by_bool (is_numeric s.0)
        (λ m.
        let h = are.numbers n t s.0 (Number f) e s.1 a m in
        (s.0, subst (λ (g : Lin). AllByRecursion (λ (p : Part). IsOwnNumber sig y s.0 p.key) g.parts) (sym (same_number f h.form h.is)) h.over))
        (λ m. number_by n f t s.0 ((o : Sort) × AllByRecursion (λ (p : Part). IsOwnNumber sig y o p.key) f.parts) e a s.1 m (record_fields sig s.0) refl)
    | inr p ↦ absurd (no_leaf n f (same_Some (Leaf n) (Number f) (sym (are.predicates n t e p) ∙ a)))
  ]

  not_over : (k n : ℕ) (f : Lin) (t : Term) → slice_get y.values k ≡ Some (Leaf k) → IsName y n t → slice_get y.values n ≡ Some (Number f) → AllByRecursion (λ (p : Part). p.key ≢ k) f.parts
  not_over k n f t l e a =
      let o = number_over n t f e a in
      all_weaker (λ (p : Part). IsOwnNumber sig y o.0 p.key) (λ (p : Part). p.key ≢ k)
      (λ p h q. no_leaf k h.value (same_Some (Leaf k) (Number h.value) (sym l ∙ ap (slice_get y.values) (sym q) ∙ h.value_is))) f.parts o.1

  -- ---- a value that is a list of fields is that of a record
  record IsRecordName (t : Term) : Type 0 where
    sort : Sort
    sorts : List Sort
    is : sort_of sig t ≡ Some sort
    known : record_fields sig sort ≡ Some sorts

  record_by : (n : ℕ) (ws : List Value) (t : Term) (s : Sort) → IsName y n t → slice_get y.values n ≡ Some (Fields ws) → sort_of sig t ≡ Some s → is_numeric s ≡ false → (q : Option (List Sort)) → record_fields sig s ≡ q
      → IsRecordName t
  record_by n ws t s e a o m None r = let h = are.others n t s (Fields ws) e o a m r in absurd (leaf_fields h.leaf ws (sym h.is))
  record_by n ws t s e a o m (Some ss) r = record { sort = s; sorts = ss; is = o; known = r }

  record_of : (n : ℕ) (ws : List Value) (t : Term) → IsName y n t → slice_get y.values n ≡ Some (Fields ws) → IsRecordName t
  record_of n ws t e a = elim (closed.sorted n t e) [
    | inl s ↦ by_bool (is_numeric s.0) (λ m. let h = are.numbers n t s.0 (Fields ws) e s.1 a m in absurd (number_fields h.form ws (sym h.is))) (λ m. record_by n ws t s.0 e a s.1 m (record_fields sig s.0) refl)
    | inr p ↦ absurd (leaf_fields n ws (same_Some (Leaf n) (Fields ws) (sym (are.predicates n t e p) ∙ a)))
  ]

-- ---- all values, with one put for the name m
module _ (x : Held) (us : List Value) (closed : AreClosed x.signature (terms_of x)) (old : AreValues x.signature (system_of x)) (new : AreValues x.signature (system_of (with_values x us))) (m : ℕ) (w : Val)
    (numbers : (n : ℕ) (f : Lin) (t : Term) → IsName (system_of x) n t → slice_get x.values n ≡ Some (Number f) → (g : Lin) × (slice_get us n ≡ Some (Number g)) × (val_of (form_of g) ≡ put_leaf m w (val_of (form_of f))))
    (leaves : (n k : ℕ) → slice_get x.values n ≡ Some (Leaf k) → slice_get x.values k ≡ Some (Leaf k) → (j : ℕ) × (slice_get us n ≡ Some (Leaf j)) × (leaf j ≡ put_leaf m w (leaf k))) where
  abbrev IsPut : Value → Type 0
  IsPut v = (n : ℕ) (t : Term) (u : Value) → IsName (system_of x) n t → slice_get x.values n ≡ Some v → slice_get us n ≡ Some u → meaning u ≡ put_leaf m w (meaning v)

  leaf_put : (k : ℕ) → IsPut (Leaf k)
  leaf_put k n t u e a b =
      let c = leaves n k a (leaf_own x.signature (system_of x) closed old n k t e a) in
      ap meaning (same_Some u (Leaf c.0) (sym b ∙ c.1)) ∙ leaf_means c.0 ∙ c.2 ∙ ap (put_leaf m w) (sym (leaf_means k))

  number_put : (f : Lin) → IsPut (Number f)
  number_put f n t u e a b =
      let c = numbers n f t e a in
      ap meaning (same_Some u (Number c.0) (sym b ∙ c.1)) ∙ number_means c.0 ∙ c.2 ∙ ap (put_leaf m w) (sym (number_means f))

  fields_put : (ts : List Term) (ys : List ((v : Value) × IsPut v)) (ws : List Value) → HaveValues (system_of x) ts (map {A = (v : Value) × IsPut v} (λ e. e.0) ys) → HaveValues (system_of (with_values x us)) ts ws
      → vals (map meaning ws) ≡ put_leaves m w (vals (map meaning (map {A = (v : Value) × IsPut v} (λ e. e.0) ys)))
  fields_put [] [] [] h k = refl
  fields_put [] [] (u ∷ ws) h k = absurd k
  fields_put [] (y ∷ ys) ws h k = absurd h
  fields_put (t ∷ ts) [] ws h k = absurd h
  fields_put (t ∷ ts) (y ∷ ys) [] h k = absurd k
  fields_put (t ∷ ts) (y ∷ ys) (u ∷ ws) h k =
      let first = y.1 (h.0).name t u (h.0).is (h.0).value (ap (slice_get us) (closed.apart (h.0).name (k.0).name t (h.0).is (k.0).is) ∙ (k.0).value) in
      let rest = fields_put ts ys ws h.1 k.1 in
      λ i. with_more (first i) (rest i)

  record_put : (ys : List ((v : Value) × IsPut v)) → IsPut (Fields (map {A = (v : Value) × IsPut v} (λ e. e.0) ys))
  record_put ys n t u e a b =
      let r = record_of x.signature (system_of x) closed old n (map {A = (v : Value) × IsPut v} (λ e. e.0) ys) t e a in
      let h = old.records n t r.sort r.sorts (Fields (map {A = (v : Value) × IsPut v} (λ e. e.0) ys)) e r.is a r.known in
      let k = new.records n t r.sort r.sorts u e r.is b r.known in
      let have = subst (HaveValues (system_of x) (field_terms r.sort t (length r.sorts))) (sym (same_fields (map {A = (v : Value) × IsPut v} (λ e. e.0) ys) h.fields h.is)) h.are in
      ap meaning k.is ∙ fields_mean k.fields ∙ ap fields (fields_put (field_terms r.sort t (length r.sorts)) ys k.fields have k.are)
      ∙ ap (put_leaf m w) (sym (fields_mean (map {A = (v : Value) × IsPut v} (λ e. e.0) ys)))

  layer_put : (y : Value-F ((v : Value) × IsPut v)) → IsPut (roll-Value (map-Value ((v : Value) × IsPut v) Value (λ e. e.0) y))
  layer_put (layer.Leaf k) = subst IsPut (sym (rolls-Leaf k)) (leaf_put k)
  layer_put (layer.Number f) = subst IsPut (sym (rolls-Number f)) (number_put f)
  layer_put (layer.Fields ys) = subst IsPut (sym (rolls-Fields (map {A = (v : Value) × IsPut v} (λ e. e.0) ys))) (record_put ys)

  each_is_put : (v : Value) → IsPut v
  each_is_put = ind-Value IsPut (λ z y e. subst (λ z. IsPut (roll-Value z)) e (layer_put y))

  -- so the line that puts the value is in step
  module _ (js : List Line) (q : Value) (is : meaning q ≡ w) (step : AreLineValues x.signature (terms_of x) x.values js) where
    opaque_right : (n : ℕ) (t : Term) (u : Value) → IsName (system_of x) n t → slice_get us n ≡ Some u → value_by x.signature (terms_of x) js t ≡ opaque x.signature (terms_of x) js t
        → meaning u ≡ opaque x.signature (terms_of x) (js ++ line.Orient (oriented.Named m q) ∷ []) t
    opaque_right n t u e b o =
        let v = has_value x.signature (system_of x) js closed old n t e in
        each_is_put v.0 n t u e v.1 b ∙ ap (put_leaf m w) (step n t v.0 e v.1 ∙ o) ∙ ap (λ (z : Val). put_leaf m z (opaque x.signature (terms_of x) js t)) (sym is)
        ∙ sym (opaque_put x.signature (terms_of x) js m q t)

    free_right : (n : ℕ) (h : Head) (ss : List Sort) (ts : List Term) (u : Value) → IsName (system_of x) n (Apply h ss ts) → slice_get us n ≡ Some u → is_free h ≡ true
        → linear h (map (λ a. (a, value_by x.signature (terms_of x) (js ++ line.Orient (oriented.Named m q) ∷ []) a)) ts) ≡ None
        → meaning u ≡ opaque x.signature (terms_of x) (js ++ line.Orient (oriented.Named m q) ∷ []) (Apply h ss ts)
    free_right n h ss ts u e b f l =
        opaque_right n (Apply h ss ts) u e b
        (application_is x.signature (terms_of x) js h ss ts
        ∙ free_is x.signature (terms_of x) js h ss ts f
        (none_alike (value_by x.signature (terms_of x) (js ++ line.Orient (oriented.Named m q) ∷ [])) (value_by x.signature (terms_of x) js) h ts l))

    put_in_step : AreLineValues x.signature (terms_of x) us (js ++ line.Orient (oriented.Named m q) ∷ [])
    put_in_step =
        all_right x.signature (system_of (with_values x us)) (js ++ line.Orient (oriented.Named m q) ∷ []) closed new
        (λ n k s u e b. opaque_right n (Fresh k s) u e b (fresh_is x.signature (terms_of x) js k s)) free_right

-- ---- a number
number_elsewhere : (name k : ℕ) (w : Val) → ¬ (k ≡ name) → leaf k ≡ put_leaf name w (leaf k)
number_elsewhere name k w d = ap (λ b. cond b w (leaf k)) (sym (ne_eqb k name d))

pub put_numbers_are_in_step : PutNumbersAreInStep
put_numbers_are_in_step x s name q us js closed old new p step =
    put_in_step x us closed old new name (meaning (Number q))
    (λ n f t e a. let c = p.numbers n f a in (
      c.0,
      c.1,
      same_val (form_of c.0) (substitute ℕ_discrete (form_of f) name (form_of q)) c.3 ∙ sym (put_val name (form_of q) (form_of f)) ∙ ap (λ (z : Val). put_leaf name z (val_of (form_of f))) (sym (number_means q)),
    ))
    (λ n k a l. (
      k,
      p.leaves n k a,
      number_elsewhere name k (meaning (Number q)) (λ z. no_leaf k p.own.value (same_Some (Leaf k) (Number p.own.value) (sym l ∙ ap (slice_get x.values) z ∙ p.own.value_is))),
    ))
    js (Number q) refl step

-- ---- a name
pub no_factor : (d : ℤ) (k : ℕ) (ps : List Part) → AllByRecursion (λ p. p.key ≢ k) ps → factor_in ℕ_discrete (map (λ p. (p.key, ratio p.factor d)) ps) k ≡ zero_ℚ
no_factor d k [] a = refl
no_factor d k (p ∷ ps) a =
    pick_no (ℕ_discrete p.key k) (ratio p.factor d +ℚ factor_in ℕ_discrete (map (λ p. (p.key, ratio p.factor d)) ps) k) (factor_in ℕ_discrete (map (λ p. (p.key, ratio p.factor d)) ps) k) a.0 ∙ no_factor d k ps a.1

leaf_chosen : (b : Bool) (m k : ℕ) → leaf (cond b m k) ≡ cond b (leaf m) (leaf k)
leaf_chosen true m k = refl
leaf_chosen false m k = refl

-- a leaf put for what a form doesn't have leaves its value
form_stays : (f : Form ℕ) (name m : ℕ) → factor_in ℕ_discrete f.parts name ≡ zero_ℚ → val_of f ≡ put_leaf name (leaf m) (val_of f)
form_stays f name m z = sym (put_val name (number_form zero_ℚ) f ∙ same_val (substitute ℕ_discrete f name (number_form zero_ℚ)) f (substitute_absent ℕ_discrete f name (number_form zero_ℚ) z))

pub put_leaves_are_in_step : PutLeavesAreInStep
put_leaves_are_in_step x s name m us js closed old new p step =
    put_in_step x us closed old new name (leaf m)
    (λ n f t e a. (f, p.numbers n f a, form_stays (form_of f) name m (no_factor f.den name f.parts (not_over x.signature (system_of x) closed old name n f t p.own.own e a))))
    (λ n k a l. (cond (nat_eq k name) m k, p.leaves n k a, leaf_chosen (nat_eq k name) m k)) js (Leaf m) (leaf_means m) step

-- Values that are computed where their terms are, are those that lines make of the terms, where this holds of what nothing computes.
use Rattle.std.specs.Prelude.{ℕ, ℤ, zero, suc, ◌+◌, ◌<◌, Bool, true, false, cond, ◌&&◌, List, [], ◌∷◌, ◌≡◌, map, length, slice_get, Option, Some, None}
use Rattle.std.specs.List.{AllByRecursion}
use Rattle.std.proofs.Common.{refl, sym, ap, ◌∙◌, subst, arith, inl, inr}
use Rattle.std.proofs.lemmas.Bool.{and_parts}
use Rattle.std.proofs.lemmas.List.{length-map}
use Rattle.std.proofs.lemmas.Option.{same_Some, none-some, slice_get_within}
use Rattle.ae_base.specs.Options.{or_else, when}
use Rattle.ae_base.proofs.ListFacts.{value_at as there, get_map, cons_head, cons_tail}
use Rattle.ae_base.proofs.Options.{when_some, known_each}
use Rattle.ae_base.proofs.Tests.{false_true}
use Rattle.ae_math.specs.Fractions.{ratio}
use Rattle.ae_math.specs.Forms.{number as number_form}
use Rattle.ae_core.specs.Sorts.{sort_of, is_closed_sort, is_numeric, numeral_ok, same_sorts, operands, on_real}
use Rattle.ae_core.specs.Inner.Induction.{by_terms}
use Rattle.ae_core.proofs.SortLaws.{sort_in_bound, sort_in_num}
use Rattle.ae_core.specs.declared.terms.Sort.{Sort, Int, Real, Named}
use Rattle.ae_core.specs.declared.terms.Sort.TheVariants.{outs-Named}
use Rattle.ae_core.specs.declared.terms.Term.{Term, Term-F, Bound, Num, Fresh, Apply, out-Term}
use Rattle.ae_core.specs.declared.terms.Term.TheOpen as layer
use Rattle.ae_core.specs.declared.terms.Term.TheVariants.{outs-Apply, outs-Bound, outs-Num}
use Rattle.ae_core.specs.declared.terms.Op.{Op}
use Rattle.ae_core.specs.declared.terms.Op.TheVariants as op
use Rattle.ae_core.specs.declared.terms.Head.{Head}
use Rattle.ae_core.specs.declared.terms.Head.TheVariants as head
use Rattle.ae_core.specs.declared.problems.Signature.{Signature}
use Rattle.ae_rules.specs.Lines.{fields_from}
use Rattle.ae_num.specs.Forms.{meaning as form_of}
use Rattle.ae_num.specs.declared.forms.Lin.{Lin}
use Rattle.ae_num.specs.declared.forms.Value.{Value, Number}
use Rattle.ae_journal.specs.Values.{Val, fields, vals, val_at, nothing, meaning}
use Rattle.ae_journal.specs.Systems.{IsName, IsPredicateName, linear, record_fields, field_terms, field_terms_of}
use Rattle.ae_journal.specs.TermValues.{field_of, opaque, value_by}
use Rattle.ae_journal.specs.declared.lines.Line.{Line}
use Rattle.ae_journal.specs.declared.systems.System.{System}
use Rattle.ae_evaluation.proofs.Decisions.{same_list}
use Rattle.ae_evaluation.proofs.SortFacts.{is_applied, is_built, is_field, of_numeric}
use Rattle.ae_settled.specs.Valued.{HasValue, HaveValues, HaveForms, AreValues, linear_form, with_forms}
use Rattle.ae_settled.proofs.Sorts.{predicate_apart}
use Rattle.ae_name_lines.specs.Closed.{IsAmong, AreClosed}
use Rattle.ae_name_lines.specs.InStep.{AreLineValues}
use Rattle.ae_name_lines.proofs.Values.{with_values, valued, num_is, fresh_is, application_is}
use Rattle.ae_name_lines.proofs.MoreNames.{no_predicate}
use Rattle.ae_name_lines.proofs.Spelled.{val_of, same_val}
use Rattle.ae_name_lines.proofs.Written.{number_means, fields_mean}
use Rattle.ae_name_lines.proofs.Linear.{vals_of, forms_of, linear_made}

-- neither a written record nor a field
abbrev pub is_free : Head → Bool
is_free (head.Build n) = false
is_free (head.Field n i) = false
is_free _ = true

-- ---- lists of fields
pub field_at : (k : ℕ) (ss : List Sort) (a : Term) (i c j : ℕ) → j < c → slice_get (fields_from k ss a i c) j ≡ Some (Apply (head.Field k (i + j)) ss (a ∷ []))
field_at k ss a i zero j l = absurd (omega (arith, l))
field_at k ss a i (suc c) zero l = ap (λ (n : ℕ). Some (Apply (head.Field k n) ss (a ∷ []))) (let z : i ≡ i + 0 = omega arith in z)
field_at k ss a i (suc c) (suc j) l = field_at k ss a (suc i) c j (omega (arith, l)) ∙ ap (λ (n : ℕ). Some (Apply (head.Field k n) ss (a ∷ []))) (let z : suc i + j ≡ i + suc j = omega arith in z)

pub val_at-vals : (vs : List Val) (i : ℕ) → val_at (vals vs) i ≡ slice_get vs i
val_at-vals [] i = refl
val_at-vals (v ∷ vs) zero = refl
val_at-vals (v ∷ vs) (suc i) = val_at-vals vs i

record HasValueAt (y : System) (t : Term) (vs : List Value) (i : ℕ) : Type 0 where
  value : Value
  at : slice_get vs i ≡ Some value
  has : HasValue y t value

have_at : (y : System) (ts : List Term) (vs : List Value) → HaveValues y ts vs → (i : ℕ) (t : Term) → slice_get ts i ≡ Some t → HasValueAt y t vs i
have_at y [] [] h i t e = absurd (none-some t e)
have_at y [] (v ∷ vs) h i t e = absurd h
have_at y (u ∷ ts) [] h i t e = absurd h
have_at y (u ∷ ts) (v ∷ vs) h zero t e = record { value = v; at = refl; has = subst (λ w. HasValue y w v) (same_Some u t e) h.0 }
have_at y (u ∷ ts) (v ∷ vs) h (suc i) t e = let r = have_at y ts vs h.1 i t e in record { value = r.value; at = r.at; has = r.has }

pub terms_of_named : (k : ℕ) (ss : List Sort) (t : Term) (c : ℕ) → field_terms (Named k ss) t c ≡ fields_from k ss t 0 c
terms_of_named k ss t c = ap (λ l. field_terms_of l t c) (outs-Named k ss)

-- ---- sorts of arguments
all_operands : (o : Op) (s : Sort) → AllByRecursion (λ r. r ≡ s) (operands o (s ∷ []))
all_operands op.Neg s = (refl, tt)
all_operands op.Add s = (refl, (refl, tt))
all_operands op.Sub s = (refl, (refl, tt))
all_operands op.Mul s = (refl, (refl, tt))
all_operands op.Div s = (refl, (refl, tt))
all_operands op.Mod s = (refl, (refl, tt))

operand_sorts : (c : Bool) (o : Op) (args : List Sort) (s r : Sort) → when (c && same_sorts args (operands o (r ∷ []))) r ≡ Some s → (s ≡ r) × AllByRecursion (λ q. q ≡ r) args
operand_sorts c o args s r e =
    let w = when_some (c && same_sorts args (operands o (r ∷ []))) r s e in
    let q = same_list args (operands o (r ∷ [])) (and_parts c (same_sorts args (operands o (r ∷ []))) w.0).1 in
    (sym w.1, subst (AllByRecursion (λ q. q ≡ r)) (sym q) (all_operands o r))

argument_sorts : (sig : Signature) (us : List Term) (args : List Sort) (o : Sort) → map (sort_of sig) us ≡ map Some args → AllByRecursion (λ r. r ≡ o) args → AllByRecursion (λ u. sort_of sig u ≡ Some o) us
argument_sorts sig [] args o e a = tt
argument_sorts sig (u ∷ us) [] o e a = absurd (cc)
argument_sorts sig (u ∷ us) (r ∷ rs) o e a = (
  cons_head (sort_of sig u) (Some r) (map (sort_of sig) us) (map Some rs) e ∙ ap (λ (s : Sort). Some s) a.0,
  argument_sorts sig us rs o (cons_tail (sort_of sig u) (Some r) (map (sort_of sig) us) (map Some rs) e) a.1,
)

no_bound : (sig : Signature) (k : ℕ) → IsPredicateName sig (Bound k) → ⊥
no_bound sig k p = let z : ◌≡◌ {A = Term-F Term} (layer.Bound k) (layer.Apply (head.Symbol p.0) p.1 p.2) = sym (outs-Bound k) ∙ ap out-Term p.3 ∙ outs-Apply (head.Symbol p.0) p.1 p.2 in cc z

no_num : (sig : Signature) (a b : ℤ) (r : Bool) → IsPredicateName sig (Num a b r) → ⊥
no_num sig a b r p = let z : ◌≡◌ {A = Term-F Term} (layer.Num a b r) (layer.Apply (head.Symbol p.0) p.1 p.2) = sym (outs-Num a b r) ∙ ap out-Term p.3 ∙ outs-Apply (head.Symbol p.0) p.1 p.2 in cc z

numeral_sort : (r : Bool) → is_numeric (cond r Real Int) ≡ true
numeral_sort true = of_numeric Real (inr refl)
numeral_sort false = of_numeric Int (inl refl)

-- where a value is stated it is that, otherwise another
stated_or : (v other : Val) (o : Option Val) → ((w : Val) → o ≡ Some w → v ≡ w) → (o ≡ None → v ≡ other) → v ≡ or_else o other
stated_or v other (Some w) f g = f w refl
stated_or v other None f g = g refl

module _ (sig : Signature) (y : System) (js : List Line) (closed : AreClosed sig y.names) (are : AreValues sig y) where
  abbrev IsRight : Term → Type 0
  IsRight t = (n : ℕ) (v : Value) → IsName y n t → slice_get y.values n ≡ Some v → meaning v ≡ value_by sig y.names js t

  pub has_value : (n : ℕ) (t : Term) → IsName y n t → (v : Value) × (slice_get y.values n ≡ Some v)
  has_value n t e = let l : n < length y.names = slice_get_within y.names n t e in there y.values n (omega (arith, l, are.one_each))

  -- ---- linear operations
  record HasForm (t : Term) : Type 0 where
    form : Lin
    has : HasValue y t (Number form)
    is : value_by sig y.names js t ≡ val_of (form_of form)

  form_there : (s : Sort) (t : Term) → is_numeric s ≡ true → sort_of sig t ≡ Some s → IsAmong y.names t → IsRight t → HasForm t
  form_there s t m o a right =
      let w = has_value a.0 t a.1 in
      let h = are.numbers a.0 t s w.0 a.1 o w.1 m in
      record {
        form = h.form;
        has = record { name = a.0; is = a.1; value = w.1 ∙ ap (λ v. Some v) h.is };
        is = sym (right a.0 w.0 a.1 w.1) ∙ ap meaning h.is ∙ number_means h.form;
      }

  record HaveNumbers (us : List Term) : Type 0 where
    forms : List Lin
    have : HaveForms y us forms
    pairs : List (Term × Lin)
    vals_are : with_values sig y.names js us ≡ vals_of pairs
    forms_are : with_forms us forms ≡ forms_of pairs

  numbers_there : (s : Sort) → is_numeric s ≡ true → (us : List Term) → AllByRecursion (λ u. sort_of sig u ≡ Some s) us → AllByRecursion (IsAmong y.names) us → AllByRecursion IsRight us → HaveNumbers us
  numbers_there s m [] o a right = record { forms = []; have = tt; pairs = []; vals_are = refl; forms_are = refl }
  numbers_there s m (u ∷ us) o a right =
      let f = form_there s u m o.0 a.0 right.0 in
      let r = numbers_there s m us o.1 a.1 right.1 in
      record {
        forms = f.form ∷ r.forms;
        have = (f.has, r.have);
        pairs = (u, f.form) ∷ r.pairs;
        vals_are = λ i. (u, f.is i) ∷ r.vals_are i;
        forms_are = λ i. (u, form_of f.form) ∷ r.forms_are i;
      }

  operation_right : (s : Sort) → is_numeric s ≡ true → (n : ℕ) (h : Head) (ss : List Sort) (us : List Term) (v : Value) (w : Val) → IsName y n (Apply h ss us) → slice_get y.values n ≡ Some v
      → sort_of sig (Apply h ss us) ≡ Some s → AllByRecursion (λ u. sort_of sig u ≡ Some s) us → AllByRecursion IsRight us → linear h (with_values sig y.names js us) ≡ Some w → meaning v ≡ w
  operation_right s m n h ss us v w e a o os right l =
      let r = numbers_there s m us os (closed.arguments n h ss us e) right in
      let c = linear_made h r.pairs w (ap (linear h) (sym r.vals_are) ∙ l) in
      let f = are.numbers n (Apply h ss us) s v e o a m in
      let q = are.operations n h ss us r.forms f.form c.made e (a ∙ ap (λ v. Some v) f.is) r.have (ap (linear_form h) r.forms_are ∙ c.is) in
      ap meaning f.is ∙ number_means f.form ∙ same_val (form_of f.form) c.made q ∙ sym c.value

  int_right : (n : ℕ) (o : Op) (ss : List Sort) (us : List Term) (v : Value) (w : Val) → IsName y n (Apply (head.Int o) ss us) → slice_get y.values n ≡ Some v → AllByRecursion IsRight us
      → linear (head.Int o) (with_values sig y.names js us) ≡ Some w → meaning v ≡ w
  int_right n o ss us v w e a right l = elim (closed.sorted n (Apply (head.Int o) ss us) e) [
    | inl s ↦
        let b = is_applied sig (head.Int o) ss us s.0 s.1 in
        let g = operand_sorts (same_sorts ss []) o b.args s.0 Int b.headed in
        let os = argument_sorts sig us b.args Int (known_each (sort_of sig) us b.args b.known) g.1 in
        operation_right Int (of_numeric Int (inl refl)) n (head.Int o) ss us v w e a (s.1 ∙ ap (λ (q : Sort). Some q) g.0) os right l
    | inr p ↦ absurd (predicate_apart sig (head.Int o) ss us Int p refl)
  ]

  real_right : (n : ℕ) (o : Op) (ss : List Sort) (us : List Term) (v : Value) (w : Val) → IsName y n (Apply (head.Real o) ss us) → slice_get y.values n ≡ Some v → AllByRecursion IsRight us
      → linear (head.Real o) (with_values sig y.names js us) ≡ Some w → meaning v ≡ w
  real_right n o ss us v w e a right l = elim (closed.sorted n (Apply (head.Real o) ss us) e) [
    | inl s ↦
        let b = is_applied sig (head.Real o) ss us s.0 s.1 in
        let g = operand_sorts (on_real o && same_sorts ss []) o b.args s.0 Real b.headed in
        let os = argument_sorts sig us b.args Real (known_each (sort_of sig) us b.args b.known) g.1 in
        operation_right Real (of_numeric Real (inr refl)) n (head.Real o) ss us v w e a (s.1 ∙ ap (λ (q : Sort). Some q) g.0) os right l
    | inr p ↦ absurd (predicate_apart sig (head.Real o) ss us Real p refl)
  ]

  -- ---- numerals
  num_right : (a b : ℤ) (r : Bool) → IsRight (Num a b r)
  num_right a b r n v e w = elim (closed.sorted n (Num a b r) e) [
    | inl s ↦
        let q = when_some (numeral_ok a b r) (cond r Real Int) s.0 (sym (sort_in_num sig (is_closed_sort sig) [] a b r) ∙ s.1) in
        let m : is_numeric s.0 ≡ true = subst (λ o. is_numeric o ≡ true) q.1 (numeral_sort r) in
        let h = are.numbers n (Num a b r) s.0 v e s.1 w m in
        let f = are.numerals n a b r h.form e (w ∙ ap (λ v. Some v) h.is) in
        ap meaning h.is ∙ number_means h.form ∙ same_val (form_of h.form) (number_form (ratio a b)) f ∙ sym (num_is sig y.names js a b r)
    | inr p ↦ absurd (no_num sig a b r p)
  ]

  bound_right : (k : ℕ) → IsRight (Bound k)
  bound_right k n v e w = elim (closed.sorted n (Bound k) e) [
    | inl s ↦ absurd (none-some s.0 (sym (sort_in_bound sig (is_closed_sort sig) [] k) ∙ s.1))
    | inr p ↦ absurd (no_bound sig k p)
  ]

  -- ---- fields
  record IsFieldOf (k i : ℕ) (ss : List Sort) (us : List Term) : Type 0 where
    sorts : List Sort
    sort : Sort
    known : record_fields sig (Named k ss) ≡ Some sorts
    at : slice_get sorts i ≡ Some sort
    args : map (sort_of sig) us ≡ Some (Named k ss) ∷ []

  field_of_record : (n k i : ℕ) (ss : List Sort) (us : List Term) → IsName y n (Apply (head.Field k i) ss us) → IsFieldOf k i ss us
  field_of_record n k i ss us e = elim (closed.sorted n (Apply (head.Field k i) ss us) e) [
    | inl s ↦
        let a = is_applied sig (head.Field k i) ss us s.0 s.1 in
        let g = is_field sig k i ss a.args s.0 a.headed in
        record { sorts = g.sorts; sort = s.0; known = g.fields; at = g.at; args = known_each (sort_of sig) us a.args a.known ∙ ap (map (λ (r : Sort). Some r)) g.args_are }
    | inr p ↦ absurd (no_predicate sig k i ss us p)
  ]

  field_right : (n k i : ℕ) (ss : List Sort) (a : Term) (v : Value) → IsName y n (Apply (head.Field k i) ss (a ∷ [])) → slice_get y.values n ≡ Some v → IsRight a
      → meaning v ≡ field_of sig y.names (value_by sig y.names js a) i
  field_right n k i ss a v e w right =
      let f = field_of_record n k i ss (a ∷ []) e in
      let o : sort_of sig a ≡ Some (Named k ss) = cons_head (sort_of sig a) (Some (Named k ss)) [] [] f.args in
      let m = (closed.arguments n (head.Field k i) ss (a ∷ []) e).0 in
      let x = has_value m.0 a m.1 in
      let h = are.records m.0 a (Named k ss) f.sorts x.0 m.1 o x.1 f.known in
      let l : i < length f.sorts = slice_get_within f.sorts i f.sort f.at in
      let at : slice_get (fields_from k ss a 0 (length f.sorts)) i ≡ Some (Apply (head.Field k i) ss (a ∷ [])) =
      field_at k ss a 0 (length f.sorts) i l ∙ ap (λ (j : ℕ). Some (Apply (head.Field k j) ss (a ∷ []))) (let z : 0 + i ≡ i = omega arith in z) in
      let g = have_at y (fields_from k ss a 0 (length f.sorts)) h.fields (subst (λ ts. HaveValues y ts h.fields) (terms_of_named k ss a (length f.sorts)) h.are) i (Apply (head.Field k i) ss (a ∷ [])) at in
      let same : v ≡ g.value = same_Some v g.value (sym w ∙ ap (slice_get y.values) (closed.apart n g.has.name (Apply (head.Field k i) ss (a ∷ [])) e g.has.is) ∙ g.has.value) in
      let is : value_by sig y.names js a ≡ fields (vals (map meaning h.fields)) = sym (right m.0 x.0 m.1 x.1) ∙ ap meaning h.is ∙ fields_mean h.fields in
      ap meaning same ∙ ap (λ (q : Option Val). or_else q nothing) (sym (val_at-vals (map meaning h.fields) i ∙ get_map meaning h.fields i g.value g.at)) ∙ sym (ap (λ (u : Val). field_of sig y.names u i) is)

  no_field : (n k i : ℕ) (ss : List Sort) → IsName y n (Apply (head.Field k i) ss []) → ⊥
  no_field n k i ss e = let f = field_of_record n k i ss [] e in let z : ◌≡◌ {A = List (Option Sort)} [] (Some (Named k ss) ∷ []) = f.args in cc z

  two_fields : (n k i : ℕ) (ss : List Sort) (a b : Term) (us : List Term) → IsName y n (Apply (head.Field k i) ss (a ∷ b ∷ us)) → ⊥
  two_fields n k i ss a b us e =
      let f = field_of_record n k i ss (a ∷ b ∷ us) e in
      let z : sort_of sig b ∷ map (sort_of sig) us ≡ [] = cons_tail (sort_of sig a) (Some (Named k ss)) (sort_of sig b ∷ map (sort_of sig) us) [] f.args in cc z

  -- ---- written records
  -- the values of the fields, from the one in a place on
  built_from : (k : ℕ) (ss : List Sort) (us : List Term) (i : ℕ) (ws : List Term) → ((j : ℕ) → slice_get us (i + j) ≡ slice_get ws j) → AllByRecursion (IsAmong y.names) ws → AllByRecursion IsRight ws
      → (vs : List Value) → HaveValues y (fields_from k ss (Apply (head.Build k) ss us) i (length ws)) vs → map meaning vs ≡ map (value_by sig y.names js) ws
  built_from k ss us i [] at a r [] h = refl
  built_from k ss us i [] at a r (v ∷ vs) h = absurd h
  built_from k ss us i (w ∷ ws) at a r [] h = absurd h
  built_from k ss us i (w ∷ ws) at a r (v ∷ vs) h =
      let x = has_value a.0.0 w a.0.1 in
      let z : i ≡ i + 0 = omega arith in
      let q = are.written (h.0).name k i ss us w x.0 (h.0).is (ap (slice_get us) z ∙ at 0) (record { name = a.0.0; is = a.0.1; value = x.1 }) in
      let first : meaning v ≡ value_by sig y.names js w = ap meaning (same_Some v x.0 (sym (h.0).value ∙ q)) ∙ r.0 a.0.0 x.0 a.0.1 x.1 in
      let shift : (j : ℕ) → suc i + j ≡ i + suc j = λ j. omega arith in
      let rest = built_from k ss us (suc i) ws (λ j. ap (slice_get us) (shift j) ∙ at (suc j)) a.1 r.1 vs h.1 in
      λ j. first j ∷ rest j

  built_right : (n k : ℕ) (ss : List Sort) (us : List Term) (v : Value) → IsName y n (Apply (head.Build k) ss us) → slice_get y.values n ≡ Some v → AllByRecursion IsRight us
      → meaning v ≡ fields (vals (map (value_by sig y.names js) us))
  built_right n k ss us v e w right = elim (closed.sorted n (Apply (head.Build k) ss us) e) [
    | inl s ↦
        let a = is_applied sig (head.Build k) ss us s.0 s.1 in
        let b = is_built sig k ss a.args s.0 a.headed in
        let h = are.records n (Apply (head.Build k) ss us) (Named k ss) a.args v e (s.1 ∙ ap (λ (o : Sort). Some o) (sym b.is)) w b.fields in
        let l : length a.args ≡ length us = sym (length-map a.args (λ (r : Sort). Some r)) ∙ ap length (sym (known_each (sort_of sig) us a.args a.known)) ∙ length-map us (sort_of sig) in
        let have = subst (λ ts. HaveValues y ts h.fields) (terms_of_named k ss (Apply (head.Build k) ss us) (length a.args) ∙ ap (fields_from k ss (Apply (head.Build k) ss us) 0) l) h.are in
        ap meaning h.is ∙ fields_mean h.fields
        ∙ ap (λ (vs : List Val). fields (vals vs))
        (built_from k ss us 0 us (λ j. let z : 0 + j ≡ j = omega arith in ap (slice_get us) z) (closed.arguments n (head.Build k) ss us e) right h.fields have)
    | inr p ↦ absurd (predicate_apart sig (head.Build k) ss us (Named k ss) p refl)
  ]

  -- ---- all of it, where what nothing computes is right
  module _ (fresh : (n k : ℕ) (s : Sort) (v : Value) → IsName y n (Fresh k s) → slice_get y.values n ≡ Some v → meaning v ≡ opaque sig y.names js (Fresh k s))
      (free : (n : ℕ) (h : Head) (ss : List Sort) (us : List Term) (v : Value) → IsName y n (Apply h ss us) → slice_get y.values n ≡ Some v → is_free h ≡ true
      → linear h (with_values sig y.names js us) ≡ None → meaning v ≡ opaque sig y.names js (Apply h ss us)) where
    applied : (h : Head) (ss : List Sort) (us : List Term) → AllByRecursion IsRight us → (n : ℕ) (v : Value) → IsName y n (Apply h ss us) → slice_get y.values n ≡ Some v
        → meaning v ≡ valued sig y.names js h ss us
    applied (head.Build k) ss us right n v e w = built_right n k ss us v e w right
    applied (head.Field k i) ss [] right n v e w = absurd (no_field n k i ss e)
    applied (head.Field k i) ss (a ∷ []) right n v e w = field_right n k i ss a v e w right.0
    applied (head.Field k i) ss (a ∷ b ∷ us) right n v e w = absurd (two_fields n k i ss a b us e)
    applied (head.Symbol k) ss us right n v e w = free n (head.Symbol k) ss us v e w refl refl
    applied head.True ss us right n v e w = free n head.True ss us v e w refl refl
    applied head.False ss us right n v e w = free n head.False ss us v e w refl refl
    applied head.Void ss us right n v e w = free n head.Void ss us v e w refl refl
    applied (head.Int o) ss us right n v e w =
        stated_or (meaning v) (opaque sig y.names js (Apply (head.Int o) ss us)) (linear (head.Int o) (with_values sig y.names js us)) (λ u l. int_right n o ss us v u e w right l)
        (free n (head.Int o) ss us v e w refl)
    applied (head.Real o) ss us right n v e w =
        stated_or (meaning v) (opaque sig y.names js (Apply (head.Real o) ss us)) (linear (head.Real o) (with_values sig y.names js us)) (λ u l. real_right n o ss us v u e w right l)
        (free n (head.Real o) ss us v e w refl)

    right : (t : Term) → IsRight t
    right =
        by_terms IsRight bound_right num_right (λ k s n v e w. fresh n k s v e w ∙ sym (fresh_is sig y.names js k s))
        (λ h ss us each n v e w. applied h ss us each n v e w ∙ sym (application_is sig y.names js h ss us))

    pub all_right : AreLineValues sig y.names y.values js
    all_right n t v e w = right t n v e w

-- what an application has that nothing computes
pub free_is : (sig : Signature) (names : List Term) (js : List Line) (h : Head) (ss : List Sort) (us : List Term) → is_free h ≡ true → linear h (with_values sig names js us) ≡ None
    → valued sig names js h ss us ≡ opaque sig names js (Apply h ss us)
free_is sig names js (head.Build k) ss us f n = false_true f
free_is sig names js (head.Field k i) ss us f n = false_true f
free_is sig names js (head.Symbol k) ss us f n = refl
free_is sig names js head.True ss us f n = refl
free_is sig names js head.False ss us f n = refl
free_is sig names js head.Void ss us f n = refl
free_is sig names js (head.Int o) ss us f n = ap (λ (q : Option Val). or_else q (opaque sig names js (Apply (head.Int o) ss us))) n
free_is sig names js (head.Real o) ss us f n = ap (λ (q : Option Val). or_else q (opaque sig names js (Apply (head.Real o) ss us))) n

-- Names evaluate to their values.
use Rattle.std.specs.Prelude.{ℕ, zero, suc, ℤ, ◌+◌, ◌<◌, ◌≤◌, Bool, true, false, cond, List, [], ◌∷◌, ◌++◌, ◌≡◌, ◌⊎◌, map, length, slice_get, Option, Some, None}
use Rattle.std.specs.List.{AllByRecursion}
use Rattle.std.proofs.Common.{inl, inr}
use Rattle.std.proofs.lemmas.Bool.{cases_lt}
use mathlib.Core.Path.{refl, sym, ap, ◌∙◌, subst}
use native.Mathlib.Omega.{arith}
use Rattle.ae_core.specs.Inner.Induction.{by_terms}
use Rattle.ae_core.specs.Decided.{Sort_discrete}
use Rattle.ae_rules.specs.Linear.{form, is_number}
use Rattle.ae_core.specs.Sorts.{sort_of, is_closed_sort, head_sort}
use Rattle.ae_base.specs.Options.{or_else, all_known, ◌>>=◌}
use Rattle.ae_rules.specs.Lines.{fields_from}
use Rattle.ae_core.specs.Signatures.{IsLawful}
use Rattle.ae_core.proofs.SortLaws.{sort_in_bound}
use Rattle.ae_core.specs.declared.terms.Sort.{Sort, Int, Named}
use Rattle.ae_core.specs.declared.terms.Sort.TheVariants.{outs-Named}
use Rattle.ae_core.specs.declared.terms.Term.{Term, Bound, Num, Fresh, Apply}
use Rattle.ae_core.specs.declared.terms.Head.{Head}
use Rattle.ae_core.specs.declared.terms.Head.TheVariants as head
use Rattle.ae_core.specs.declared.terms.Op.TheVariants as op
use Rattle.ae_core.specs.declared.problems.Signature.{Signature}
use Rattle.ae_journal.specs.Values.{Val, Val_discrete, fields, vals, meaning}
use Rattle.ae_journal.specs.Keys.{Numbering, constant, applied}
use Rattle.ae_journal.specs.Systems.{IsCompleted, IsName, IsNamed, IsJoin, value_at, ValueOf, ValuesOf, Has, Represents, linear, field_terms, field_terms_of}
use Rattle.ae_journal.specs.Evaluation.{Reduction, ev, value_of, new, free_value, other_value, applied_value, whole, members, is_ac}
use Rattle.ae_evaluation.proofs.Linear.{ev-Apply, rest_of, ev-Fresh}
use Rattle.ae_evaluation.proofs.SortFacts.{IsApplied, is_applied, is_built, is_field, result_is, ac_arguments}
use Rattle.ae_evaluation.proofs.Sane.{sort_for}
use Rattle.ae_evaluation.proofs.Shape.{ac_is}
use Rattle.ae_evaluation.proofs.Names.{value_by_term, linear_name, numeral_name, free_name, joined_name, field_name}
use Rattle.ae_journal.specs.declared.systems.System.{System}
use Rattle.ae_base.proofs.Options.{bind_some}
use Rattle.std.proofs.lemmas.Option.{same_Some, slice_get_within}
use Rattle.ae_base.proofs.ListFacts.{value_at as at_place}

-- ---- a name with a value has a representative
module _ (sig : Signature) (y : System) (s : Sort) (v : Val) where
  has_or_not : (n : ℕ) → Has sig y s v n ⊎ (Has sig y s v n → ⊥)
  has_or_not n = by_term (slice_get y.names n) refl
    where
      none_term : (o : Option Term) → o ≡ slice_get y.names n → o ≡ None → Has sig y s v n → ⊥
      none_term o e f h = let z : ◌≡◌ {A = Option Term} None (Some h.term) = sym f ∙ e ∙ h.is in cc

      by_value : (t : Term) → IsName y n t → sort_of sig t ≡ Some s → (o : Option Val) → o ≡ value_at y n
          → Has sig y s v n ⊎ (Has sig y s v n → ⊥)
      by_value t i q None e = inr (λ h. let z : ◌≡◌ {A = Option Val} None (Some v) = e ∙ h.value in cc)
      by_value t i q (Some w) e = elim (Val_discrete w v) [
        | yes d ↦ inl (record { term = t; is = i; sort = q; value = sym e ∙ ap (λ u. Some u) d })
        | no d ↦ inr (λ h. d (same_Some w v (e ∙ h.value)))
      ]

      by_sort : (t : Term) → IsName y n t → (o : Option Sort) → o ≡ sort_of sig t → Has sig y s v n ⊎ (Has sig y s v n → ⊥)
      by_sort t i None e =
          inr (λ h. let z : ◌≡◌ {A = Option Sort} None (Some s) = e ∙ ap (sort_of sig) (same_Some t h.term (sym i ∙ h.is)) ∙ h.sort in cc)
      by_sort t i (Some o) e = elim (Sort_discrete o s) [
        | yes d ↦ by_value t i (sym e ∙ ap (λ u. Some u) d) (value_at y n) refl
        | no d ↦ inr (λ h. d (same_Some o s (e ∙ ap (sort_of sig) (same_Some t h.term (sym i ∙ h.is)) ∙ h.sort)))
      ]

      by_term : (o : Option Term) → o ≡ slice_get y.names n → Has sig y s v n ⊎ (Has sig y s v n → ⊥)
      by_term None e = inr (none_term None e refl)
      by_term (Some t) e = by_sort t (sym e) (sort_of sig t) refl

  least_below : (k : ℕ) → ((r : ℕ) × Represents sig y s v r) ⊎ ((m : ℕ) → m < k → Has sig y s v m → ⊥)
  least_below zero = inr (λ m h a. omega (arith, h))
  least_below (suc k) = elim (least_below k) as (λ _. ((r : ℕ) × Represents sig y s v r) ⊎ ((m : ℕ) → m < suc k → Has sig y s v m → ⊥)) [
    | inl r ↦ inl r
    | inr f ↦ elim (has_or_not k) as (λ _. ((r : ℕ) × Represents sig y s v r) ⊎ ((m : ℕ) → m < suc k → Has sig y s v m → ⊥)) [
      | inl h ↦ inl (
        k,
        record {
          has = h;
          least = λ m a. elim (cases_lt m k) as
              (λ _. k ≤ m) [ inl l ↦ absurd (f m l a) | inr l ↦ omega (arith, l) ];
        },
      )
      | inr n ↦ inr (λ m l a. elim (cases_lt m k) as
          (λ _. ⊥) [ inl i ↦ f m i a | inr i ↦ let z : m ≡ k = omega (arith, l, i) in n (subst (Has sig y s v) z a) ])
    ]
  ]

  pub represented : (n : ℕ) → Has sig y s v n → (r : ℕ) × Represents sig y s v r
  represented n h =
      elim (least_below (suc n)) as (λ _. (r : ℕ) × Represents sig y s v r) [ inl r ↦ r | inr f ↦ absurd (f n (omega arith) h) ]

-- ---- the terms of a record's fields
fields_at : (n : ℕ) (ss : List Sort) (t : Term) (i k j : ℕ) → j < k
    → slice_get (fields_from n ss t i k) j ≡ Some (Apply (head.Field n (j + i)) ss (t ∷ []))
fields_at n ss t i zero j h = absurd (omega (arith, h))
fields_at n ss t i (suc k) zero h = let z : i ≡ zero + i = omega arith in ap (λ (m : ℕ). Some (Apply (head.Field n m) ss (t ∷ []))) z
fields_at n ss t i (suc k) (suc j) h =
    let z : j + suc i ≡ suc j + i = omega arith in
    fields_at n ss t (suc i) k j (omega (arith, h)) ∙ ap (λ (m : ℕ). Some (Apply (head.Field n m) ss (t ∷ []))) z

pub field_term : (n : ℕ) (ss : List Sort) (t : Term) (k j : ℕ) → j < k
    → slice_get (field_terms (Named n ss) t k) j ≡ Some (Apply (head.Field n j) ss (t ∷ []))
field_term n ss t k j h =
    let z : j + 0 ≡ j = omega arith in
    ap (λ ts. slice_get ts j) (ap (λ f. field_terms_of f t k) (outs-Named n ss)) ∙ fields_at n ss t 0 k j h ∙ ap
    (λ (m : ℕ). Some (Apply (head.Field n m) ss (t ∷ []))) z

length-fields : (n : ℕ) (ss : List Sort) (t : Term) (i k : ℕ) → length (fields_from n ss t i k) ≡ k
length-fields n ss t i zero = refl
length-fields n ss t i (suc k) = ap suc (length-fields n ss t (suc i) k)

pub length-field_terms : (n : ℕ) (ss : List Sort) (t : Term) (k : ℕ) → length (field_terms (Named n ss) t k) ≡ k
length-field_terms n ss t k = ap (λ f. length (field_terms_of f t k)) (outs-Named n ss) ∙ length-fields n ss t 0 k

same_lists : (vs ws : List Val) → length vs ≡ length ws → ((i : ℕ) (v w : Val) → slice_get vs i ≡ Some v → slice_get ws i ≡ Some w → v ≡ w)
    → vs ≡ ws
same_lists [] [] e h = refl
same_lists [] (w ∷ ws) e h = absurd (omega (arith, e))
same_lists (v ∷ vs) [] e h = absurd (omega (arith, e))
same_lists (v ∷ vs) (w ∷ ws) e h = λ i. h 0 v w refl refl i ∷ same_lists vs ws (omega (arith, e)) (λ j a b p q. h (suc j) a b p q) i

values_length : (y : System) (ts : List Term) (vs : List Val) → ValuesOf y ts vs → length vs ≡ length ts
values_length y [] [] h = refl
values_length y [] (v ∷ vs) h = absurd h
values_length y (t ∷ ts) [] h = absurd h
values_length y (t ∷ ts) (v ∷ vs) h = ap suc (values_length y ts vs h.1)

value_there : (y : System) (ts : List Term) (vs : List Val) (i : ℕ) (t : Term) (v : Val) → ValuesOf y ts vs → slice_get ts i ≡ Some t
    → slice_get vs i ≡ Some v → ValueOf y t v
value_there y [] vs i t v h e f = absurd (cc)
value_there y (u ∷ us) [] i t v h e f = absurd (cc)
value_there y (u ∷ us) (w ∷ ws) zero t v h e f = subst (λ (z : Term × Val). ValueOf y z.0 z.1) (λ i. (same_Some u t e i, same_Some w v f i)) h.0
value_there y (u ∷ us) (w ∷ ws) (suc i) t v h e f = value_there y us ws i t v h.1 e f

two_sorts : (A B : Option Sort) (s r : Sort) → all_known (A ∷ B ∷ []) ≡ Some (s ∷ r ∷ []) → (A ≡ Some s) × (B ≡ Some r)
two_sorts A B s r e =
    let b = bind_some A (λ x. all_known (B ∷ []) >>= λ xs. Some (x ∷ xs)) (s ∷ r ∷ []) e in
    let c = bind_some (all_known (B ∷ [])) (λ xs. Some (b.0 ∷ xs)) (s ∷ r ∷ []) b.2 in
    let d = bind_some B (λ x. all_known [] >>= λ xs. Some (x ∷ xs)) c.0 c.1 in
    let z : b.0 ∷ c.0 ≡ s ∷ r ∷ [] = same_Some (b.0 ∷ c.0) (s ∷ r ∷ []) c.2 in
    let w : d.0 ∷ [] ≡ c.0 = same_Some (d.0 ∷ []) c.0 d.2 in
    let p : b.0 ≡ s = cc in
    let q : d.0 ≡ r = cc in
    (b.1 ∙ ap (λ (x : Sort). Some x) p, d.1 ∙ ap (λ (x : Sort). Some x) q)

known_length : (f : Term → Option Sort) (ts : List Term) (args : List Sort) → all_known (map f ts) ≡ Some args → length ts ≡ length args
known_length f [] args e = let z : [] ≡ args = same_Some [] args e in ap (length {A = Sort}) z
known_length f (t ∷ ts) args e =
    let b = bind_some (f t) (λ x. all_known (map f ts) >>= λ xs. Some (x ∷ xs)) args e in
    let c = bind_some (all_known (map f ts)) (λ xs. Some (b.0 ∷ xs)) args b.2 in
    let z : b.0 ∷ c.0 ≡ args = same_Some (b.0 ∷ c.0) args c.2 in
    ap suc (known_length f ts c.0 c.1) ∙ ap (length {A = Sort}) z

both_false : (p q : Bool) (v w : Val) → ◌≡◌ {A = Option Val} (cond p (Some v) (cond q (Some w) None)) None → (p ≡ false) × (q ≡ false)
both_false true q v w e = absurd (cc)
both_false false true v w e = absurd (cc)
both_false false false v w e = (refl, refl)

module _ (sig : Signature) (lawful : IsLawful sig) (y : System) (num : Numbering) (reduce : Head → List Sort → List ℕ → List ℕ)
    (choosing : Bool) (completed : IsCompleted sig y) (reduction : Reduction y reduce)
    (assigned : ℕ → Sort → Option Val)
    (keeps : (n : ℕ) (s : Sort) (v w : Val) → assigned n s ≡ Some v → ValueOf y (Fresh n s) w → v ≡ w) where
  -- a named term has a value
  valued : (t : Term) → IsNamed y t → (v : Val) × ValueOf y t v
  valued t i =
      let b = slice_get_within y.names i.0 t i.1 in
      let w = at_place y.values i.0 (omega (arith, b, completed.values)) in
      (meaning w.0, (i.0, i.1, ap (λ o. o >>= λ w. Some (meaning w)) w.1))

  abbrev pub Evaluates : Term → Type 0
  Evaluates t = (s : Sort) (v : Val) → sort_of sig t ≡ Some s → ValueOf y t v → ev sig y num reduce choosing assigned t ≡ v

  bound_case : (n : ℕ) → Evaluates (Bound n)
  bound_case n s v e o = let z : ◌≡◌ {A = Option Sort} None (Some s) = sym (sort_in_bound sig (is_closed_sort sig) [] n) ∙ e in absurd (cc)

  num_case : (a b : ℤ) (r : Bool) → Evaluates (Num a b r)
  num_case a b r s v e o = numeral_name sig y num reduce choosing completed assigned o.0 a b r v o.1 o.2

  fresh_case : (n : ℕ) (o : Sort) → Evaluates (Fresh n o)
  fresh_case n o s v e q = ev-Fresh sig y num reduce choosing assigned n o ∙ go (assigned n o) refl
    where
      go : (p : Option Val) → p ≡ assigned n o
          → or_else p (or_else (value_of sig y num reduce choosing (Fresh n o)) (new sig y num reduce choosing o (constant n o))) ≡ v
      go (Some w) f = keeps n o w v (sym f) q
      go None f =
          ap (λ p. or_else p (new sig y num reduce choosing o (constant n o)))
          (value_by_term sig y num reduce choosing completed q.0 (Fresh n o) v q.1 q.2)

  -- arguments that are named evaluate to their values
  arguments : (ts : List Term) (args : List Sort) → AllByRecursion Evaluates ts → AllByRecursion (IsNamed y) ts
      → all_known (map (sort_of sig) ts) ≡ Some args → ValuesOf y ts (map (ev sig y num reduce choosing assigned) ts)
  arguments [] args a i e = tt
  arguments (t ∷ ts) args a i e =
      let b = bind_some (sort_of sig t) (λ x. all_known (map (sort_of sig) ts) >>= λ xs. Some (x ∷ xs)) args e in
      let c = bind_some (all_known (map (sort_of sig) ts)) (λ xs. Some (b.0 ∷ xs)) args b.2 in
      let w = valued t i.0 in
      let f = a.0 b.0 w.0 b.1 w.1 in
      (subst (ValueOf y t) (sym f) w.1, arguments ts c.0 a.1 i.1 c.1)

  module _ (h : Head) (ss : List Sort) (ts : List Term) (s : Sort) (v : Val) (e : sort_of sig (Apply h ss ts) ≡ Some s)
      (q : ValueOf y (Apply h ss ts) v) (values : ValuesOf y ts (map (ev sig y num reduce choosing assigned) ts)) where
    is_sorted : IsApplied sig h ss ts s
    is_sorted = is_applied sig h ss ts s e

    free_case : free_value sig y num reduce choosing h ss s (map (ev sig y num reduce choosing assigned) ts) ≡ v
    free_case =
        ap (λ o. or_else o (new sig y num reduce choosing s (applied h ss (map (ev sig y num reduce choosing assigned) ts))))
        (free_name sig y num reduce choosing completed q.0 h ss ts (map (ev sig y num reduce choosing assigned) ts) s v q.1 q.2 e values)

    -- ---- records
    build_case : (n : ℕ) → h ≡ head.Build n → fields (vals (map (ev sig y num reduce choosing assigned) ts)) ≡ v
    build_case n z = go (subst (λ (k : Head). head_sort sig k ss is_sorted.args ≡ Some s) z is_sorted.headed)
      where
        vs : List Val
        vs = map (ev sig y num reduce choosing assigned) ts

        t : Term
        t = Apply h ss ts

        go : head_sort sig (head.Build n) ss is_sorted.args ≡ Some s → fields (vals (map (ev sig y num reduce choosing assigned) ts)) ≡ v
        go o =
            let b = is_built sig n ss is_sorted.args s o in
            let rec = completed.record_value q.0 t (Named n ss) is_sorted.args q.1 (e ∙ ap (λ (x : Sort). Some x) (sym b.is)) b.fields in
            let k = length is_sorted.args in
            let l = values_length y (field_terms (Named n ss) t k) rec.0 rec.2 in
            let m = length-field_terms n ss t k in
            let c = values_length y ts vs values in
            let d = known_length (sort_of sig) ts is_sorted.args is_sorted.known in
            let same : vs ≡ rec.0 =
            same_lists vs rec.0 (omega (arith, l, m, c, d)) (λ i a w f g.
            let low = slice_get_within vs i a f in
            let u = at_place ts i (omega (arith, low, c)) in
            let of_field =
            value_there y (field_terms (Named n ss) t k) rec.0 i (Apply (head.Field n i) ss (t ∷ [])) w rec.2
            (field_term n ss t k i (omega (arith, low, c, d))) g in
            let of_part = value_there y ts vs i u.0 a values u.1 f in
            let written =
            completed.written of_field.0 n i ss ts u.0 a
            (of_field.1 ∙ ap (λ (k : Head). Some (Apply (head.Field n i) ss (Apply k ss ts ∷ []))) z) u.1 of_part in
            same_Some a w (sym written ∙ of_field.2)) in
            ap (λ (us : List Val). fields (vals us)) same ∙ same_Some (fields (vals rec.0)) v (sym rec.1 ∙ q.2)

  field_case : (n i : ℕ) (ss : List Sort) (r : Term) (s : Sort) (v : Val) → sort_of sig (Apply (head.Field n i) ss (r ∷ [])) ≡ Some s
      → ValueOf y (Apply (head.Field n i) ss (r ∷ [])) v → ValueOf y r (ev sig y num reduce choosing assigned r)
      → ev sig y num reduce choosing assigned (Apply (head.Field n i) ss (r ∷ [])) ≡ v
  field_case n i ss r s v e q w =
      let a = is_applied sig (head.Field n i) ss (r ∷ []) s e in
      let f = is_field sig n i ss a.args s a.headed in
      let b = bind_some (sort_of sig r) (λ x. all_known [] >>= λ xs. Some (x ∷ xs)) a.args a.known in
      let z : b.0 ∷ [] ≡ a.args = same_Some (b.0 ∷ []) a.args b.2 in
      let same : b.0 ∷ [] ≡ Named n ss ∷ [] = z ∙ f.args_are in
      let o : b.0 ≡ Named n ss = cc in
      field_name sig y num reduce choosing completed assigned q.0 w.0 n i ss r (Named n ss) f.sorts v
      (ev sig y num reduce choosing assigned r) q.1 q.2 w.1 w.2 (b.1 ∙ ap (λ (x : Sort). Some x) o) f.fields
      (field_term n ss r (length f.sorts) i (slice_get_within f.sorts i s f.at)) refl

  -- ---- AC applications
  is_join : (h : Head) (a b : Term) (v w : Val) → is_ac sig y num reduce choosing h ≡ true → linear h ((a, v) ∷ (b, w) ∷ []) ≡ None
      → IsJoin sig h a b
  is_join (head.Symbol n) a b v w c l = ac_is sig lawful y num reduce choosing completed reduction (head.Symbol n) c
  is_join (head.Int op.Mul) a b v w c l = both_false (is_number (form a)) (is_number (form b)) _ _ l
  is_join (head.Real op.Mul) a b v w c l = both_false (is_number (form a)) (is_number (form b)) _ _ l
  is_join (head.Build n) a b v w c l = absurd (cc)
  is_join (head.Field n k) a b v w c l = absurd (cc)
  is_join head.True a b v w c l = absurd (cc)
  is_join head.False a b v w c l = absurd (cc)
  is_join head.Void a b v w c l = absurd (cc)
  is_join (head.Int op.Add) a b v w c l = absurd (cc)
  is_join (head.Int op.Sub) a b v w c l = absurd (cc)
  is_join (head.Int op.Neg) a b v w c l = absurd (cc)
  is_join (head.Int op.Div) a b v w c l = absurd (cc)
  is_join (head.Int op.Mod) a b v w c l = absurd (cc)
  is_join (head.Real op.Add) a b v w c l = absurd (cc)
  is_join (head.Real op.Sub) a b v w c l = absurd (cc)
  is_join (head.Real op.Neg) a b v w c l = absurd (cc)
  is_join (head.Real op.Div) a b v w c l = absurd (cc)
  is_join (head.Real op.Mod) a b v w c l = absurd (cc)

  has_of : (t : Term) (s : Sort) (v : Val) (w : ValueOf y t v) → sort_of sig t ≡ Some s → Has sig y s v w.0
  has_of t s v w e = record { term = t; is = w.1; sort = e; value = w.2 }

  ac_case : (h : Head) (ss : List Sort) (a b : Term) (s : Sort) (v : Val) → sort_of sig (Apply h ss (a ∷ b ∷ [])) ≡ Some s
      → ValueOf y (Apply h ss (a ∷ b ∷ [])) v
      → ValueOf y a (ev sig y num reduce choosing assigned a) → ValueOf y b (ev sig y num reduce choosing assigned b)
      → is_ac sig y num reduce choosing h ≡ true
      → linear h ((a, ev sig y num reduce choosing assigned a) ∷ (b, ev sig y num reduce choosing assigned b) ∷ []) ≡ None
      → whole sig y num reduce choosing h ss s
      (reduce h ss (members sig y num reduce choosing h ss s (ev sig y num reduce choosing assigned a)
      ++ members sig y num reduce choosing h ss s (ev sig y num reduce choosing assigned b))) ≡ v
  ac_case h ss a b s v e q wa wb c l =
      let va = ev sig y num reduce choosing assigned a in
      let vb = ev sig y num reduce choosing assigned b in
      let k = is_applied sig h ss (a ∷ b ∷ []) s e in
      let args = ac_arguments sig lawful h ss k.args s (ac_is sig lawful y num reduce choosing completed reduction h c) k.headed in
      let sorts = two_sorts (sort_of sig a) (sort_of sig b) s s (k.known ∙ ap (λ (x : List Sort). Some x) args) in
      let p = represented sig y s va wa.0 (has_of a s va wa sorts.0) in
      let r = represented sig y s vb wb.0 (has_of b s vb wb sorts.1) in
      let z = represented sig y s v q.0 (has_of (Apply h ss (a ∷ b ∷ [])) s v q e) in
      let f =
      completed.joins q.0 h ss a b p.0 r.0 z.0 q.1 (is_join h a b va vb c l)
      (record { sort = s; value = va; sorted = sorts.0; valued = wa; represents = p.1 })
      (record { sort = s; value = vb; sorted = sorts.1; valued = wb; represents = r.1 })
      (record { sort = s; value = v; sorted = e; valued = q; represents = z.1 }) in
      let same : sort_for sig y num reduce choosing h ss ≡ s = ap (λ o. or_else o Int) (result_is sig h ss k.args s k.headed) in
      subst (λ (o : Sort). whole sig y num reduce choosing h ss o
      (reduce h ss (members sig y num reduce choosing h ss o va ++ members sig y num reduce choosing h ss o vb)) ≡ v) same
      (joined_name sig y num reduce choosing completed reduction h ss p.0 r.0 z.0 va vb v
      (subst (λ (o : Sort). Represents sig y o va p.0) (sym same) p.1)
      (subst (λ (o : Sort). Represents sig y o vb r.0) (sym same) r.1) (subst (λ (o : Sort). Represents sig y o v z.0) (sym same) z.1) f)

  -- ---- all applications
  other_case : (h : Head) (ss : List Sort) (ts : List Term) (s : Sort) (v : Val) → sort_of sig (Apply h ss ts) ≡ Some s
      → ValueOf y (Apply h ss ts) v → ValuesOf y ts (map (ev sig y num reduce choosing assigned) ts)
      → linear h (map (λ t. (t, ev sig y num reduce choosing assigned t)) ts) ≡ None
      → other_value sig y num reduce choosing h ss s (map (ev sig y num reduce choosing assigned) ts) ≡ v
  other_case h ss [] s v e q vs l = free_case h ss [] s v e q vs
  other_case h ss (a ∷ []) s v e q vs l = free_case h ss (a ∷ []) s v e q vs
  other_case h ss (a ∷ b ∷ []) s v e q vs l = by_test (is_ac sig y num reduce choosing h) refl
    where
      by_test : (c : Bool) → c ≡ is_ac sig y num reduce choosing h
          → cond c (whole sig y num reduce choosing h ss s
          (reduce h ss (members sig y num reduce choosing h ss s (ev sig y num reduce choosing assigned a)
          ++ members sig y num reduce choosing h ss s (ev sig y num reduce choosing assigned b))))
          (free_value sig y num reduce choosing h ss s
          (ev sig y num reduce choosing assigned a ∷ ev sig y num reduce choosing assigned b ∷ [])) ≡ v
      by_test true z = ac_case h ss a b s v e q vs.0 (vs.1).0 (sym z) l
      by_test false z = free_case h ss (a ∷ b ∷ []) s v e q vs
  other_case h ss (a ∷ b ∷ c ∷ ts) s v e q vs l = free_case h ss (a ∷ b ∷ c ∷ ts) s v e q vs

  rest_case : (h : Head) (ss : List Sort) (ts : List Term) (s : Sort) (v : Val) → sort_of sig (Apply h ss ts) ≡ Some s
      → ValueOf y (Apply h ss ts) v → ValuesOf y ts (map (ev sig y num reduce choosing assigned) ts)
      → linear h (map (λ t. (t, ev sig y num reduce choosing assigned t)) ts) ≡ None
      → applied_value sig y num reduce choosing h ss s (map (ev sig y num reduce choosing assigned) ts) ≡ v
  rest_case (head.Build n) ss ts s v e q vs l = build_case (head.Build n) ss ts s v e q vs n refl
  rest_case (head.Field n i) ss [] s v e q vs l = other_case (head.Field n i) ss [] s v e q vs l
  rest_case (head.Field n i) ss (r ∷ []) s v e q vs l =
      sym (ev-Apply sig y num reduce choosing assigned (head.Field n i) ss (r ∷ [])) ∙ field_case n i ss r s v e q vs.0
  rest_case (head.Field n i) ss (r ∷ t ∷ ts) s v e q vs l = other_case (head.Field n i) ss (r ∷ t ∷ ts) s v e q vs l
  rest_case (head.Symbol n) ss ts s v e q vs l = other_case (head.Symbol n) ss ts s v e q vs l
  rest_case (head.Int o) ss ts s v e q vs l = other_case (head.Int o) ss ts s v e q vs l
  rest_case (head.Real o) ss ts s v e q vs l = other_case (head.Real o) ss ts s v e q vs l
  rest_case head.True ss ts s v e q vs l = other_case head.True ss ts s v e q vs l
  rest_case head.False ss ts s v e q vs l = other_case head.False ss ts s v e q vs l
  rest_case head.Void ss ts s v e q vs l = other_case head.Void ss ts s v e q vs l

  apply_case : (h : Head) (ss : List Sort) (ts : List Term) → AllByRecursion Evaluates ts → Evaluates (Apply h ss ts)
  apply_case h ss ts a s v e q = by_linear (linear h (map (λ t. (t, ev sig y num reduce choosing assigned t)) ts)) refl
    where
      k : IsApplied sig h ss ts s
      k = is_applied sig h ss ts s e

      vs : ValuesOf y ts (map (ev sig y num reduce choosing assigned) ts)
      vs = arguments ts k.args a (completed.subterms q.0 h ss ts q.1) k.known

      by_linear : (o : Option Val) → linear h (map (λ t. (t, ev sig y num reduce choosing assigned t)) ts) ≡ o
          → ev sig y num reduce choosing assigned (Apply h ss ts) ≡ v
      by_linear (Some w) l = linear_name sig y num reduce choosing completed assigned q.0 h ss ts v w q.1 q.2 vs l
      by_linear None l =
          ev-Apply sig y num reduce choosing assigned h ss ts ∙ ap (λ o. or_else o (rest_of sig y num reduce choosing assigned h ss ts)) l
          ∙ ap (λ o. applied_value sig y num reduce choosing h ss (or_else o Int) (map (ev sig y num reduce choosing assigned) ts))
          (result_is sig h ss k.args s k.headed)
          ∙ rest_case h ss ts s v e q vs l

  -- a named term that is well sorted evaluates to its value
  pub names_evaluate : (t : Term) → Evaluates t
  names_evaluate = by_terms Evaluates bound_case num_case fresh_case apply_case

-- a fresh constant that has a value put for it has that value
pub fresh_value : (sig : Signature) (y : System) (num : Numbering) (reduce : Head → List Sort → List ℕ → List ℕ) (choosing : Bool)
    (assigned : ℕ → Sort → Option Val) (n : ℕ) (s : Sort) (v : Val)
    → assigned n s ≡ Some v → ev sig y num reduce choosing assigned (Fresh n s) ≡ v
fresh_value sig y num reduce choosing assigned n s v e =
    ev-Fresh sig y num reduce choosing assigned n s ∙ ap
    (λ o. or_else o (or_else (value_of sig y num reduce choosing (Fresh n s)) (new sig y num reduce choosing s (constant n s)))) e

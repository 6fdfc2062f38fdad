-- The value of a term by the lines of a journal is over leaves of opaque terms.
use Rattle.std.specs.Prelude.{ℕ, zero, suc, Bool, true, false, cond, nat_eq, List, [], ◌∷◌, ◌++◌, ◌≡◌, map, length, Option, Some, None}
use Rattle.std.specs.List.{AllByRecursion}
use Rattle.std.proofs.Common.{refl, sym, subst}
use Rattle.std.proofs.lemmas.Option.{same_Some}
use Rattle.ae_base.specs.Options.{or_else}
use Rattle.ae_base.proofs.AllOf.{all_append, all_of_map}
use Rattle.ae_base.proofs.Options.{never_some}
use Rattle.ae_core.specs.Inner.Induction.{by_terms}
use Rattle.ae_core.specs.Sorts.{is_numeric, sort_of}
use Rattle.ae_core.specs.declared.problems.Signature.{Signature}
use Rattle.ae_core.specs.declared.terms.Head.{Head}
use Rattle.ae_core.specs.declared.terms.Head.TheVariants as head
use Rattle.ae_core.specs.declared.terms.Op.TheVariants as op
use Rattle.ae_core.specs.declared.terms.Sort.{Sort, Bool as BoolSort}
use Rattle.ae_core.specs.declared.terms.Term.{Term, Bound, Num, Fresh, Apply, Apply'}
use Rattle.ae_journal.specs.Evaluation.{depth_of}
use Rattle.ae_journal.specs.Systems.{own, linear, product, quotient, record_fields, field_terms}
use Rattle.ae_journal.specs.TermValues.{put_leaf, put_leaves, solved, leaf_of, field_of, each_field, opaque_at, opaque, value_by}
use Rattle.ae_journal.specs.Values.{Val, Vals, number, leaf, fields, none, more, sum_in, plus_val, scale_val, minus_val, once, nothing, vals, val_at, meaning, scaled}
use Rattle.ae_journal.specs.declared.lines.Line.{Line}
use Rattle.ae_journal.specs.declared.lines.Line.TheVariants as line
use Rattle.ae_journal.specs.declared.lines.Oriented.TheVariants as oriented
use Rattle.ae_math.specs.Forms.{is_zero}
use Rattle.ae_math.specs.Fractions.{ℚ, inverse_ℚ, neg_ℚ, one_ℚ, ratio}
use Rattle.ae_name_lines.proofs.Values.{valued, bound_is, num_is, fresh_is, application_is}
use Rattle.ae_rules.proofs.LinearLaws.{form-Fresh}
use Rattle.ae_rules.specs.Linear.{form, is_number}
use Rattle.ae_opaque_numbers.proofs.Leaves.{Over, settled_over, scaled_over, put_in_over}
use Rattle.ae_opaque_numbers.proofs.Opaque.{IsOpaque, fields_opaque, none_linear}

module _ (sig : Signature) (names : List Term) where
  -- the leaf of an opaque term
  abbrev pub IsLeafOf : ℕ → Type 0
  IsLeafOf n = (t : Term) × (leaf_of names t ≡ n) × IsOpaque t

  abbrev mutual
    pub IsOver : Val → Type 0
    IsOver (number f) = Over IsLeafOf f.parts
    IsOver (leaf n) = IsLeafOf n
    IsOver (fields vs) = AreOver vs

    pub AreOver : Vals → Type 0
    AreOver none = Unit {0}
    AreOver (more v vs) = IsOver v × AreOver vs

  -- ---- operations
  sum_over : (v : Val) → IsOver v → Over IsLeafOf (sum_in v).parts
  sum_over (number f) h = h
  sum_over (leaf n) h = tt
  sum_over (fields vs) h = tt

  plus_over : (v w : Val) → IsOver v → IsOver w → IsOver (plus_val v w)
  plus_over v w h k = settled_over IsLeafOf ((sum_in v).parts ++ (sum_in w).parts) (all_append (λ (p : ℕ × ℚ). IsLeafOf p.0) (sum_in v).parts (sum_in w).parts (sum_over v h) (sum_over w k))

  scale_over : (z : ℚ) (v : Val) → IsOver v → IsOver (scale_val z v)
  scale_over z v h = settled_over IsLeafOf (scaled z (sum_in v).parts) (scaled_over IsLeafOf z (sum_in v).parts (sum_over v h))

  pub minus_over : (v w : Val) → IsOver v → IsOver w → IsOver (minus_val v w)
  minus_over v w h k = plus_over v (scale_val (neg_ℚ one_ℚ) w) h (scale_over (neg_ℚ one_ℚ) w k)

  abbrev Fits : Term × Val → Type 0
  Fits p = IsOver p.1

  product_over : (a b : Term × Val) (v : Val) → Fits a → Fits b → product a b ≡ Some v → IsOver v
  product_over a b v p q e = by_first (is_number (form a.0)) (is_number (form b.0)) e
    where
      by_first : (c d : Bool) → cond c (Some (scale_val (form a.0).constant b.1)) (cond d (Some (scale_val (form b.0).constant a.1)) None) ≡ Some v → IsOver v
      by_first true d h = subst IsOver (same_Some _ v h) (scale_over (form a.0).constant b.1 q)
      by_first false true h = subst IsOver (same_Some _ v h) (scale_over (form b.0).constant a.1 p)
      by_first false false h = never_some v h

  quotient_over : (w : Val) (t : Term) (v : Val) → IsOver w → quotient w t ≡ Some v → IsOver v
  quotient_over w (Num a b real) v p e = by_zero (is_zero (ratio a b)) e
    where
      by_zero : (c : Bool) → cond c None (Some (scale_val (inverse_ℚ (ratio a b)) w)) ≡ Some v → IsOver v
      by_zero true h = never_some v h
      by_zero false h = subst IsOver (same_Some _ v h) (scale_over (inverse_ℚ (ratio a b)) w p)
  quotient_over w (Bound n) v p e = never_some v e
  quotient_over w (Fresh n o) v p e = never_some v e
  quotient_over w (Apply' h ss shape row) v p e = never_some v e

  two_sums : (a b : Term × Val) (v : Val) → Fits a → Fits b → Some (plus_val a.1 b.1) ≡ Some v → IsOver v
  two_sums a b v p q e = subst IsOver (same_Some _ v e) (plus_over a.1 b.1 p q)

  two_differences : (a b : Term × Val) (v : Val) → Fits a → Fits b → Some (minus_val a.1 b.1) ≡ Some v → IsOver v
  two_differences a b v p q e = subst IsOver (same_Some _ v e) (minus_over a.1 b.1 p q)

  one_negation : (a : Term × Val) (v : Val) → Fits a → Some (scale_val (neg_ℚ one_ℚ) a.1) ≡ Some v → IsOver v
  one_negation a v p e = subst IsOver (same_Some _ v e) (scale_over (neg_ℚ one_ℚ) a.1 p)

  linear_over : (h : Head) (ps : List (Term × Val)) (v : Val) → AllByRecursion Fits ps → linear h ps ≡ Some v → IsOver v
  linear_over (head.Int op.Add) (a ∷ b ∷ []) v h e = two_sums a b v h.0 h.1.0 e
  linear_over (head.Int op.Sub) (a ∷ b ∷ []) v h e = two_differences a b v h.0 h.1.0 e
  linear_over (head.Int op.Neg) (a ∷ []) v h e = one_negation a v h.0 e
  linear_over (head.Int op.Mul) (a ∷ b ∷ []) v h e = product_over a b v h.0 h.1.0 e
  linear_over (head.Real op.Add) (a ∷ b ∷ []) v h e = two_sums a b v h.0 h.1.0 e
  linear_over (head.Real op.Sub) (a ∷ b ∷ []) v h e = two_differences a b v h.0 h.1.0 e
  linear_over (head.Real op.Neg) (a ∷ []) v h e = one_negation a v h.0 e
  linear_over (head.Real op.Mul) (a ∷ b ∷ []) v h e = product_over a b v h.0 h.1.0 e
  linear_over (head.Real op.Div) (a ∷ b ∷ []) v h e = quotient_over a.1 b.0 v h.0 e
  linear_over (head.Int op.Add) [] v h e = never_some v e
  linear_over (head.Int op.Add) (a ∷ []) v h e = never_some v e
  linear_over (head.Int op.Add) (a ∷ b ∷ c ∷ ps) v h e = never_some v e
  linear_over (head.Int op.Sub) [] v h e = never_some v e
  linear_over (head.Int op.Sub) (a ∷ []) v h e = never_some v e
  linear_over (head.Int op.Sub) (a ∷ b ∷ c ∷ ps) v h e = never_some v e
  linear_over (head.Int op.Neg) [] v h e = never_some v e
  linear_over (head.Int op.Neg) (a ∷ b ∷ ps) v h e = never_some v e
  linear_over (head.Int op.Mul) [] v h e = never_some v e
  linear_over (head.Int op.Mul) (a ∷ []) v h e = never_some v e
  linear_over (head.Int op.Mul) (a ∷ b ∷ c ∷ ps) v h e = never_some v e
  linear_over (head.Int op.Div) ps v h e = never_some v e
  linear_over (head.Int op.Mod) ps v h e = never_some v e
  linear_over (head.Real op.Add) [] v h e = never_some v e
  linear_over (head.Real op.Add) (a ∷ []) v h e = never_some v e
  linear_over (head.Real op.Add) (a ∷ b ∷ c ∷ ps) v h e = never_some v e
  linear_over (head.Real op.Sub) [] v h e = never_some v e
  linear_over (head.Real op.Sub) (a ∷ []) v h e = never_some v e
  linear_over (head.Real op.Sub) (a ∷ b ∷ c ∷ ps) v h e = never_some v e
  linear_over (head.Real op.Neg) [] v h e = never_some v e
  linear_over (head.Real op.Neg) (a ∷ b ∷ ps) v h e = never_some v e
  linear_over (head.Real op.Mul) [] v h e = never_some v e
  linear_over (head.Real op.Mul) (a ∷ []) v h e = never_some v e
  linear_over (head.Real op.Mul) (a ∷ b ∷ c ∷ ps) v h e = never_some v e
  linear_over (head.Real op.Div) [] v h e = never_some v e
  linear_over (head.Real op.Div) (a ∷ []) v h e = never_some v e
  linear_over (head.Real op.Div) (a ∷ b ∷ c ∷ ps) v h e = never_some v e
  linear_over (head.Real op.Mod) ps v h e = never_some v e
  linear_over (head.Symbol n) ps v h e = never_some v e
  linear_over (head.Build n) ps v h e = never_some v e
  linear_over (head.Field n i) ps v h e = never_some v e
  linear_over head.True ps v h e = never_some v e
  linear_over head.False ps v h e = never_some v e
  linear_over head.Void ps v h e = never_some v e

  -- ---- `solve` lines
  either : (b : Bool) (v w : Val) → IsOver v → IsOver w → IsOver (cond b v w)
  either true v w p q = p
  either false v w p q = q

  module _ (m : ℕ) (w : Val) (puts : IsOver w) where
    mutual
      put_over : (v : Val) → IsOver v → IsOver (put_leaf m w v)
      put_over (number g) h = settled_over IsLeafOf _ (put_in_over IsLeafOf m (sum_in w) g.parts (λ l. sum_over w puts) h)
      put_over (leaf n) h = either (nat_eq n m) w (leaf n) puts h
      put_over (fields vs) h = puts_over vs h

      puts_over : (vs : Vals) → AreOver vs → AreOver (put_leaves m w vs)
      puts_over none h = tt
      puts_over (more v vs) h = (put_over v h.0, puts_over vs h.1)

  -- the line gives a name a value over such leaves
  abbrev pub SolvesOver : Line → Type 0
  SolvesOver (line.Orient (oriented.Named m v)) = IsOver (meaning v)
  SolvesOver _ = Unit {0}

  solved_over : (js : List Line) → AllByRecursion SolvesOver js → (v : Val) → IsOver v → IsOver (solved js v)
  solved_over [] a v h = h
  solved_over (line.Orient (oriented.Named m w) ∷ js) a v h = solved_over js a.1 (put_leaf m (meaning w) v) (put_over m (meaning w) a.0 v h)
  solved_over (line.Orient (oriented.Rule u l r) ∷ js) a v h = solved_over js a.1 v h
  solved_over (line.Decide l ∷ js) a v h = solved_over js a.1 v h
  solved_over (line.Drop o ∷ js) a v h = solved_over js a.1 v h
  solved_over (line.Pair u l r ∷ js) a v h = solved_over js a.1 v h
  solved_over (line.Learn c ∷ js) a v h = solved_over js a.1 v h
  solved_over (line.TypeInstance k ss ∷ js) a v h = solved_over js a.1 v h
  solved_over (line.TermInstance f ts ∷ js) a v h = solved_over js a.1 v h
  solved_over (line.Combine b f ∷ js) a v h = solved_over js a.1 v h
  solved_over (line.Back n ∷ js) a v h = solved_over js a.1 v h

  -- ---- what nothing computes
  own_over : (s : Sort) (n : ℕ) → IsLeafOf n → IsOver (own s n)
  own_over s n h = either (is_numeric s) (once n) (leaf n) (h, tt) h

  module _ (js : List Line) (solves : AllByRecursion SolvesOver js) where
    each_over : (d : ℕ) → ((s : Sort) (t : Term) → IsOpaque t → IsOver (opaque_at sig names js d s t)) → (ss : List Sort) (us : List Term) → AllByRecursion IsOpaque us
        → AreOver (each_field sig names (opaque_at sig names js d) ss us)
    each_over d f [] us a = tt
    each_over d f (s ∷ ss) [] a = tt
    each_over d f (s ∷ ss) (u ∷ us) a = (f s u a.0, each_over d f ss us a.1)

    leaf_over : (s : Sort) (t : Term) → IsOpaque t → IsOver (solved js (own s (leaf_of names t)))
    leaf_over s t w = solved_over js solves (own s (leaf_of names t)) (own_over s (leaf_of names t) (t, refl, w))

    fields_over : (d : ℕ) → ((s : Sort) (t : Term) → IsOpaque t → IsOver (opaque_at sig names js d s t)) → (s : Sort) (t : Term) → IsOpaque t → (o : Option (List Sort))
        → IsOver (elim o as (λ _. Val) [ None ↦ solved js (own s (leaf_of names t)) | Some ss ↦ fields (each_field sig names (opaque_at sig names js d) ss (field_terms s t (length ss))) ])
    fields_over d k s t w None = leaf_over s t w
    fields_over d k s t w (Some ss) = each_over d k ss (field_terms s t (length ss)) (fields_opaque s t (length ss))

    opaque_at_over : (d : ℕ) (s : Sort) (t : Term) → IsOpaque t → IsOver (opaque_at sig names js d s t)
    opaque_at_over zero s t w = leaf_over s t w
    opaque_at_over (suc d) s t w = fields_over d (opaque_at_over d) s t w (record_fields sig s)

    opaque_over : (t : Term) → IsOpaque t → IsOver (opaque sig names js t)
    opaque_over t w = let s = or_else (sort_of sig t) BoolSort in opaque_at_over (depth_of sig s) s t w

    -- ---- terms
    abbrev V : Term → Val
    V = value_by sig names js

    abbrev ValueOver : Term → Type 0
    ValueOver t = IsOver (V t)

    arguments_over : (us : List Term) → AllByRecursion ValueOver us → AreOver (vals (map V us))
    arguments_over [] a = tt
    arguments_over (u ∷ us) a = (a.0, arguments_over us a.1)

    place_over : (vs : Vals) (i : ℕ) → AreOver vs → IsOver (or_else (val_at vs i) nothing)
    place_over none i h = tt
    place_over (more v vs) zero h = h.0
    place_over (more v vs) (suc i) h = place_over vs i h.1

    field_over : (v : Val) (i : ℕ) → IsOver v → IsOver (field_of sig names v i)
    field_over (number f) i h = tt
    field_over (leaf n) i h = tt
    field_over (fields vs) i h = place_over vs i h

    -- an application that isn't a record or a field
    module _ (h : Head) (ss : List Sort) (us : List Term) where
      other_over : (o : Option Val) → ((v : Val) → o ≡ Some v → IsOver v) → (o ≡ None → IsOpaque (Apply h ss us)) → IsOver (or_else o (opaque sig names js (Apply h ss us)))
      other_over (Some v) f k = f v refl
      other_over None f k = opaque_over (Apply h ss us) (k refl)

      computed_over : AllByRecursion ValueOver us → IsOver (or_else (linear h (map (λ u. (u, V u)) us)) (opaque sig names js (Apply h ss us)))
      computed_over a =
          other_over (linear h (map (λ u. (u, V u)) us)) (λ v. linear_over h (map (λ u. (u, V u)) us) v (all_of_map Fits (λ u. (u, V u)) us a)) (none_linear V h ss us)

    valued_over : (h : Head) (ss : List Sort) (us : List Term) → AllByRecursion ValueOver us → IsOver (valued sig names js h ss us)
    valued_over (head.Build n) ss us a = arguments_over us a
    valued_over (head.Field n i) ss [] a = computed_over (head.Field n i) ss [] a
    valued_over (head.Field n i) ss (u ∷ []) a = field_over (V u) i a.0
    valued_over (head.Field n i) ss (u ∷ w ∷ us) a = computed_over (head.Field n i) ss (u ∷ w ∷ us) a
    valued_over (head.Int o) ss us a = computed_over (head.Int o) ss us a
    valued_over (head.Real o) ss us a = computed_over (head.Real o) ss us a
    valued_over (head.Symbol n) ss us a = computed_over (head.Symbol n) ss us a
    valued_over head.True ss us a = computed_over head.True ss us a
    valued_over head.False ss us a = computed_over head.False ss us a
    valued_over head.Void ss us a = computed_over head.Void ss us a

    pub value_over : (t : Term) → IsOver (value_by sig names js t)
    value_over =
        by_terms ValueOver
        (λ n. subst IsOver (sym (bound_is sig names js n)) tt)
        (λ a b real. subst IsOver (sym (num_is sig names js a b real)) tt)
        (λ n o. subst IsOver (sym (fresh_is sig names js n o)) (opaque_over (Fresh n o) (form-Fresh n o)))
        (λ h ss us each. subst IsOver (sym (application_is sig names js h ss us)) (valued_over h ss us each))

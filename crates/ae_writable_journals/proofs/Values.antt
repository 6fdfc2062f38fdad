-- The value of a well sorted term by the lines of a journal is over leaves of the sort that stands at their place, and these are of terms whose numerals are in lowest terms.
use Rattle.std.specs.Prelude.{ℕ, zero, suc, Bool, true, false, cond, ◌&&◌, nat_eq, List, [], ◌∷◌, ◌++◌, ◌≡◌, map, length, slice_get, Option, Some, None}
use Rattle.std.specs.List.{AllByRecursion}
use Rattle.std.proofs.Common.{refl, sym, ap, ◌∙◌, subst}
use Rattle.std.proofs.lemmas.Bool.{and_parts, eqb-true}
use Rattle.std.proofs.lemmas.Option.{same_Some}
use Rattle.ae_base.specs.Options.{all_known, or_else, when}
use Rattle.ae_base.specs.Relations.{Pairwise}
use Rattle.ae_base.proofs.AllOf.{all_append, all_both, all_of_map}
use Rattle.ae_base.proofs.ListFacts.{cons_head}
use Rattle.ae_base.proofs.Options.{cons_some, never_some, when_some}
use Rattle.ae_core.specs.Inner.Induction.{by_terms}
use Rattle.ae_core.specs.Signatures.{IsLawful}
use Rattle.ae_core.specs.Sorts.{is_numeric, on_real, operands, same_sorts, sort_of}
use Rattle.ae_core.specs.declared.problems.Signature.{Signature}
use Rattle.ae_core.specs.declared.terms.Head.{Head}
use Rattle.ae_core.specs.declared.terms.Head.TheVariants as head
use Rattle.ae_core.specs.declared.terms.Op.{Op}
use Rattle.ae_core.specs.declared.terms.Op.TheVariants as op
use Rattle.ae_core.specs.declared.terms.Sort.{Sort, Int, Real, Named, Bool as BoolSort}
use Rattle.ae_core.specs.declared.terms.Term.{Term, Bound, Num, Fresh, Apply, Apply'}
use Rattle.ae_evaluation.proofs.Decisions.{same_list}
use Rattle.ae_evaluation.proofs.SortFacts.{is_applied, is_built, is_field}
use Rattle.ae_journal.specs.Evaluation.{depth_of}
use Rattle.ae_journal.specs.Systems.{own, linear, product, quotient, record_fields, field_terms}
use Rattle.ae_journal.specs.TermValues.{put_leaf, put_leaves, solved, leaf_of, field_of, each_field, opaque_at, opaque, value_by}
use Rattle.ae_journal.specs.Values.{Val, Vals, number, leaf, fields, none, more, sum_in, plus_val, scale_val, minus_val, once, nothing, vals, val_at, meaning, scaled}
use Rattle.ae_journal.specs.declared.lines.Line.{Line}
use Rattle.ae_journal.specs.declared.lines.Line.TheVariants as line
use Rattle.ae_journal.specs.declared.lines.Oriented.TheVariants as oriented
use Rattle.ae_math.specs.Forms.{is_zero}
use Rattle.ae_math.specs.Fractions.{ℚ, inverse_ℚ, neg_ℚ, one_ℚ, ratio}
use Rattle.ae_name_lines.proofs.Values.{valued, bound_is, num_is, fresh_is, application_is}
use Rattle.ae_rules.specs.Linear.{form, is_number}
use Rattle.ae_numerals_kept.specs.Lowest.{IsLowestTerm}
use Rattle.ae_numerals_kept.proofs.Lowest.{arguments_lowest, fields_lowest}
use Rattle.ae_writable_journals.proofs.Leaves.{Over, settled_over, scaled_over, put_in_over}
use Rattle.ae_writable_journals.proofs.NameSorts.{fields_sorted}

module _ (sig : Signature) (names : List Term) where
  -- the leaf of a term of the sort, whose numerals are in lowest terms
  abbrev pub IsLeafOf : Sort → ℕ → Type 0
  IsLeafOf s n = (t : Term) × (leaf_of names t ≡ n) × IsLowestTerm t × (sort_of sig t ≡ Some s)

  -- the leaves of a value have the sort, and those of its fields the sorts of the fields
  abbrev mutual
    pub IsOverSort : Sort → Val → Type 0
    IsOverSort s (number f) = AllByRecursion (λ (p : ℕ × ℚ). IsLeafOf s p.0) f.parts
    IsOverSort s (leaf n) = IsLeafOf s n
    IsOverSort s (fields vs) = (ss : List Sort) → record_fields sig s ≡ Some ss → AreOverSorts ss vs

    pub AreOverSorts : List Sort → Vals → Type 0
    AreOverSorts [] vs = Unit {0}
    AreOverSorts (s ∷ ss) none = Unit {0}
    AreOverSorts (s ∷ ss) (more v vs) = IsOverSort s v × AreOverSorts ss vs

  -- ---- operations
  sum_over : (s : Sort) (v : Val) → IsOverSort s v → Over (IsLeafOf s) (sum_in v).parts
  sum_over s (number f) h = h
  sum_over s (leaf n) h = tt
  sum_over s (fields vs) h = tt

  pub plus_over : (s : Sort) (v w : Val) → IsOverSort s v → IsOverSort s w → IsOverSort s (plus_val v w)
  plus_over s v w h k = settled_over (IsLeafOf s) ((sum_in v).parts ++ (sum_in w).parts) (all_append (λ (p : ℕ × ℚ). IsLeafOf s p.0) (sum_in v).parts (sum_in w).parts (sum_over s v h) (sum_over s w k))

  scale_over : (s : Sort) (z : ℚ) (v : Val) → IsOverSort s v → IsOverSort s (scale_val z v)
  scale_over s z v h = settled_over (IsLeafOf s) (scaled z (sum_in v).parts) (scaled_over (IsLeafOf s) z (sum_in v).parts (sum_over s v h))

  pub minus_over : (s : Sort) (v w : Val) → IsOverSort s v → IsOverSort s w → IsOverSort s (minus_val v w)
  minus_over s v w h k = plus_over s v (scale_val (neg_ℚ one_ℚ) w) h (scale_over s (neg_ℚ one_ℚ) w k)

  abbrev Fits : Sort → Term × Val → Type 0
  Fits s p = IsOverSort s p.1

  product_over : (s : Sort) (a b : Term × Val) (v : Val) → Fits s a → Fits s b → product a b ≡ Some v → IsOverSort s v
  product_over s a b v p q e = by_first (is_number (form a.0)) (is_number (form b.0)) e
    where
      by_first : (c d : Bool) → cond c (Some (scale_val (form a.0).constant b.1)) (cond d (Some (scale_val (form b.0).constant a.1)) None) ≡ Some v → IsOverSort s v
      by_first true d h = subst (IsOverSort s) (same_Some _ v h) (scale_over s (form a.0).constant b.1 q)
      by_first false true h = subst (IsOverSort s) (same_Some _ v h) (scale_over s (form b.0).constant a.1 p)
      by_first false false h = never_some v h

  quotient_over : (s : Sort) (w : Val) (t : Term) (v : Val) → IsOverSort s w → quotient w t ≡ Some v → IsOverSort s v
  quotient_over s w (Num a b real) v p e = by_zero (is_zero (ratio a b)) e
    where
      by_zero : (c : Bool) → cond c None (Some (scale_val (inverse_ℚ (ratio a b)) w)) ≡ Some v → IsOverSort s v
      by_zero true h = never_some v h
      by_zero false h = subst (IsOverSort s) (same_Some _ v h) (scale_over s (inverse_ℚ (ratio a b)) w p)
  quotient_over s w (Bound n) v p e = never_some v e
  quotient_over s w (Fresh n o) v p e = never_some v e
  quotient_over s w (Apply' h ss shape row) v p e = never_some v e

  two_sums : (s : Sort) (a b : Term × Val) (v : Val) → Fits s a → Fits s b → Some (plus_val a.1 b.1) ≡ Some v → IsOverSort s v
  two_sums s a b v p q e = subst (IsOverSort s) (same_Some _ v e) (plus_over s a.1 b.1 p q)

  two_differences : (s : Sort) (a b : Term × Val) (v : Val) → Fits s a → Fits s b → Some (minus_val a.1 b.1) ≡ Some v → IsOverSort s v
  two_differences s a b v p q e = subst (IsOverSort s) (same_Some _ v e) (minus_over s a.1 b.1 p q)

  one_negation : (s : Sort) (a : Term × Val) (v : Val) → Fits s a → Some (scale_val (neg_ℚ one_ℚ) a.1) ≡ Some v → IsOverSort s v
  one_negation s a v p e = subst (IsOverSort s) (same_Some _ v e) (scale_over s (neg_ℚ one_ℚ) a.1 p)

  linear_over : (s : Sort) (h : Head) (ps : List (Term × Val)) (v : Val) → AllByRecursion (Fits s) ps → linear h ps ≡ Some v → IsOverSort s v
  linear_over s (head.Int op.Add) (a ∷ b ∷ []) v h e = two_sums s a b v h.0 h.1.0 e
  linear_over s (head.Int op.Sub) (a ∷ b ∷ []) v h e = two_differences s a b v h.0 h.1.0 e
  linear_over s (head.Int op.Neg) (a ∷ []) v h e = one_negation s a v h.0 e
  linear_over s (head.Int op.Mul) (a ∷ b ∷ []) v h e = product_over s a b v h.0 h.1.0 e
  linear_over s (head.Real op.Add) (a ∷ b ∷ []) v h e = two_sums s a b v h.0 h.1.0 e
  linear_over s (head.Real op.Sub) (a ∷ b ∷ []) v h e = two_differences s a b v h.0 h.1.0 e
  linear_over s (head.Real op.Neg) (a ∷ []) v h e = one_negation s a v h.0 e
  linear_over s (head.Real op.Mul) (a ∷ b ∷ []) v h e = product_over s a b v h.0 h.1.0 e
  linear_over s (head.Real op.Div) (a ∷ b ∷ []) v h e = quotient_over s a.1 b.0 v h.0 e
  linear_over s (head.Int op.Add) [] v h e = never_some v e
  linear_over s (head.Int op.Add) (a ∷ []) v h e = never_some v e
  linear_over s (head.Int op.Add) (a ∷ b ∷ c ∷ ps) v h e = never_some v e
  linear_over s (head.Int op.Sub) [] v h e = never_some v e
  linear_over s (head.Int op.Sub) (a ∷ []) v h e = never_some v e
  linear_over s (head.Int op.Sub) (a ∷ b ∷ c ∷ ps) v h e = never_some v e
  linear_over s (head.Int op.Neg) [] v h e = never_some v e
  linear_over s (head.Int op.Neg) (a ∷ b ∷ ps) v h e = never_some v e
  linear_over s (head.Int op.Mul) [] v h e = never_some v e
  linear_over s (head.Int op.Mul) (a ∷ []) v h e = never_some v e
  linear_over s (head.Int op.Mul) (a ∷ b ∷ c ∷ ps) v h e = never_some v e
  linear_over s (head.Int op.Div) ps v h e = never_some v e
  linear_over s (head.Int op.Mod) ps v h e = never_some v e
  linear_over s (head.Real op.Add) [] v h e = never_some v e
  linear_over s (head.Real op.Add) (a ∷ []) v h e = never_some v e
  linear_over s (head.Real op.Add) (a ∷ b ∷ c ∷ ps) v h e = never_some v e
  linear_over s (head.Real op.Sub) [] v h e = never_some v e
  linear_over s (head.Real op.Sub) (a ∷ []) v h e = never_some v e
  linear_over s (head.Real op.Sub) (a ∷ b ∷ c ∷ ps) v h e = never_some v e
  linear_over s (head.Real op.Neg) [] v h e = never_some v e
  linear_over s (head.Real op.Neg) (a ∷ b ∷ ps) v h e = never_some v e
  linear_over s (head.Real op.Mul) [] v h e = never_some v e
  linear_over s (head.Real op.Mul) (a ∷ []) v h e = never_some v e
  linear_over s (head.Real op.Mul) (a ∷ b ∷ c ∷ ps) v h e = never_some v e
  linear_over s (head.Real op.Div) [] v h e = never_some v e
  linear_over s (head.Real op.Div) (a ∷ []) v h e = never_some v e
  linear_over s (head.Real op.Div) (a ∷ b ∷ c ∷ ps) v h e = never_some v e
  linear_over s (head.Real op.Mod) ps v h e = never_some v e
  linear_over s (head.Symbol n) ps v h e = never_some v e
  linear_over s (head.Build n) ps v h e = never_some v e
  linear_over s (head.Field n i) ps v h e = never_some v e
  linear_over s head.True ps v h e = never_some v e
  linear_over s head.False ps v h e = never_some v e
  linear_over s head.Void ps v h e = never_some v e

  -- ---- `solve` lines
  either : (s : Sort) (b : Bool) (v w : Val) → IsOverSort s v → IsOverSort s w → IsOverSort s (cond b v w)
  either s true v w p q = p
  either s false v w p q = q

  module _ (m : ℕ) (w : Val) (puts : (s : Sort) → IsLeafOf s m → IsOverSort s w) where
    mutual
      put_over : (s : Sort) (v : Val) → IsOverSort s v → IsOverSort s (put_leaf m w v)
      put_over s (number g) h = settled_over (IsLeafOf s) _ (put_in_over (IsLeafOf s) m (sum_in w) g.parts (λ l. sum_over s w (puts s l)) h)
      put_over s (leaf n) h = by_place (nat_eq n m) refl
        where
          by_place : (b : Bool) → nat_eq n m ≡ b → IsOverSort s (cond b w (leaf n))
          by_place true e = puts s (subst (IsLeafOf s) (eqb-true n m e) h)
          by_place false e = h
      put_over s (fields vs) h = λ ss e. puts_over ss vs (h ss e)

      puts_over : (ss : List Sort) (vs : Vals) → AreOverSorts ss vs → AreOverSorts ss (put_leaves m w vs)
      puts_over [] vs h = tt
      puts_over (s ∷ ss) none h = tt
      puts_over (s ∷ ss) (more v vs) h = (put_over s v h.0, puts_over ss vs h.1)

  -- the line gives the leaf of a sort a value over that sort
  abbrev pub SolvesOver : Line → Type 0
  SolvesOver (line.Orient (oriented.Named m v)) = (s : Sort) → IsLeafOf s m → IsOverSort s (meaning v)
  SolvesOver _ = Unit {0}

  solved_over : (js : List Line) → AllByRecursion SolvesOver js → (s : Sort) (v : Val) → IsOverSort s v → IsOverSort s (solved js v)
  solved_over [] a s v h = h
  solved_over (line.Orient (oriented.Named m w) ∷ js) a s v h = solved_over js a.1 s (put_leaf m (meaning w) v) (put_over m (meaning w) a.0 s v h)
  solved_over (line.Orient (oriented.Rule u l r) ∷ js) a s v h = solved_over js a.1 s v h
  solved_over (line.Decide l ∷ js) a s v h = solved_over js a.1 s v h
  solved_over (line.Drop o ∷ js) a s v h = solved_over js a.1 s v h
  solved_over (line.Pair u l r ∷ js) a s v h = solved_over js a.1 s v h
  solved_over (line.Learn c ∷ js) a s v h = solved_over js a.1 s v h
  solved_over (line.TypeInstance k ss ∷ js) a s v h = solved_over js a.1 s v h
  solved_over (line.TermInstance f ts ∷ js) a s v h = solved_over js a.1 s v h
  solved_over (line.Combine b f ∷ js) a s v h = solved_over js a.1 s v h
  solved_over (line.Back n ∷ js) a s v h = solved_over js a.1 s v h

  -- ---- what nothing computes
  own_over : (s : Sort) (n : ℕ) → IsLeafOf s n → IsOverSort s (own s n)
  own_over s n h = either s (is_numeric s) (once n) (leaf n) (h, tt) h

  module _ (lawful : IsLawful sig) (js : List Line) (solves : AllByRecursion SolvesOver js) where
    each_over : (d : ℕ) → ((s : Sort) (t : Term) → IsLowestTerm t → sort_of sig t ≡ Some s → IsOverSort s (opaque_at sig names js d s t)) → (ss : List Sort) (us : List Term)
        → Pairwise (λ r t. sort_of sig t ≡ Some r) ss us → AllByRecursion IsLowestTerm us → AreOverSorts ss (each_field sig names (opaque_at sig names js d) ss us)
    each_over d f [] us p a = tt
    each_over d f (s ∷ ss) [] p a = absurd p
    each_over d f (s ∷ ss) (u ∷ us) p a = (f s u a.0 p.0, each_over d f ss us p.1 a.1)

    leaf_over : (s : Sort) (t : Term) → IsLowestTerm t → sort_of sig t ≡ Some s → IsOverSort s (solved js (own s (leaf_of names t)))
    leaf_over s t w e = solved_over js solves s (own s (leaf_of names t)) (own_over s (leaf_of names t) (t, refl, w, e))

    fields_over : (d : ℕ) → ((s : Sort) (t : Term) → IsLowestTerm t → sort_of sig t ≡ Some s → IsOverSort s (opaque_at sig names js d s t)) → (s : Sort) (t : Term) → IsLowestTerm t → sort_of sig t ≡ Some s
        → (o : Option (List Sort)) → record_fields sig s ≡ o
        → IsOverSort s (elim o as (λ _. Val) [ None ↦ solved js (own s (leaf_of names t)) | Some ss ↦ fields (each_field sig names (opaque_at sig names js d) ss (field_terms s t (length ss))) ])
    fields_over d k s t w e None f = leaf_over s t w e
    fields_over d k s t w e (Some ss) f =
        λ rs g. subst (λ (os : List Sort). AreOverSorts os (each_field sig names (opaque_at sig names js d) ss (field_terms s t (length ss)))) (same_Some ss rs (sym f ∙ g))
        (each_over d k ss (field_terms s t (length ss)) (fields_sorted sig lawful s ss t e f) (fields_lowest s t (length ss) w))

    opaque_at_over : (d : ℕ) (s : Sort) (t : Term) → IsLowestTerm t → sort_of sig t ≡ Some s → IsOverSort s (opaque_at sig names js d s t)
    opaque_at_over zero s t w e = leaf_over s t w e
    opaque_at_over (suc d) s t w e = fields_over d (opaque_at_over d) s t w e (record_fields sig s) refl

    opaque_over : (t : Term) → IsLowestTerm t → (s : Sort) → sort_of sig t ≡ Some s → IsOverSort s (opaque sig names js t)
    opaque_over t w s e =
        subst (λ (o : Option Sort). IsOverSort s (opaque_at sig names js (depth_of sig (or_else o BoolSort)) (or_else o BoolSort) t)) (sym e) (opaque_at_over (depth_of sig s) s t w e)

    -- ---- terms
    abbrev V : Term → Val
    V = value_by sig names js

    abbrev ValueOver : Term → Type 0
    ValueOver t = (s : Sort) → sort_of sig t ≡ Some s → IsOverSort s (V t)

    none_over : (rs : List Sort) → AreOverSorts rs none
    none_over [] = tt
    none_over (r ∷ rs) = tt

    arguments_over : (us : List Term) (args : List Sort) → all_known (map (sort_of sig) us) ≡ Some args → AllByRecursion ValueOver us → AreOverSorts args (vals (map V us))
    arguments_over [] args e a = none_over args
    arguments_over (u ∷ us) args e a =
        let c = cons_some (sort_of sig u) (all_known (map (sort_of sig) us)) args e in
        subst (λ (rs : List Sort). AreOverSorts rs (vals (map V (u ∷ us)))) c.4 (a.0 c.0 c.2, arguments_over us c.1 c.3 a.1)

    place_over : (rs : List Sort) (vs : Vals) (i : ℕ) (s : Sort) → AreOverSorts rs vs → slice_get rs i ≡ Some s → IsOverSort s (or_else (val_at vs i) nothing)
    place_over [] vs i s h e = never_some s e
    place_over (r ∷ rs) none i s h e = tt
    place_over (r ∷ rs) (more v vs) zero s h e = subst (λ (o : Sort). IsOverSort o v) (same_Some r s e) h.0
    place_over (r ∷ rs) (more v vs) (suc i) s h e = place_over rs vs i s h.1 e

    field_value_over : (v : Val) (o : Sort) (os : List Sort) (i : ℕ) (s : Sort) → IsOverSort o v → record_fields sig o ≡ Some os → slice_get os i ≡ Some s → IsOverSort s (field_of sig names v i)
    field_value_over (number f) o os i s h r e = tt
    field_value_over (leaf n) o os i s h r e = tt
    field_value_over (fields vs) o os i s h r e = place_over os vs i s (h os r) e

    field_over : (n i : ℕ) (ss : List Sort) (a : Term) (s : Sort) → sort_of sig (Apply (head.Field n i) ss (a ∷ [])) ≡ Some s → ValueOver a → IsOverSort s (field_of sig names (V a) i)
    field_over n i ss a s e h =
        let w = is_applied sig (head.Field n i) ss (a ∷ []) s e in
        let f = is_field sig n i ss w.args s w.headed in
        let c = cons_some (sort_of sig a) (all_known (map (sort_of sig) [])) w.args w.known in
        let same : c.0 ≡ Named n ss = cons_head c.0 (Named n ss) c.1 [] (c.4 ∙ f.args_are) in
        field_value_over (V a) (Named n ss) f.sorts i s (h (Named n ss) (c.2 ∙ ap (λ (o : Sort). Some o) same)) f.fields f.at

    -- an operation on numbers, where all arguments have the sort of the result
    module _ (h : Head) (ss : List Sort) (us : List Term) (s : Sort) (low : IsLowestTerm (Apply h ss us)) (e : sort_of sig (Apply h ss us) ≡ Some s) where
      other_over : (o : Option Val) → ((v : Val) → o ≡ Some v → IsOverSort s v) → IsOverSort s (or_else o (opaque sig names js (Apply h ss us)))
      other_over (Some v) f = f v refl
      other_over None f = opaque_over (Apply h ss us) low s e

      computed_over : AllByRecursion (λ u. IsOverSort s (V u)) us → IsOverSort s (or_else (linear h (map (λ u. (u, V u)) us)) (opaque sig names js (Apply h ss us)))
      computed_over a = other_over (linear h (map (λ u. (u, V u)) us)) (λ v. linear_over s h (map (λ u. (u, V u)) us) v (all_of_map (Fits s) (λ u. (u, V u)) us a))

    -- the arguments of such an operation have its sort
    same_args : (s : Sort) (us : List Term) (args : List Sort) → all_known (map (sort_of sig) us) ≡ Some args → AllByRecursion (λ r. r ≡ s) args → AllByRecursion ValueOver us → AllByRecursion (λ u. IsOverSort s (V u)) us
    same_args s [] args e q a = tt
    same_args s (u ∷ us) args e q a =
        let c = cons_some (sort_of sig u) (all_known (map (sort_of sig) us)) args e in
        let all = subst (AllByRecursion (λ r. r ≡ s)) (sym c.4) q in
        (a.0 s (c.2 ∙ ap (λ (o : Sort). Some o) all.0), same_args s us c.1 c.3 all.1 a.1)

    all_operands : (o : Op) (s : Sort) → AllByRecursion (λ r. r ≡ s) (operands o (s ∷ []))
    all_operands op.Neg s = (refl, tt)
    all_operands op.Add s = (refl, (refl, tt))
    all_operands op.Sub s = (refl, (refl, tt))
    all_operands op.Mul s = (refl, (refl, tt))
    all_operands op.Div s = (refl, (refl, tt))
    all_operands op.Mod s = (refl, (refl, tt))

    numbers_over : (b : Bool) (o : Op) (n s : Sort) (us : List Term) (args : List Sort) → all_known (map (sort_of sig) us) ≡ Some args → when (b && same_sorts args (operands o (n ∷ []))) n ≡ Some s → AllByRecursion ValueOver us
        → AllByRecursion (λ u. IsOverSort s (V u)) us
    numbers_over b o n s us args k e a =
        let w = when_some (b && same_sorts args (operands o (n ∷ []))) n s e in
        same_args s us args k
        (subst (AllByRecursion (λ r. r ≡ s)) (sym (same_list args (operands o (n ∷ [])) (and_parts b (same_sorts args (operands o (n ∷ []))) w.0).1)) (subst (λ (r : Sort). AllByRecursion (λ q. q ≡ r) (operands o (n ∷ []))) w.1 (all_operands o n))) a

    valued_over : (h : Head) (ss : List Sort) (us : List Term) → AllByRecursion ValueOver us → IsLowestTerm (Apply h ss us) → (s : Sort) → sort_of sig (Apply h ss us) ≡ Some s → IsOverSort s (valued sig names js h ss us)
    valued_over (head.Build n) ss us a low s e =
        λ rs f.
        let w = is_applied sig (head.Build n) ss us s e in
        let b = is_built sig n ss w.args s w.headed in
        subst (λ (os : List Sort). AreOverSorts os (vals (map V us))) (same_Some w.args rs (sym b.fields ∙ ap (record_fields sig) b.is ∙ f)) (arguments_over us w.args w.known a)
    valued_over (head.Field n i) ss [] a low s e = opaque_over (Apply (head.Field n i) ss []) low s e
    valued_over (head.Field n i) ss (u ∷ []) a low s e = field_over n i ss u s e a.0
    valued_over (head.Field n i) ss (u ∷ w ∷ us) a low s e = opaque_over (Apply (head.Field n i) ss (u ∷ w ∷ us)) low s e
    valued_over (head.Int o) ss us a low s e =
        let w = is_applied sig (head.Int o) ss us s e in
        computed_over (head.Int o) ss us s low e (numbers_over (same_sorts ss []) o Int s us w.args w.known w.headed a)
    valued_over (head.Real o) ss us a low s e =
        let w = is_applied sig (head.Real o) ss us s e in
        computed_over (head.Real o) ss us s low e (numbers_over (on_real o && same_sorts ss []) o Real s us w.args w.known w.headed a)
    valued_over (head.Symbol n) ss us a low s e = opaque_over (Apply (head.Symbol n) ss us) low s e
    valued_over head.True ss us a low s e = opaque_over (Apply head.True ss us) low s e
    valued_over head.False ss us a low s e = opaque_over (Apply head.False ss us) low s e
    valued_over head.Void ss us a low s e = opaque_over (Apply head.Void ss us) low s e

    pub value_over : (t : Term) → IsLowestTerm t → (s : Sort) → sort_of sig t ≡ Some s → IsOverSort s (value_by sig names js t)
    value_over =
        by_terms (λ t. IsLowestTerm t → ValueOver t)
        (λ n w s e. subst (IsOverSort s) (sym (bound_is sig names js n)) tt)
        (λ a b real w s e. subst (IsOverSort s) (sym (num_is sig names js a b real)) tt)
        (λ n o w s e. subst (IsOverSort s) (sym (fresh_is sig names js n o)) (opaque_over (Fresh n o) w s e))
        (λ h ss us each w s e.
        subst (IsOverSort s) (sym (application_is sig names js h ss us))
        (valued_over h ss us (all_both IsLowestTerm (λ u. IsLowestTerm u → ValueOver u) ValueOver (λ u x f. f x) us (arguments_lowest h ss us w) each) w s e))

-- The values of terms by lines, variant by variant, and where two are the same.
use Rattle.std.specs.Prelude.{ℕ, ℤ, zero, suc, Bool, List, [], ◌∷◌, ◌≡◌, map, length, Some, None}
use Rattle.std.specs.List.{AllByRecursion}
use Rattle.std.proofs.Common.{refl, sym, ap, ◌∙◌}
use Rattle.ae_base.specs.Options.{or_else}
use Rattle.ae_base.proofs.AllOf.{all_always, all_both, map_same}
use Rattle.ae_math.specs.Fractions.{ratio}
use Rattle.ae_core.specs.Sorts.{sort_of}
use Rattle.ae_core.specs.Inner.Induction.{by_terms}
use Rattle.ae_core.proofs.Recursion.{para_bound, para_num, para_fresh, para_apply}
use Rattle.ae_core.specs.declared.terms.Sort.{Sort, Bool as BoolSort}
use Rattle.ae_core.specs.declared.terms.Term.{Term, Bound, Num, Fresh, Apply}
use Rattle.ae_core.specs.declared.terms.Term.TheOpen as layer
use Rattle.ae_core.specs.declared.terms.Head.{Head}
use Rattle.ae_core.specs.declared.terms.Head.TheVariants as head
use Rattle.ae_core.specs.declared.problems.Signature.{Signature}
use Rattle.ae_journal.specs.Values.{Val, number, leaf, fields, vals, constant_val, nothing}
use Rattle.ae_journal.specs.Systems.{own, linear, record_fields, field_terms}
use Rattle.ae_journal.specs.Evaluation.{depth_of}
use Rattle.ae_journal.specs.TermValues.{solved, leaf_of, field_of, each_field, opaque_at, opaque, value_step, value_by}
use Rattle.ae_journal.specs.declared.lines.Line.{Line}

module _ (sig : Signature) (names : List Term) (js : List Line) where
  abbrev pub with_values : List Term → List (Term × Val)
  with_values us = map (λ u. (u, value_by sig names js u)) us

  -- the value of an application, by those of its arguments
  abbrev pub valued : Head → List Sort → List Term → Val
  valued (head.Build n) ss us = fields (vals (map (value_by sig names js) us))
  valued (head.Field n i) ss (a ∷ []) = field_of sig names (value_by sig names js a) i
  valued h ss us = or_else (linear h (map (λ u. (u, value_by sig names js u)) us)) (opaque sig names js (Apply h ss us))

  pub bound_is : (n : ℕ) → value_by sig names js (Bound n) ≡ nothing
  unfolding value_by
  bound_is n = para_bound Val (value_step sig names js) n

  pub num_is : (a b : ℤ) (real : Bool) → value_by sig names js (Num a b real) ≡ constant_val (ratio a b)
  unfolding value_by
  num_is a b real = para_num Val (value_step sig names js) a b real

  pub fresh_is : (n : ℕ) (s : Sort) → value_by sig names js (Fresh n s) ≡ opaque sig names js (Fresh n s)
  unfolding value_by
  fresh_is n s = para_fresh Val (value_step sig names js) n s

  firsts : (us : List Term) → map {A = Term × Val} (λ a. a.0) (with_values us) ≡ us
  firsts [] = refl
  firsts (u ∷ us) = ap (λ (ws : List Term). u ∷ ws) (firsts us)

  seconds : (us : List Term) → map {A = Term × Val} (λ a. a.1) (with_values us) ≡ map (value_by sig names js) us
  seconds [] = refl
  seconds (u ∷ us) = ap (λ (vs : List Val). value_by sig names js u ∷ vs) (seconds us)

  other_is : (h : Head) (ss : List Sort) (us : List Term) → or_else (linear h (with_values us)) (opaque sig names js (Apply h ss (map {A = Term × Val} (λ a. a.0) (with_values us))))
      ≡ or_else (linear h (with_values us)) (opaque sig names js (Apply h ss us))
  other_is h ss us = ap (λ (ws : List Term). or_else (linear h (with_values us)) (opaque sig names js (Apply h ss ws))) (firsts us)

  step_is : (h : Head) (ss : List Sort) (us : List Term) → value_step sig names js (layer.Apply h ss (with_values us)) ≡ valued h ss us
  step_is (head.Build n) ss us = ap (λ (vs : List Val). fields (vals vs)) (seconds us)
  step_is (head.Field n i) ss [] = refl
  step_is (head.Field n i) ss (a ∷ []) = refl
  step_is (head.Field n i) ss (a ∷ b ∷ us) = other_is (head.Field n i) ss (a ∷ b ∷ us)
  step_is (head.Symbol n) ss us = other_is (head.Symbol n) ss us
  step_is (head.Int o) ss us = other_is (head.Int o) ss us
  step_is (head.Real o) ss us = other_is (head.Real o) ss us
  step_is head.True ss us = other_is head.True ss us
  step_is head.False ss us = other_is head.False ss us
  step_is head.Void ss us = other_is head.Void ss us

  pub application_is : (h : Head) (ss : List Sort) (us : List Term) → value_by sig names js (Apply h ss us) ≡ valued h ss us
  unfolding value_by
  application_is h ss us = para_apply Val (value_step sig names js) h ss us ∙ step_is h ss us

-- ---- among two lists of names, by two lists of lines
module _ (sig : Signature) (ms ns : List Term) (js ls : List Line) where
  abbrev Same : Term → Type 0
  Same t = value_by sig ms js t ≡ value_by sig ns ls t

  pairs_same : (us : List Term) → AllByRecursion Same us → with_values sig ms js us ≡ with_values sig ns ls us
  pairs_same [] a = refl
  pairs_same (u ∷ us) a = λ i. (u, a.0 i) ∷ pairs_same us a.1 i

  field_same : (v : Val) (i : ℕ) → field_of sig ms v i ≡ field_of sig ns v i
  field_same (number f) i = refl
  field_same (leaf n) i = refl
  field_same (fields vs) i = refl

  others_same : (h : Head) (us : List Term) (v w : Val) → AllByRecursion Same us → v ≡ w → or_else (linear h (with_values sig ms js us)) v ≡ or_else (linear h (with_values sig ns ls us)) w
  others_same h us v w a e = λ i. or_else (linear h (pairs_same us a i)) (e i)

  apply_same : (h : Head) (ss : List Sort) (us : List Term) → AllByRecursion Same us → opaque sig ms js (Apply h ss us) ≡ opaque sig ns ls (Apply h ss us)
      → valued sig ms js h ss us ≡ valued sig ns ls h ss us
  apply_same (head.Build n) ss us a e = ap (λ (vs : List Val). fields (vals vs)) (map_same (value_by sig ms js) (value_by sig ns ls) us a)
  apply_same (head.Field n i) ss [] a e = e
  apply_same (head.Field n i) ss (u ∷ []) a e = ap (λ (v : Val). field_of sig ms v i) a.0 ∙ field_same (value_by sig ns ls u) i
  apply_same (head.Field n i) ss (u ∷ w ∷ us) a e = e
  apply_same (head.Symbol n) ss us a e = e
  apply_same (head.Int o) ss us a e = others_same (head.Int o) us (opaque sig ms js (Apply (head.Int o) ss us)) (opaque sig ns ls (Apply (head.Int o) ss us)) a e
  apply_same (head.Real o) ss us a e = others_same (head.Real o) us (opaque sig ms js (Apply (head.Real o) ss us)) (opaque sig ns ls (Apply (head.Real o) ss us)) a e
  apply_same head.True ss us a e = e
  apply_same head.False ss us a e = e
  apply_same head.Void ss us a e = e

  -- terms that stand with their arguments have the same values where what nothing computes of them has
  module _ (S : Term → Type 0) (arguments : (h : Head) (ss : List Sort) (us : List Term) → S (Apply h ss us) → AllByRecursion S us)
      (opaque_same : (t : Term) → S t → opaque sig ms js t ≡ opaque sig ns ls t) where
    pub values_same : (t : Term) → S t → value_by sig ms js t ≡ value_by sig ns ls t
    values_same =
        by_terms (λ t. S t → Same t) (λ n s. bound_is sig ms js n ∙ sym (bound_is sig ns ls n)) (λ a b r s. num_is sig ms js a b r ∙ sym (num_is sig ns ls a b r))
        (λ n o s. fresh_is sig ms js n o ∙ opaque_same (Fresh n o) s ∙ sym (fresh_is sig ns ls n o))
        (λ h ss us each s. application_is sig ms js h ss us
        ∙ apply_same h ss us (all_both S (λ u. S u → Same u) Same (λ u a f. f a) us (arguments h ss us s) each) (opaque_same (Apply h ss us) s)
        ∙ sym (application_is sig ns ls h ss us))

-- ---- by lines that make the same of each value
module _ (sig : Signature) (names : List Term) (js ls : List Line) (same : (w : Val) → solved js w ≡ solved ls w) where
  opaque_at_same : (d : ℕ) (s : Sort) (t : Term) → opaque_at sig names js d s t ≡ opaque_at sig names ls d s t
  opaque_at_same zero s t = same (own s (leaf_of names t))
  opaque_at_same (suc d) s t =
      λ i. elim (record_fields sig s) [
        | None ↦ same (own s (leaf_of names t)) i
        | Some ss ↦ fields (each_field sig names (λ r u. opaque_at_same d r u i) ss (field_terms s t (length ss)))
      ]

  pub values_by_lines : (t : Term) → value_by sig names js t ≡ value_by sig names ls t
  values_by_lines t =
      values_same sig names names js ls (λ u. Unit {0}) (λ h ss us s. all_always (λ u. Unit {0}) (λ u. tt) us)
      (λ u s. let o = or_else (sort_of sig u) BoolSort in opaque_at_same (depth_of sig o) o u) t tt

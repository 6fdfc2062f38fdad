-- The sides of a row of whole numbers are terms of sort `int`, and their numerals are in lowest terms.
use Rattle.std.specs.Prelude.{ℕ, zero, suc, ℤ, pos, ◌<◌, ◌^◌, Bool, true, false, ◌&&◌, cond, List, [], ◌∷◌, ◌++◌, ◌≡◌, map, slice_get, unsigned_abs, Option, Some, None}
use Rattle.std.specs.List.{AllByRecursion}
use Rattle.std.proofs.Common.{refl, sym, ap, ◌∙◌, subst, arith}
use Rattle.std.proofs.lemmas.Bool.{lt-ltb}
use lib.IntN.{negsuc, neg_ℤ}
use Rattle.ae_base.specs.Options.{all_known, when, ◌>>=◌}
use Rattle.ae_base.proofs.AllOf.{all_append, all_before_map, all_both, all_of_map, all_weaker}
use Rattle.ae_base.proofs.Integers.{size_neg}
use Rattle.ae_core.specs.Sorts.{head_sort, is_closed_sort, numeral_ok, operands, same_sorts, sort_of, within}
use Rattle.ae_core.specs.declared.problems.Signature.{Signature}
use Rattle.ae_core.specs.declared.terms.Head.{Head}
use Rattle.ae_core.specs.declared.terms.Head.TheVariants as head
use Rattle.ae_core.specs.declared.terms.Op.{Op}
use Rattle.ae_core.specs.declared.terms.Op.TheVariants as op
use Rattle.ae_core.specs.declared.terms.Sort.{Int, out-Sort}
use Rattle.ae_core.specs.declared.terms.Sort.TheVariants.{outs-Int}
use Rattle.ae_core.specs.declared.terms.Term.{Term, Num, Apply}
use Rattle.ae_core.proofs.ClosedSorts.{applied_from}
use Rattle.ae_core.proofs.SortLaws.{sort_in_num}
use Rattle.ae_evaluation.proofs.Decisions.{yes_sorts}
use Rattle.ae_journal.specs.Sides.{is_negative, times_term, summands, last_summand, grouped, sum_term, opposite_row, side, other_side}
use Rattle.ae_journal.specs.Systems.{arithmetic, is_real, numeral_of, scaled_term}
use Rattle.ae_num.specs.Forms.{IsNormal}
use Rattle.ae_num.specs.declared.forms.Lin.{Lin}
use Rattle.ae_num.specs.declared.forms.Part.{Part}
use Rattle.ae_numerals_kept.specs.Lowest.{IsLowestTerm}
use Rattle.ae_numerals_kept.proofs.Lowest.{apply_lowest, whole_lowest}

no_real : is_real (out-Sort Int) ≡ false
no_real = ap is_real outs-Int

arithmetic_is : (o : Op) → arithmetic Int o ≡ head.Int o
arithmetic_is o = ap (λ b. cond b (head.Real o) (head.Int o)) no_real

module _ (sig : Signature) where
  abbrev pub IsWholeTerm : Term → Type 0
  IsWholeTerm t = IsLowestTerm t × (sort_of sig t ≡ Some Int)

  abbrev IsSmall : ℤ → Type 0
  IsSmall z = unsigned_abs z < 2 ^ 127

  -- ---- numerals
  numeral_right : (z : ℤ) → IsSmall z → numeral_ok z (pos 1) false ≡ true
  numeral_right z h = ap (λ b. b && within (pos 1) && true && true) (lt-ltb (unsigned_abs z) (2 ^ 127) h) ∙ ap (λ b. b && true) (let l : 1 < 2 ^ 127 = omega arith in lt-ltb 1 (2 ^ 127) l)

  numeral_whole : (z : ℤ) → IsSmall z → IsWholeTerm (numeral_of Int z)
  numeral_whole z h =
      subst (λ b. IsWholeTerm (Num z (pos 1) b)) (sym no_real) (whole_lowest z false, sort_in_num sig (is_closed_sort sig) [] z (pos 1) false ∙ ap (λ b. when b Int) (numeral_right z h))

  -- ---- sums and products of two
  pair_head : (o : Op) → operands o (Int ∷ []) ≡ Int ∷ Int ∷ [] → head_sort sig (head.Int o) [] (Int ∷ Int ∷ []) ≡ Some Int
  pair_head o e =
      ap (λ os. when (same_sorts [] [] && same_sorts (Int ∷ Int ∷ []) os) Int) e ∙ ap (λ b. when (b && same_sorts (Int ∷ Int ∷ []) (Int ∷ Int ∷ [])) Int) (yes_sorts []) ∙ ap (λ b. when b Int) (yes_sorts (Int ∷ Int ∷ []))

  two_known : (a b : Term) → sort_of sig a ≡ Some Int → sort_of sig b ≡ Some Int → all_known (map (sort_of sig) (a ∷ b ∷ [])) ≡ Some (Int ∷ Int ∷ [])
  two_known a b e f = λ i. e i >>= λ x. (f i >>= λ y. Some (y ∷ [])) >>= λ xs. Some (x ∷ xs)

  pair_whole : (o : Op) → operands o (Int ∷ []) ≡ Int ∷ Int ∷ [] → (a b : Term) → IsWholeTerm a → IsWholeTerm b → IsWholeTerm (Apply (arithmetic Int o) [] (a ∷ b ∷ []))
  pair_whole o e a b p q =
      subst (λ (h : Head). IsWholeTerm (Apply h [] (a ∷ b ∷ []))) (sym (arithmetic_is o)) (
        apply_lowest (head.Int o) [] (a ∷ b ∷ []) (p.0, (q.0, tt)),
        applied_from sig (head.Int o) [] (a ∷ b ∷ []) Int (record { closed = refl; args = Int ∷ Int ∷ []; are = two_known a b p.1 q.1; is = pair_head o e }),
      )

  scaled_whole : (z : ℤ) (t : Term) → IsSmall z → IsWholeTerm t → IsWholeTerm (scaled_term Int z t)
  scaled_whole z t h p = pair_whole op.Mul refl (numeral_of Int z) t (numeral_whole z h) p

  times_whole : (z : ℤ) (t : Term) → IsSmall z → IsWholeTerm t → IsWholeTerm (times_term Int z t)
  times_whole (pos zero) t h p = scaled_whole (pos zero) t h p
  times_whole (pos (suc zero)) t h p = p
  times_whole (pos (suc (suc n))) t h p = scaled_whole (pos (suc (suc n))) t h p
  times_whole (negsuc n) t h p = scaled_whole (negsuc n) t h p

  last_whole : (z : ℤ) → IsSmall z → AllByRecursion IsWholeTerm (last_summand Int z)
  last_whole (pos zero) h = tt
  last_whole (pos (suc n)) h = (numeral_whole (pos (suc n)) h, tt)
  last_whole (negsuc n) h = tt

  grouped_whole : (t : Term) (us : List Term) → IsWholeTerm t → AllByRecursion IsWholeTerm us → IsWholeTerm (grouped Int t us)
  grouped_whole t [] p a = p
  grouped_whole t (u ∷ us) p a = grouped_whole (Apply (arithmetic Int op.Add) [] (t ∷ u ∷ [])) us (pair_whole op.Add refl t u p a.0) a.1

  sum_whole : (ts : List Term) → AllByRecursion IsWholeTerm ts → IsWholeTerm (sum_term Int ts)
  sum_whole [] a = numeral_whole (pos 0) (let l : unsigned_abs (pos 0) < 2 ^ 127 = omega arith in l)
  sum_whole (t ∷ ts) a = grouped_whole t ts a.0 a.1

  -- ---- rows over names of sort `int`
  module _ (names : List Term) where
    abbrev IsNamed : ℕ → Type 0
    IsNamed n = (t : Term) → slice_get names n ≡ Some t → IsWholeTerm t

    abbrev IsFine : Part → Type 0
    IsFine q = IsSmall q.factor × IsNamed q.key

    either : (b : Bool) (ts us : List Term) → AllByRecursion IsWholeTerm ts → AllByRecursion IsWholeTerm us → AllByRecursion IsWholeTerm (cond b ts us)
    either true ts us a c = a
    either false ts us a c = c

    one_more : (q : Part) (us : List Term) → IsFine q → AllByRecursion IsWholeTerm us → (o : Option Term) → slice_get names q.key ≡ o
        → AllByRecursion IsWholeTerm (elim o as (λ _. List Term) [ None ↦ us | Some t ↦ times_term Int q.factor t ∷ us ])
    one_more q us h a None e = a
    one_more q us h a (Some t) e = (times_whole q.factor t h.0 (h.1 t e), a)

    summands_whole : (qs : List Part) → AllByRecursion IsFine qs → AllByRecursion IsWholeTerm (summands Int names qs)
    summands_whole [] a = tt
    summands_whole (q ∷ qs) a =
        either (is_negative q.factor) (summands Int names qs) (elim (slice_get names q.key) as (λ _. List Term) [ None ↦ summands Int names qs | Some t ↦ times_term Int q.factor t ∷ summands Int names qs ])
        (summands_whole qs a.1) (one_more q (summands Int names qs) a.0 (summands_whole qs a.1) (slice_get names q.key) refl)

    fine_side : (f : Lin) → AllByRecursion IsFine f.parts → IsSmall f.constant → IsWholeTerm (side Int names f)
    fine_side f a c =
        sum_whole (summands Int names f.parts ++ last_summand Int f.constant)
        (all_append IsWholeTerm (summands Int names f.parts) (last_summand Int f.constant) (summands_whole f.parts a) (last_whole f.constant c))

    -- a normal form whose names have the sort `int`
    abbrev pub IsRowOfNames : Lin → Type 0
    IsRowOfNames f = IsNormal f × AllByRecursion (λ (q : Part). (t : Term) → slice_get names q.key ≡ Some t → IsWholeTerm t) f.parts

    fine_parts : (f : Lin) → IsRowOfNames f → AllByRecursion IsFine f.parts
    fine_parts f w =
        all_both (λ (q : Part). IsSmall q.factor) (λ (q : Part). IsNamed q.key) IsFine (λ q l n. (l, n)) f.parts (all_before_map (λ n. n < 2 ^ 127) (λ (q : Part). unsigned_abs q.factor) f.parts w.0.within.1.1) w.1

    pub side_whole : (f : Lin) → IsRowOfNames f → IsWholeTerm (side Int names f)
    side_whole f w = fine_side f (fine_parts f w) w.0.within.1.0

    small_opposite : (z : ℤ) → IsSmall z → IsSmall (neg_ℤ z)
    small_opposite z h = subst (λ n. n < 2 ^ 127) (sym (size_neg z)) h

    pub other_side_whole : (f : Lin) → IsRowOfNames f → IsWholeTerm (other_side Int names f)
    other_side_whole f w =
        fine_side (opposite_row f)
        (all_of_map IsFine (λ (q : Part). record { key = q.key; factor = neg_ℤ q.factor }) f.parts
        (all_weaker IsFine (λ (q : Part). IsFine (record { key = q.key; factor = neg_ℤ q.factor })) (λ q h. (small_opposite q.factor h.0, h.1)) f.parts (fine_parts f w)))
        (small_opposite f.constant w.0.within.1.0)

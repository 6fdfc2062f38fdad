-- What holds of names and of whole numbers, and of sums and products with what it holds of, holds of the sides of a row of integers.
use Rattle.std.specs.Prelude.{zero, suc, ℤ, pos, negsuc, ◌≡◌, Bool, true, false, cond, List, [], ◌∷◌, ◌++◌, slice_get, Option, Some, None}
use Rattle.std.specs.List.{AllByRecursion, Contains}
use Rattle.std.proofs.Common.{refl}
use Rattle.std.proofs.lemmas.Option.{get_or_from_slice_get, slice_get_within}
use Rattle.ae_base.proofs.AllOf.{all_append}
use Rattle.ae_core.specs.declared.terms.Op.{Op}
use Rattle.ae_core.specs.declared.terms.Op.TheVariants as op
use Rattle.ae_core.specs.declared.terms.Sort.{Int}
use Rattle.ae_core.specs.declared.terms.Term.{Term, Apply}
use Rattle.ae_journal.specs.Sides.{grouped, is_negative, last_summand, opposite_row, other_side, side, sum_term, summands, times_term}
use Rattle.ae_journal.specs.Systems.{arithmetic, numeral_of}
use Rattle.ae_num.specs.declared.forms.Lin.{Lin}
use Rattle.ae_num.specs.declared.forms.Part.{Part}

module _ (P : Term → Type 0) (names : List Term) (all : (t : Term) → Contains names t → P t) (number : (z : ℤ) → P (numeral_of Int z))
    (two : (o : Op) (s t : Term) → P s → P t → P (Apply (arithmetic Int o) [] (s ∷ t ∷ []))) where
  product : (z : ℤ) (t : Term) → P t → P (times_term Int z t)
  product (pos zero) t h = two op.Mul (numeral_of Int (pos zero)) t (number (pos zero)) h
  product (pos (suc zero)) t h = h
  product (pos (suc (suc n))) t h = two op.Mul (numeral_of Int (pos (suc (suc n)))) t (number (pos (suc (suc n)))) h
  product (negsuc n) t h = two op.Mul (numeral_of Int (negsuc n)) t (number (negsuc n)) h

  last_holds : (z : ℤ) → AllByRecursion P (last_summand Int z)
  last_holds (pos zero) = tt
  last_holds (pos (suc n)) = (number (pos (suc n)), tt)
  last_holds (negsuc n) = tt

  grouped_holds : (t : Term) (us : List Term) → P t → AllByRecursion P us → P (grouped Int t us)
  grouped_holds t [] h a = h
  grouped_holds t (u ∷ us) h a = grouped_holds (Apply (arithmetic Int op.Add) [] (t ∷ u ∷ [])) us (two op.Add t u h a.0) a.1

  sum_holds : (ts : List Term) → AllByRecursion P ts → P (sum_term Int ts)
  sum_holds [] a = number (pos 0)
  sum_holds (t ∷ ts) a = grouped_holds t ts a.0 a.1

  either : (b : Bool) (ts us : List Term) → AllByRecursion P ts → AllByRecursion P us → AllByRecursion P (cond b ts us)
  either true ts us a c = a
  either false ts us a c = c

  one_more : (q : Part) (us : List Term) → AllByRecursion P us → (o : Option Term) → slice_get names q.key ≡ o
      → AllByRecursion P (elim o as (λ _. List Term) [ None ↦ us | Some t ↦ times_term Int q.factor t ∷ us ])
  one_more q us a None e = a
  one_more q us a (Some t) e = (product q.factor t (all t (q.key, slice_get_within names q.key t e, get_or_from_slice_get names q.key t t e)), a)

  summands_hold : (qs : List Part) → AllByRecursion P (summands Int names qs)
  summands_hold [] = tt
  summands_hold (q ∷ qs) =
      either (is_negative q.factor) (summands Int names qs) (elim (slice_get names q.key) as (λ _. List Term) [ None ↦ summands Int names qs | Some t ↦ times_term Int q.factor t ∷ summands Int names qs ])
      (summands_hold qs) (one_more q (summands Int names qs) (summands_hold qs) (slice_get names q.key) refl)

  pub side_holds : (f : Lin) → P (side Int names f)
  side_holds f = sum_holds (summands Int names f.parts ++ last_summand Int f.constant)
      (all_append P (summands Int names f.parts) (last_summand Int f.constant) (summands_hold f.parts) (last_holds f.constant))

  pub other_holds : (f : Lin) → P (other_side Int names f)
  other_holds f = side_holds (opposite_row f)

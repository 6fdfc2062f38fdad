-- The sides of a row of integers are integers.
use Rattle.std.specs.Prelude.{ℕ, zero, suc, ℤ, pos, negsuc, neg_ℤ, ◌<◌, ◌^◌, Bool, true, false, ◌&&◌, ◌||◌, cond, List, [], ◌∷◌, ◌++◌, ◌≡◌, map, slice_get, unsigned_abs, Option, Some, None}
use Rattle.std.specs.List.{AllByRecursion}
use Rattle.std.proofs.Common.{refl, sym, ap, ◌∙◌, subst, arith}
use Rattle.std.proofs.lemmas.Bool.{lt-ltb}
use Rattle.std.proofs.lemmas.Option.{same_Some}
use Rattle.ae_base.specs.Options.{all_known, known, when, ◌>>=◌}
use Rattle.ae_base.proofs.AllOf.{all_append, all_before_map, all_both, all_of_map, all_weaker}
use Rattle.ae_base.proofs.Decided.{decided_of}
use Rattle.ae_base.proofs.Integers.{size_neg}
use Rattle.ae_core.specs.Decided.{Sorts_discrete, Sort_discrete}
use Rattle.ae_core.specs.Sorts.{applied_ok, head_sort, is_closed_sort, is_numeric, numeral_ok, operands, same_numeric, same_sort, same_sorts, sort_of, within}
use Rattle.ae_core.specs.declared.problems.Signature.{Signature}
use Rattle.ae_core.specs.declared.formulas.Formula.{Eq, Lt}
use Rattle.ae_core.specs.declared.terms.Head.{Head}
use Rattle.ae_core.specs.declared.terms.Head.TheVariants as head
use Rattle.ae_core.specs.declared.terms.Op.{Op}
use Rattle.ae_core.specs.declared.terms.Op.TheVariants as op
use Rattle.ae_core.specs.declared.terms.Sort.{Sort, Int, Real, out-Sort}
use Rattle.ae_core.specs.declared.terms.Sort.TheVariants.{outs-Int}
use Rattle.ae_core.specs.declared.terms.Term.{Term, Num, Apply, out-Term}
use Rattle.ae_core.proofs.ClosedSorts.{applied_from}
use Rattle.ae_core.proofs.SortLaws.{sort_in_num}
use Rattle.ae_journal.specs.Sides.{is_negative, times_term, summands, last_summand, grouped, sum_term, opposite_row, side, other_side, AreWhole}
use Rattle.ae_journal.specs.Systems.{arithmetic, is_real, numeral_of, scaled_term}
use Rattle.ae_num.specs.Forms.{IsNormal}
use Rattle.ae_num.specs.declared.forms.Lin.{Lin}
use Rattle.ae_num.specs.declared.forms.Part.{Part}
use Rattle.ae_rules.specs.Clauses.{Clause, is_true}
use Rattle.ae_rules.specs.Instances.{trichotomy}
use Rattle.ae_store.specs.Names.{enterable}
use Rattle.ae_row_sides.specs.Laws.{SidesAreWhole, SidesAreOrdered}

pub no_real : is_real (out-Sort Int) ≡ false
no_real = ap is_real outs-Int

pub arithmetic_is : (o : Op) → arithmetic Int o ≡ head.Int o
arithmetic_is o = ap (λ b. cond b (head.Real o) (head.Int o)) no_real

same_all : (ss : List Sort) → same_sorts ss ss ≡ true
same_all ss = decided_of (Sorts_discrete ss ss) refl

module _ (sig : Signature) where
  abbrev IsWholeTerm : Term → Type 0
  IsWholeTerm t = sort_of sig t ≡ Some Int

  abbrev IsSmall : ℤ → Type 0
  IsSmall z = unsigned_abs z < 2 ^ 127

  -- ---- numerals
  numeral_right : (z : ℤ) → IsSmall z → numeral_ok z (pos 1) false ≡ true
  numeral_right z h = ap (λ b. b && within (pos 1) && true && true) (lt-ltb (unsigned_abs z) (2 ^ 127) h) ∙ ap (λ b. b && true) (let l : 1 < 2 ^ 127 = omega arith in lt-ltb 1 (2 ^ 127) l)

  numeral_whole : (z : ℤ) → IsSmall z → IsWholeTerm (numeral_of Int z)
  numeral_whole z h = subst (λ b. IsWholeTerm (Num z (pos 1) b)) (sym no_real) (sort_in_num sig (is_closed_sort sig) [] z (pos 1) false ∙ ap (λ b. when b Int) (numeral_right z h))

  -- ---- sums and products of two
  pair_head : (o : Op) → operands o (Int ∷ []) ≡ Int ∷ Int ∷ [] → head_sort sig (head.Int o) [] (Int ∷ Int ∷ []) ≡ Some Int
  pair_head o e =
      ap (λ os. when (same_sorts [] [] && same_sorts (Int ∷ Int ∷ []) os) Int) e ∙ ap (λ b. when (b && same_sorts (Int ∷ Int ∷ []) (Int ∷ Int ∷ [])) Int) (same_all []) ∙ ap (λ b. when b Int) (same_all (Int ∷ Int ∷ []))

  two_known : (a b : Term) → sort_of sig a ≡ Some Int → sort_of sig b ≡ Some Int → all_known (map (sort_of sig) (a ∷ b ∷ [])) ≡ Some (Int ∷ Int ∷ [])
  two_known a b e f = λ i. e i >>= λ x. (f i >>= λ y. Some (y ∷ [])) >>= λ xs. Some (x ∷ xs)

  pair_whole : (o : Op) → operands o (Int ∷ []) ≡ Int ∷ Int ∷ [] → (a b : Term) → IsWholeTerm a → IsWholeTerm b → IsWholeTerm (Apply (arithmetic Int o) [] (a ∷ b ∷ []))
  pair_whole o e a b p q =
      subst (λ (h : Head). IsWholeTerm (Apply h [] (a ∷ b ∷ []))) (sym (arithmetic_is o))
      (applied_from sig (head.Int o) [] (a ∷ b ∷ []) Int (record { closed = refl; args = Int ∷ Int ∷ []; are = two_known a b p q; is = pair_head o e }))

  scaled_whole : (z : ℤ) (t : Term) → IsSmall z → IsWholeTerm t → IsWholeTerm (scaled_term Int z t)
  scaled_whole z t h p = pair_whole op.Mul refl (numeral_of Int z) t (numeral_whole z h) p

  times_whole : (z : ℤ) (t : Term) → IsSmall z → IsWholeTerm t → IsWholeTerm (times_term Int z t)
  times_whole (pos zero) t h p = scaled_whole (pos zero) t h p
  times_whole (pos (suc zero)) t h p = p
  times_whole (pos (suc (suc n))) t h p = scaled_whole (pos (suc (suc n))) t h p
  times_whole (negsuc n) t h p = scaled_whole (negsuc n) t h p

  last_whole : (z : ℤ) → IsSmall z → AllByRecursion IsWholeTerm (last_summand Int z)
  last_whole (pos zero) h = tt
  last_whole (pos (suc n)) h = (numeral_whole (pos (suc n)) h, tt)
  last_whole (negsuc n) h = tt

  grouped_whole : (t : Term) (us : List Term) → IsWholeTerm t → AllByRecursion IsWholeTerm us → IsWholeTerm (grouped Int t us)
  grouped_whole t [] p a = p
  grouped_whole t (u ∷ us) p a = grouped_whole (Apply (arithmetic Int op.Add) [] (t ∷ u ∷ [])) us (pair_whole op.Add refl t u p a.0) a.1

  sum_whole : (ts : List Term) → AllByRecursion IsWholeTerm ts → IsWholeTerm (sum_term Int ts)
  sum_whole [] a = numeral_whole (pos 0) (let l : unsigned_abs (pos 0) < 2 ^ 127 = omega arith in l)
  sum_whole (t ∷ ts) a = grouped_whole t ts a.0 a.1

  -- ---- rows over names of sort `int`
  module _ (names : List Term) where
    abbrev IsWholeName : ℕ → Type 0
    IsWholeName n = (t : Term) × (slice_get names n ≡ Some t) × (sort_of sig t ≡ Some Int)

    abbrev IsFine : Part → Type 0
    IsFine q = IsSmall q.factor × IsWholeName q.key

    either : (b : Bool) (ts us : List Term) → AllByRecursion IsWholeTerm ts → AllByRecursion IsWholeTerm us → AllByRecursion IsWholeTerm (cond b ts us)
    either true ts us a c = a
    either false ts us a c = c

    one_more : (q : Part) (us : List Term) → IsFine q → AllByRecursion IsWholeTerm us → (o : Option Term) → slice_get names q.key ≡ o
        → AllByRecursion IsWholeTerm (elim o as (λ _. List Term) [ None ↦ us | Some t ↦ times_term Int q.factor t ∷ us ])
    one_more q us h a None e = a
    one_more q us h a (Some t) e =
        let w = h.1 in
        let is : w.0 ≡ t = same_Some w.0 t (sym w.1 ∙ e) in
        (times_whole q.factor t h.0 (sym (ap (sort_of sig) is) ∙ w.2), a)

    summands_whole : (qs : List Part) → AllByRecursion IsFine qs → AllByRecursion IsWholeTerm (summands Int names qs)
    summands_whole [] a = tt
    summands_whole (q ∷ qs) a =
        either (is_negative q.factor) (summands Int names qs) (elim (slice_get names q.key) as (λ _. List Term) [ None ↦ summands Int names qs | Some t ↦ times_term Int q.factor t ∷ summands Int names qs ])
        (summands_whole qs a.1) (one_more q (summands Int names qs) a.0 (summands_whole qs a.1) (slice_get names q.key) refl)

    fine_side : (f : Lin) → AllByRecursion IsFine f.parts → IsSmall f.constant → IsWholeTerm (side Int names f)
    fine_side f a c =
        sum_whole (summands Int names f.parts ++ last_summand Int f.constant)
        (all_append IsWholeTerm (summands Int names f.parts) (last_summand Int f.constant) (summands_whole f.parts a) (last_whole f.constant c))

    fine_parts : (f : Lin) → IsNormal f → AreWhole sig names f → AllByRecursion IsFine f.parts
    fine_parts f n w =
        all_both (λ (q : Part). IsSmall q.factor) (λ (q : Part). IsWholeName q.key) IsFine (λ q l n. (l, n)) f.parts (all_before_map (λ n. n < 2 ^ 127) (λ (q : Part). unsigned_abs q.factor) f.parts n.within.1.1) w

    side_whole : (f : Lin) → IsNormal f → AreWhole sig names f → IsWholeTerm (side Int names f)
    side_whole f n w = fine_side f (fine_parts f n w) n.within.1.0

    small_opposite : (z : ℤ) → IsSmall z → IsSmall (neg_ℤ z)
    small_opposite z h = subst (λ n. n < 2 ^ 127) (sym (size_neg z)) h

    other_side_whole : (f : Lin) → IsNormal f → AreWhole sig names f → IsWholeTerm (other_side Int names f)
    other_side_whole f n w =
        fine_side (opposite_row f)
        (all_of_map IsFine (λ (q : Part). record { key = q.key; factor = neg_ℤ q.factor }) f.parts
        (all_weaker IsFine (λ (q : Part). IsFine (record { key = q.key; factor = neg_ℤ q.factor })) (λ q h. (small_opposite q.factor h.0, h.1)) f.parts (fine_parts f n w)))
        (small_opposite f.constant n.within.1.0)

  -- ---- their order
  both_integers : same_numeric (Some Int) (Some Int) ≡ true
  both_integers = ap (λ b. b && is_numeric Int) (decided_of (Sort_discrete Int Int) refl) ∙ ap (λ (b : Bool). b || same_sort Int Real) (decided_of (Sort_discrete Int Int) refl)

  pub ordered : (s t : Term) → IsWholeTerm s → IsWholeTerm t → trichotomy sig s t ≡ Some (is_true (Eq s t) ∷ is_true (Lt s t) ∷ is_true (Lt t s) ∷ [])
  ordered s t e f =
      let c : Clause = is_true (Eq s t) ∷ is_true (Lt s t) ∷ is_true (Lt t s) ∷ [] in
      let either : trichotomy sig s t ≡ when (same_numeric (Some Int) (Some Int)) c = λ i. when (same_numeric (e i) (f i)) c in
      either ∙ ap (λ b. when b c) both_integers

pub sides_are_whole : SidesAreWhole
sides_are_whole sig names f n w = (side_whole sig names f n w, other_side_whole sig names f n w)

pub sides_are_ordered : SidesAreOrdered
sides_are_ordered sig names f n w =
    let s = other_side Int names f in
    let t = side Int names f in
    (is_true (Eq s t) ∷ is_true (Lt s t) ∷ is_true (Lt t s) ∷ [], ordered sig s t (other_side_whole sig names f n w) (side_whole sig names f n w))

-- the sides can be entered
pub enterable_side : (sig : Signature) (t : Term) → sort_of sig t ≡ Some Int → enterable sig t ≡ true
enterable_side sig t e = ap (λ (o : Option Sort). known o || applied_ok sig (is_closed_sort sig) [] (out-Term t)) e

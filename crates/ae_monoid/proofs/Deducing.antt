-- What Deduce gives of two rules.
use Rattle.std.specs.Prelude.{◌≡◌, ◌≢◌, ℕ, List, [], ◌∷◌, ◌++◌, length, ◌==◌, true, false, Option, Some}
use Rattle.std.specs.List.Sorted.{IsNonDecreasing}
use Rattle.std.proofs.Common.{refl, sym, ap, ◌∙◌, subst, arith}
use Rattle.std.proofs.lemmas.Bool.{eqb-true, eq-eqb}
use Rattle.ae_multiset.specs.Multisets.{IsSame, minus, common}
use Rattle.ae_multiset.proofs.Counts.{count-append, count-minus, count-common}
use Rattle.ae_monoid.specs.declared.rules.Kept.{Kept}
use Rattle.ae_monoid.specs.declared.pending.PendingPair.{PendingPair}
use Rattle.ae_monoid.specs.Equations.{IsDeduced, SharesNothing, AreApart}
use Rattle.ae_monoid.proofs.Seeking.{counted_at}

-- one side of the equation, where what is shared is spelled
pub side_same : (one right whole s l1 l2 : List ℕ) → IsSame s (common l1 l2) → IsSame one (right ++ minus whole s) → IsSame one (right ++ minus whole (common l1 l2))
side_same one right whole s l1 l2 n o = record {
  each = λ x.
      let a = o.each x in
      let b = count-append x right (minus whole s) in
      let c = count-append x right (minus whole (common l1 l2)) in
      let d = count-minus x whole s in
      let e = count-minus x whole (common l1 l2) in
      let f = n.each x in
      omega (arith, a, b, c, d, e, f);
}

pub shares_nothing : (p q : Kept) (s : List ℕ) → IsSame s (common p.entry.left q.entry.left) → length s ≡ 0 → SharesNothing p q
shares_nothing p q [] n e x a b = let f = n.each x in let c = count-common x p.entry.left q.entry.left in absurd (omega (arith, a, b, c, f))
shares_nothing p q (y ∷ ys) n e x a b = absurd (omega (arith, e))

pub deduced : (p q : Kept) (s : List ℕ) → IsSame s (common p.entry.left q.entry.left) → length s ≢ 0 → (pair : PendingPair) → pair.symbol ≡ p.entry.symbol → IsSame pair.left (p.entry.right ++ minus q.entry.left s)
    → IsSame pair.right (q.entry.right ++ minus p.entry.left s) → IsNonDecreasing pair.left → IsNonDecreasing pair.right → pair.justs ≡ p.just ∷ q.just ∷ [] → IsDeduced p q pair
deduced p q [] n some pair symbol left right rises-l rises-r justs = absurd (some refl)
deduced p q (y ∷ ys) n some pair symbol left right rises-l rises-r justs =
    let h = counted_at (y ∷ ys) 0 0 (omega arith) in
    let e = n.each y in
    let c = count-common y p.entry.left q.entry.left in
    record {
      shared = y;
      in_first = omega (arith, h, e, c);
      in_second = omega (arith, h, e, c);
      symbol = symbol;
      left = side_same pair.left p.entry.right q.entry.left (y ∷ ys) p.entry.left q.entry.left n left;
      right = side_same pair.right q.entry.right p.entry.left (y ∷ ys) p.entry.left q.entry.left n right;
      left_rises = rises-l;
      right_rises = rises-r;
      justs = justs;
    }

pub other_symbols : (p q : Kept) (o u : Option Kept) → o ≡ Some p → u ≡ Some q → (p.entry.symbol ≡ q.entry.symbol → SharesNothing p q) → AreApart o u
other_symbols p q o u e f h p' q' e' f' same =
    let a : Some p ≡ Some p' = sym e ∙ e' in
    let b : Some q ≡ Some q' = sym f ∙ f' in
    let s : p ≡ p' = cc in
    let t : q ≡ q' = cc in
    subst (λ (k : Kept). SharesNothing k q') s (subst (λ (k : Kept). SharesNothing p k) t (h (ap (λ (k : Kept). k.entry.symbol) s ∙ same ∙ sym (ap (λ (k : Kept). k.entry.symbol) t))))

pub sum_after : (one right rest whole s : List ℕ) → IsSame rest (minus whole s) → IsSame one (right ++ rest) → IsSame one (right ++ minus whole s)
sum_after one right rest whole s r o = record { each = λ x. let a = o.each x in let b = count-append x right rest in let c = count-append x right (minus whole s) in let d = r.each x in omega (arith, a, b, c, d) }

pub none_of_length : (s : List ℕ) → true ≡ (length s == 0) → length s ≡ 0
none_of_length s e = eqb-true (length s) 0 (sym e)

pub some_of_length : (s : List ℕ) → false ≡ (length s == 0) → length s ≢ 0
some_of_length s e z = let c : false ≡ true = e ∙ eq-eqb (length s) 0 z in cc

-- The rule from the larger of two multisets to the smaller.
use Rattle.std.specs.Prelude.{◌≡◌, ℕ, ◌<◌, ◌≤◌, ◌⊎◌, List, length, Some}
use Rattle.std.proofs.Common.{sym, ap, subst, arith, inl, inr}
use Rattle.ae_core.specs.declared.problems.AcSymbol.{AcSymbol}
use Rattle.ae_multiset.specs.Multisets.{IsSame, IsLess, rising}
use Rattle.ae_multiset.proofs.Comparing.{less_differs, less_then}
use Rattle.ae_multiset.proofs.Counts.{same, back, then, length_same, less_same}
use Rattle.ae_multiset.proofs.Rising.{count-rising, rising_rises}
use Rattle.ae_monoid.specs.declared.rules.Kept.{Kept}
use Rattle.ae_monoid.specs.Rules.{IsWellKept}
use Rattle.ae_monoid.specs.Changes.{rule_from, IsOriented}

pub spelling_same : (a : List ℕ) → IsSame (rising a) a
spelling_same a = record { each = λ x. count-rising x a }

pub rising_less : (a b : List ℕ) → IsLess (rising a) (rising b) → IsLess a b
rising_less a b l = less_same (spelling_same a) (spelling_same b) l

-- both can't be smaller
pub less_one_way : (a b : List ℕ) → IsLess a b → IsLess b a → ⊥
less_one_way a b l m = less_differs a a (less_then l m) (same a)

pub size_of_less : (a b : List ℕ) → IsLess a b → length a ≤ length b
size_of_less a b (inl l) = omega (arith, l)
size_of_less a b (inr l) = let e = l.0 in omega (arith, e)

module _ (symbol : AcSymbol) (a b : List ℕ) (just : ℕ) (rule : Kept) where
  pub first_is_larger : rule ≡ rule_from symbol a b just → IsLess (rising b) (rising a) → IsOriented (Some rule) symbol a b just
  first_is_larger e l = record { first_larger = λ m. ap Some e; second_larger = λ m. absurd (less_one_way a b m (rising_less b a l)) }

  pub second_is_larger : rule ≡ rule_from symbol b a just → IsLess (rising a) (rising b) → IsOriented (Some rule) symbol a b just
  second_is_larger e l = record { first_larger = λ m. absurd (less_one_way a b (rising_less a b l) m); second_larger = λ m. ap Some e }

pub not_alike : (a b : List ℕ) → rising a ≡ rising b → IsSame a b
not_alike a b e = then (subst (λ (x : List ℕ). IsSame a x) e (back (spelling_same a))) (spelling_same b)

pub well_from : (symbol : AcSymbol) (larger smaller : List ℕ) (just : ℕ) (rule : Kept) → rule ≡ rule_from symbol larger smaller just → IsLess (rising smaller) (rising larger) → 0 < length smaller
    → (2 ≤ length larger) ⊎ (2 ≤ length smaller) → IsWellKept rule
well_from symbol larger smaller just rule e l some two =
    let m = size_of_less (rising smaller) (rising larger) l in
    let x = length_same (rising larger) larger (spelling_same larger) in
    let y = length_same (rising smaller) smaller (spelling_same smaller) in
    subst IsWellKept (sym e)
    (record { left_rises = rising_rises larger; right_rises = rising_rises smaller; falls = l; some = omega (arith, some, y); two = by_part two m x y })
  where
    by_part : (2 ≤ length larger) ⊎ (2 ≤ length smaller) → length (rising smaller) ≤ length (rising larger) → length (rising larger) ≡ length larger → length (rising smaller) ≡ length smaller → 2 ≤ length (rising larger)
    by_part (inl h) m x y = omega (arith, h, x)
    by_part (inr h) m x y = omega (arith, h, m, x, y)

pub rule_same : (symbol s : AcSymbol) (l left r right : List ℕ) (just : ℕ) → s ≡ symbol → l ≡ rising left → r ≡ rising right
    → (record { entry = record { symbol = s; left = l; right = r }; just = just }) ≡ rule_from symbol left right just
rule_same symbol s l left r right just e f g = λ i. record { entry = record { symbol = e i; left = f i; right = g i }; just = just }

pub swapped : {A B : Type 0} → A ⊎ B → B ⊎ A
swapped (inl x) = inr x
swapped (inr y) = inl y

-- Quotients that are rounded down, and what divides, as the code tests them.
use Rattle.std.specs.Prelude.{ℕ, zero, suc, ℤ, pos, negsuc, ◌≡◌, ◌≤◌, ◌%◌, ◌/◌, ◌*◌, neg_ℤ, ◌*ℤ◌, ◌+ℤ◌, ◌-ℤ◌, ◌<ℤ◌, ◌≤ℤ◌, nat_eq, unsigned_abs, IsTrue}
use Rattle.std.specs.Int.{◌∣◌, int_div_euclid}
use Rattle.std.proofs.Common.{arith, refl, sym, ap, ◌∙◌, subst}
use Rattle.std.proofs.lemmas.Bool.{eq-eqb, eqb-true}
use Rattle.std.proofs.lemmas.Int.{to_z-of_z}
use Rattle.std.proofs.lemmas.Nat.Gcd.{dvd_of_mod-eq-zero, mod-eq-zero_of_dvd}
use borrow.Author.Differences.{ints}
use mir.Syntax.{w128}
use mir.Val.{SFits, of_z, to_z}
use Rattle.ae_math.specs.Inner.Integers.{add_mul_z, neg_mul_z}
use Rattle.ae_rules.specs.Lines.{IsFloor}

beyond : (p k q : ℤ) (n : ℕ) → q ≡ p +ℤ pos n → k <ℤ p → q ≤ℤ k → ⊥
beyond p k q n e a b = omega (arith, ints)

-- a greater number than the floor is no floor
greater : (k : ℤ) (d : ℕ) (r s : ℤ) (m : ℕ) → s ≡ (r +ℤ pos 1) +ℤ pos m → k <ℤ ((r +ℤ pos 1) *ℤ pos d) → (s *ℤ pos d) ≤ℤ k → ⊥
greater k d r s m e a b = beyond ((r +ℤ pos 1) *ℤ pos d) k (s *ℤ pos d) (m * d) (ap (λ z. z *ℤ pos d) e ∙ add_mul_z (r +ℤ pos 1) (pos m) (pos d)) a b

floor_unique : (k : ℤ) (d : ℕ) (r s : ℤ) → IsFloor k d r → IsFloor k d s → r ≡ s
floor_unique k d r s a b = by_gap (s -ℤ r) refl
  where
    by_gap : (z : ℤ) → s -ℤ r ≡ z → r ≡ s
    by_gap (pos zero) e = omega (arith, ints, e)
    by_gap (pos (suc m)) e = absurd (greater k d r s m (omega (arith, ints, e)) a.less b.at_least)
    by_gap (negsuc m) e = absurd (greater k d s r m (omega (arith, ints, e)) b.less a.at_least)

floor_there : (k d : ℤ) → pos 0 <ℤ d → IsFloor k (unsigned_abs d) (int_div_euclid k d)
floor_there k (negsuc n) h = absurd (omega (arith, ints))
floor_there k (pos zero) h = absurd (omega (arith, ints))
floor_there (pos a) (pos (suc n)) h = record { at_least = omega (arith, ints); less = omega (arith, ints) }
floor_there (negsuc a) (pos (suc n)) h = record { at_least = omega (arith, ints); less = subst (λ z. negsuc a <ℤ z) (sym (next (a / suc n) (suc n))) (negative_less a (a / suc n * suc n) (omega arith)) }
  where
    next : (q d : ℕ) → (negsuc q +ℤ pos 1) *ℤ pos d ≡ neg_ℤ (pos (q * d))
    next q d = ap (λ z. z *ℤ pos d) (omega (arith, ints)) ∙ neg_mul_z (pos q) (pos d)

    negative_less : (a m : ℕ) → m ≤ a → negsuc a <ℤ neg_ℤ (pos m)
    negative_less a zero h = omega (arith, ints)
    negative_less a (suc m) h = omega (arith, ints)

pub floor_quotient : (k q d : ℤ) → SFits w128 k → SFits w128 d → pos 0 <ℤ d → q ≡ int_div_euclid (to_z w128 (of_z w128 k)) (to_z w128 (of_z w128 d)) → IsFloor k (unsigned_abs d) q
floor_quotient k q d fk fd h e =
    let quotient : q ≡ int_div_euclid k d = e ∙ (λ i. int_div_euclid (to_z-of_z w128 k fk i) (to_z-of_z w128 d fd i)) in
    subst (IsFloor k (unsigned_abs d)) (sym quotient) (floor_there k d h)

pub floor_test : (k q r d : ℤ) → SFits w128 k → SFits w128 q → SFits w128 r → SFits w128 d → IsFloor (to_z w128 (of_z w128 k)) (unsigned_abs (to_z w128 (of_z w128 d))) q
    → (IsTrue (nat_eq (of_z w128 q) (of_z w128 r)) → IsFloor k (unsigned_abs d) r) × (IsFloor k (unsigned_abs d) r → IsTrue (nat_eq (of_z w128 q) (of_z w128 r)))
floor_test k q r d fk fq fr fd found =
    let floor : IsFloor k (unsigned_abs d) q = subst (λ n. IsFloor n (unsigned_abs d) q) (to_z-of_z w128 k fk) (subst (λ n. IsFloor (to_z w128 (of_z w128 k)) (unsigned_abs n) q) (to_z-of_z w128 d fd) found) in (
      λ t. subst (IsFloor k (unsigned_abs d)) (sym (to_z-of_z w128 q fq) ∙ ap (to_z w128) (eqb-true (of_z w128 q) (of_z w128 r) t) ∙ to_z-of_z w128 r fr) floor,
      λ f. eq-eqb (of_z w128 q) (of_z w128 r) (ap (of_z w128) (floor_unique k (unsigned_abs d) q r floor f)),
    )

pub divides_test : (a b n d : ℕ) → a ≡ n → b ≡ d → (IsTrue (nat_eq (a % b) 0) → d ∣ n) × (d ∣ n → IsTrue (nat_eq (a % b) 0))
divides_test a b n d e f =
    let same : a % b ≡ n % d = λ i. e i % f i in
    (λ t. dvd_of_mod-eq-zero d (sym same ∙ eqb-true (a % b) 0 t), λ h. eq-eqb (a % b) 0 (same ∙ mod-eq-zero_of_dvd d h))

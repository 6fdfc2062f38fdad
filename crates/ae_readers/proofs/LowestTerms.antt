-- Which numbers may stand below a stroke.
use Rattle.std.proofs.Common.{ℕ, zero, suc, ◌+◌, ◌*◌, ◌-◌, ◌%◌, ◌≤◌, ◌<◌, ◌⊎◌, Bool, true, false, not, ◌&&◌, ◌||◌, IsTrue, nat_eq, nat_le, nat_lt, ◌≡◌, refl, sym, ap, ◌∙◌, subst, arith}
use mathlib.Core.Logic.{inl, inr}
use Rattle.std.specs.Int.{IsGcd}
use Rattle.std.proofs.Math.Nat.{pos_of_dvd_of_pos, eq-one_of_dvd-one}
use Rattle.std.proofs.lemmas.Nat.Gcd.{dvd_of_mod-eq-zero, mod-eq-zero_of_dvd, le_of_dvd, dvd_refl}
use Rattle.std.proofs.lemmas.Bool.{eqb-true, eq-eqb, ltb-true, lt-ltb, leb-true, le-leb, and_right, not_from_false, not-true}
use Rattle.ae_codes.specs.Codes.{limit, is_digit}
use Rattle.ae_codes.specs.Fractions.{lowest, lowest_bound, common, some_below, below_is, below_has, or_cases, small}
use Rattle.ae_codes.specs.Numbers.{and_one, and_two, and_both, not_true}
use Rattle.ae_readers.specs.Denominators.{can_reach, can_live, may_go}

pub lowest_none : (top : ℕ) → lowest top 0 ≡ false
lowest_none top = not_true (lowest top 0) (λ h. let l = leb-true 1 0 (and_one (nat_le 1 0) (nat_le 0 limit) (and_one (nat_le 1 0 && nat_le 0 limit) (not (some_below 1 (common top 0))) h)) in omega arith)

pub lowest_far : (top n : ℕ) → limit < n → lowest top n ≡ false
lowest_far top n l = not_true (lowest top n) (λ h. let b = lowest_bound top n h in omega arith)

no_common : (top d : ℕ) → IsGcd top d 1 → some_below (suc d) (common top d) ≡ false
no_common top d g = not_true (some_below (suc d) (common top d)) (λ h.
    let k = below_is (suc d) (common top d) h in
    let front = and_one (nat_lt 1 k.0 && nat_eq (top % k.0) 0) (nat_eq (d % k.0) 0) k.2 in
    let above = ltb-true 1 k.0 (and_one (nat_lt 1 k.0) (nat_eq (top % k.0) 0) front) in
    let one = eqb-true (top % k.0) 0 (and_two (nat_lt 1 k.0) (nat_eq (top % k.0) 0) front) in
    let two = eqb-true (d % k.0) 0 (and_two (nat_lt 1 k.0 && nat_eq (top % k.0) 0) (nat_eq (d % k.0) 0) k.2) in
    let is = eq-one_of_dvd-one (g.2 k.0 (dvd_of_mod-eq-zero k.0 one) (dvd_of_mod-eq-zero k.0 two)) in
    omega (arith, is, above))

some_common : (top d g : ℕ) → IsGcd top d g → 1 ≤ d → ¬ (g ≡ 1) → some_below (suc d) (common top d) ≡ true
some_common top d g i h n =
    let positive = pos_of_dvd_of_pos i.1 h in
    let most = le_of_dvd h i.1 in
    below_has (suc d) g (common top d) (omega (arith, most))
    (and_both (nat_lt 1 g && nat_eq (top % g) 0) (nat_eq (d % g) 0)
    (and_both (nat_lt 1 g) (nat_eq (top % g) 0) (lt-ltb 1 g (omega (arith, positive, n))) (eq-eqb (top % g) 0 (mod-eq-zero_of_dvd g i.0)))
    (eq-eqb (d % g) 0 (mod-eq-zero_of_dvd g i.1)))

by_gcd : (b : Bool) (top d g : ℕ) → nat_eq g 1 ≡ b → IsGcd top d g → 1 ≤ d → d ≤ limit → b ≡ lowest top d
by_gcd true top d g e i h l =
    let is = eqb-true g 1 e in
    sym (and_both (nat_le 1 d && nat_le d limit) (not (some_below (suc d) (common top d)))
    (and_both (nat_le 1 d) (nat_le d limit) (le-leb 1 d h) (le-leb d limit l))
    (not_from_false (some_below (suc d) (common top d)) (no_common top d (subst (IsGcd top d) is i))))
by_gcd false top d g e i h l =
    sym (not_true (lowest top d) (λ t.
    let n : ¬ (g ≡ 1) = λ q. let z = eq-eqb g 1 q in absurd cc in
    let some = some_common top d g i h n in
    let none = not-true (some_below (suc d) (common top d)) (and_two (nat_le 1 d && nat_le d limit) (not (some_below (suc d) (common top d))) t) in
    absurd cc))

pub lowest_by_gcd : (top d g : ℕ) → IsGcd top d g → 1 ≤ d → d ≤ limit → nat_eq g 1 ≡ lowest top d
lowest_by_gcd top d g i h l = by_gcd (nat_eq g 1) top d g refl i h l

-- ---- further digits
pub reach_none : (top n : ℕ) → can_reach top 0 n ≡ false
unfolding can_reach
reach_none top n = refl

reach_suc : (top k n : ℕ) → can_reach top (suc k) n ≡ lowest top n || some_below 10 (λ x. can_reach top k (n * 10 + x))
unfolding can_reach
reach_suc top k n = refl

pub reach_here : (top more n : ℕ) → 0 < more → lowest top n ≡ true → can_reach top more n ≡ true
reach_here top zero n h e = absurd (omega arith)
reach_here top (suc k) n h e = reach_suc top k n ∙ ap (λ b. b || some_below 10 (λ x. can_reach top k (n * 10 + x))) e

pub reach_turn : (top more n : ℕ) → 0 < more → lowest top n ≡ false → can_reach top more n ≡ some_below 10 (λ x. can_reach top (more - 1) (n * 10 + x))
reach_turn top zero n h e = absurd (omega arith)
reach_turn top (suc k) n h e =
    let back : suc k - 1 ≡ k = omega arith in
    reach_suc top k n ∙ ap (λ b. b || some_below 10 (λ x. can_reach top k (n * 10 + x))) e ∙ ap (λ j. some_below 10 (λ x. can_reach top j (n * 10 + x))) (sym back)

pub one_fewer : (d : ℕ) (f : ℕ → Bool) → 0 < d → some_below d f ≡ f (d - 1) || some_below (d - 1) f
one_fewer zero f h = absurd (omega arith)
one_fewer (suc d) f h = let back : suc d - 1 ≡ d = omega arith in λ i. f (sym back i) || some_below (sym back i) f

-- a number that is reached is at least as great, and one that may stand
grows : (top k n : ℕ) → IsTrue (can_reach top k n) → (m : ℕ) × (n ≤ m) × IsTrue (lowest top m)
grows top zero n h = let z = reach_none top n in absurd cc
grows top (suc k) n h = elim (or_cases (lowest top n) (some_below 10 (λ x. can_reach top k (n * 10 + x))) (sym (reach_suc top k n) ∙ h)) [
  | inl a ↦ (n, omega arith, a)
  | inr b ↦
      let r = below_is 10 (λ x. can_reach top k (n * 10 + x)) b in
      let g = grows top k (n * 10 + r.0) r.2 in
      let l = g.1 in (g.0, omega (arith, l), g.2)
]

far_step : (top k n : ℕ) → limit < n * 10 → IsTrue (some_below 10 (λ x. can_reach top k (n * 10 + x))) → ⊥
far_step top k n l h =
    let r = below_is 10 (λ x. can_reach top k (n * 10 + x)) h in
    let g = grows top k (n * 10 + r.0) r.2 in
    let b = lowest_bound top g.0 g.2 in let m = g.1 in omega (arith, b, m)

pub reach_far : (top more n : ℕ) → 0 < more → limit < n * 10 → lowest top n ≡ false → can_reach top more n ≡ false
reach_far top more n h l e = reach_turn top more n h e ∙ not_true (some_below 10 (λ x. can_reach top (more - 1) (n * 10 + x))) (far_step top (more - 1) n l)

-- ---- digits that go on
live_is : (top n : ℕ) → can_live top n ≡ lowest top n || (nat_lt 0 n && can_reach top 40 n)
unfolding can_live can_reach
live_is top n = refl

pub live_here : (top n : ℕ) → lowest top n ≡ true → can_live top n ≡ true
live_here top n e = live_is top n ∙ ap (λ b. b || (nat_lt 0 n && can_reach top 40 n)) e

live_else : (top n : ℕ) → lowest top n ≡ false → can_live top n ≡ nat_lt 0 n && can_reach top 40 n
live_else top n e = live_is top n ∙ ap (λ b. b || (nat_lt 0 n && can_reach top 40 n)) e

pub live_none : (top : ℕ) → can_live top 0 ≡ false
live_none top = live_else top 0 (lowest_none top)

-- below 0 only 1 may stand
zero_common : (d : ℕ) → 1 < d → IsTrue (common 0 d d)
zero_common d h = and_both (nat_lt 1 d && nat_eq (0 % d) 0) (nat_eq (d % d) 0) (and_both (nat_lt 1 d) (nat_eq (0 % d) 0) (lt-ltb 1 d h) (eq-eqb (0 % d) 0 (omega arith))) (eq-eqb (d % d) 0 (mod-eq-zero_of_dvd d (dvd_refl d)))

only_one : (m : ℕ) → IsTrue (lowest 0 m) → m ≤ 1
only_one m h = elim (two m) [
  | inl l ↦ l
  | inr g ↦
      let some = below_has (suc m) m (common 0 m) (omega arith) (zero_common m g) in
      let none = not-true (some_below (suc m) (common 0 m)) (and_two (nat_le 1 m && nat_le m limit) (not (some_below (suc m) (common 0 m))) h) in
      absurd cc
]
  where
    two : (m : ℕ) → (m ≤ 1) ⊎ (1 < m)
    two zero = inl (omega arith)
    two (suc zero) = inl (omega arith)
    two (suc (suc m)) = inr (omega arith)

zero_reach : (n : ℕ) → lowest 0 n ≡ false → (nat_lt 0 n && can_reach 0 40 n) ≡ false
zero_reach n e = not_true (nat_lt 0 n && can_reach 0 40 n) (λ h.
    let some = ltb-true 0 n (and_one (nat_lt 0 n) (can_reach 0 40 n) h) in
    let g = grows 0 40 n (and_two (nat_lt 0 n) (can_reach 0 40 n) h) in
    let m = only_one g.0 g.2 in
    let l = g.1 in
    let is : g.0 ≡ n = omega (arith, some, m, l) in
    let z : lowest 0 n ≡ true = subst (λ y. IsTrue (lowest 0 y)) is g.2 in
    absurd cc)

pub live_zero : (top n : ℕ) → top ≡ 0 → lowest top n ≡ false → can_live top n ≡ false
live_zero top n t e = ap (λ z. can_live z n) t ∙ live_else 0 n (sym (ap (λ z. lowest z n) t) ∙ e) ∙ zero_reach n (sym (ap (λ z. lowest z n) t) ∙ e)

pub live_reach : (top n : ℕ) → 0 < n → lowest top n ≡ false → can_reach top 40 n ≡ can_live top n
live_reach top n h e = sym (live_else top n e ∙ ap (λ b. b && can_reach top 40 n) (lt-ltb 0 n h))

pub live_within : (top n : ℕ) → can_live top n ≡ true → n ≤ limit
unfolding can_live
live_within top n h = small (lowest top) (lowest_bound top) n h

pub live_far : (top n : ℕ) → limit < n → can_live top n ≡ false
live_far top n l = not_true (can_live top n) (λ h. let w = live_within top n h in omega arith)

pub far_stops : (top n x : ℕ) → limit < n * 10 → may_go top n x ≡ false
far_stops top n x l = and_right (nat_lt 0 n && is_digit x) (can_live top (n * 10 + (x - 48))) (live_far top (n * 10 + (x - 48)) (omega arith))

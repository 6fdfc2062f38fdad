-- Directions: forms of whole numbers with no divisor in common. Two that are positive multiples of one another are equal.
use Rattle.std.specs.Prelude.{ℕ, zero, suc, ℤ, pos, negsuc, ◌≡◌, ◌≢◌, ◌<◌, Bool, cond, nat_eq, ◌*◌, ◌/◌, ◌*ℤ◌, ◌<ℤ◌, ◌≤ℤ◌, true, false, List, [], ◌∷◌, map, Option, Some, None, unsigned_abs}
use Rattle.std.specs.List.{AllByRecursion}
use Rattle.std.specs.Int.{◌∣◌, IsGcd}
use Rattle.std.proofs.Common.{arith, refl, sym, ap, ◌∙◌, subst}
use Rattle.std.proofs.Math.Nat.{eq-zero_of_zero-dvd, dvd_of_mul-dvd-mul_right, mul-dvd-mul_right}
use native.Mathlib.Decide.{ℕ_discrete}
use native.Mathlib.Nat.{dvd-zero, dvd_antisymm, dvd_refl, dvd-mul_right, dvd-one, one-mul, mul_comm, mul_assoc}
use borrow.Author.Differences.{ints}
use std.Quotient.{/_rec}
use Rattle.std.proofs.lemmas.Int.{unsigned_abs-mul}
use Rattle.ae_base.proofs.Tests.{true_false, false_true}
use Rattle.ae_base.proofs.Integers.{size_zero}
use Rattle.ae_math.specs.Fractions.{ℚ, zero_ℚ, one_ℚ, inverse_ℚ, ◌*ℚ◌, frac, ratio, whole, is_positive}
use Rattle.ae_math.proofs.FractionLaws.{field, mul_comm_q, mul_zero_q, one_mul_q, times_inverse}
use Rattle.ae_math.proofs.FractionOrder.{positive_product}
use Rattle.ae_math.proofs.Wholes.{whole_times, whole_same, zero_whole}
use Rattle.ae_math.proofs.FormLaws.{factor_in-scale}
use Rattle.ae_math.proofs.Divisors.{gcd_exists, coprime_parts, euclid, divisor_positive, whole_part}
use Rattle.ae_num.specs.declared.forms.Part.{Part}
use Rattle.ae_num.specs.declared.forms.Lin.{Lin}
use Rattle.ae_num.specs.Forms.{meaning, factor_of, IsRising, IsNormal, DividesAll, IsCommonDivisor, Reduced, sizes}
use Rattle.ae_num.proofs.MeaningLaws.{factor_meaning}
use Rattle.ae_num.proofs.PairLaws.{factor_head}
use Rattle.ae_num.proofs.UniqueLaws.{all_divide, same_parts}
use Rattle.ae_rows.proofs.Elimination.{positive_nonzero}
use Rattle.ae_ineq.specs.Inner.Primitive.{IsPrimitive}
use Rattle.ae_ineq.specs.Inner.Sets.{IsMultiple}

-- ---- the numbers of a form: its constant, and the factor of each name
abbrev entry : Lin → Option ℕ → ℤ
entry l None = l.constant
entry l (Some k) = factor_of l.parts k

-- a number that divides the constant and each factor
divides_entries : (f : Lin) (d : ℕ) → IsRising f.parts → ((o : Option ℕ) → d ∣ unsigned_abs (entry f o)) → DividesAll d (unsigned_abs f.constant ∷ map (λ p. unsigned_abs p.factor) f.parts)
divides_entries f d r h = (h None, all_divide d f.parts r (λ k. h (Some k)))

not_two : 2 ∣ 1 → ⊥
not_two h = let e : 2 ≡ 1 = dvd-one.0 h in absurd (omega (arith, e))

-- some number of it isn't 0
some_entry : (f : Lin) → AllByRecursion (λ p. p.factor ≢ pos 0) f.parts → IsPrimitive f → (o : Option ℕ) × (entry f o ≢ pos 0)
some_entry f n p = by_parts f.parts refl
  where
    by_parts : (ps : List Part) → f.parts ≡ ps → (o : Option ℕ) × (entry f o ≢ pos 0)
    by_parts (q ∷ qs) e =
        let nonzero : AllByRecursion (λ (x : Part). x.factor ≢ pos 0) (q ∷ qs) = subst (AllByRecursion (λ (x : Part). x.factor ≢ pos 0)) e n in
        (Some q.key, λ z. nonzero.0 (sym (factor_head q qs) ∙ ap (λ xs. factor_of xs q.key) (sym e) ∙ z))
    by_parts [] e =
        (None, λ z. not_two (p.lowest 2 (subst (λ (c : ℤ). 2 ∣ unsigned_abs c) (sym z) (dvd-zero 2), subst (λ (ps : List Part). DividesAll 2 (map (λ x. unsigned_abs x.factor) ps)) (sym e) tt)))

-- ---- what divides b times each number divides b
part_divides : (a b d e h x : ℕ) → 0 < h → IsGcd d e 1 → d * h ≡ a → e * h ≡ b → a ∣ b * x → d ∣ x
part_divides a b d e h x z coprime dh eh m =
    let moved : b * x ≡ (e * x) * h = ap (λ t. t * x) (sym eh) ∙ mul_assoc e h x ∙ ap (λ t. e * t) (mul_comm h x) ∙ sym (mul_assoc e x h) in
    euclid d e x coprime (dvd_of_mul-dvd-mul_right d z (subst (λ t. t ∣ (e * x) * h) (sym dh) (subst (λ t. a ∣ t) moved m)))

primitive_divides : (g : Lin) → IsRising g.parts → IsPrimitive g → (a b n : ℕ) → a ≡ suc n → ((o : Option ℕ) → a ∣ b * unsigned_abs (entry g o)) → a ∣ b
primitive_divides g rising p a b n size m =
    let r = gcd_exists a b in
    let h = r.0 in
    let z : 0 < h = divisor_positive h n (subst (λ t. h ∣ t) size (r.1).0) in
    let d = a / h in
    let e = b / h in
    let dh : d * h ≡ a = whole_part a h z (r.1).0 in
    let eh : e * h ≡ b = whole_part b h z (r.1).1 in
    let coprime : IsGcd d e 1 = coprime_parts a b h d e z r.1 (sym dh) (sym eh) in
    let one : d ≡ 1 = dvd-one.0 (p.lowest d (divides_entries g d rising (λ o. part_divides a b d e h (unsigned_abs (entry g o)) z coprime dh eh (m o)))) in
    let same : h ≡ a = sym (one-mul h) ∙ ap (λ t. t * h) (sym one) ∙ dh in
    subst (λ t. t ∣ b) same (r.1).1

-- ---- signs
same_number : (a b : ℤ) → a ≢ pos 0 → unsigned_abs a ≡ unsigned_abs b → is_positive (whole a) ≡ is_positive (whole b) → a ≡ b
unfolding is_positive frac /_rec
same_number (pos m) (pos n) z e s = ap pos e
same_number (negsuc m) (negsuc n) z e s = let k : m ≡ n = omega (arith, e) in ap negsuc k
same_number (pos zero) (negsuc n) z e s = absurd (z refl)
same_number (pos (suc m)) (negsuc n) z e s = true_false s
same_number (negsuc m) (pos zero) z e s = absurd (omega (arith, e))
same_number (negsuc m) (pos (suc n)) z e s = false_true s

regrouped : (x i y : ℚ) → (x *ℚ i) *ℚ y ≡ i *ℚ (x *ℚ y)
regrouped x i y = simp field

zero_factor : (x y : ℚ) → is_positive x ≡ true → x *ℚ y ≡ zero_ℚ → y ≡ zero_ℚ
zero_factor x y p e = sym (one_mul_q y) ∙ ap (λ t. t *ℚ y) (sym (times_inverse x (positive_nonzero x p))) ∙ regrouped x (inverse_ℚ x) y ∙ ap (λ t. inverse_ℚ x *ℚ t) e ∙ mul_zero_q (inverse_ℚ x)

one_factor : (x w : ℚ) → w ≢ zero_ℚ → w ≡ x *ℚ w → x ≡ one_ℚ
one_factor x w n e = sym (one_mul_q x) ∙ ap (λ t. t *ℚ x) (sym (times_inverse w n)) ∙ regrouped w (inverse_ℚ w) x ∙ ap (λ t. inverse_ℚ w *ℚ t) (mul_comm_q w x ∙ sym e) ∙ mul_comm_q (inverse_ℚ w) w ∙ times_inverse w n

swapped : (x y z : ℚ) → (x *ℚ y) *ℚ z ≡ y *ℚ (x *ℚ z)
swapped x y z = simp field

-- ---- two directions
module _ (f g : Lin) (nf : IsNormal f) (ng : IsNormal g) (pf : IsPrimitive f) (pg : IsPrimitive g) (m : IsMultiple (meaning f) (meaning g)) where
  multiplied : (o : Option ℕ) → whole (entry g o) ≡ m.times *ℚ whole (entry f o)
  multiplied None = ap (ratio g.constant) (sym pg.whole) ∙ sym m.same.constants ∙ ap (λ d. m.times *ℚ ratio f.constant d) pf.whole
  multiplied (Some k) =
      ap (ratio (factor_of g.parts k)) (sym pg.whole) ∙ sym (factor_meaning g k ng.rising) ∙ sym (m.same.factors k) ∙ factor_in-scale ℕ_discrete m.times (meaning f).parts k
      ∙ ap (λ t. m.times *ℚ t) (factor_meaning f k nf.rising ∙ ap (ratio (factor_of f.parts k)) pf.whole)

  crossed : (o q : Option ℕ) → entry g o *ℤ entry f q ≡ entry f o *ℤ entry g q
  crossed o q =
      whole_same (entry g o *ℤ entry f q) (entry f o *ℤ entry g q) (
      sym (whole_times (entry g o) (entry f q)) ∙ ap (λ t. t *ℚ whole (entry f q)) (multiplied o) ∙ swapped m.times (whole (entry f o)) (whole (entry f q))
      ∙ ap (λ t. whole (entry f o) *ℚ t) (sym (multiplied q)) ∙ whole_times (entry f o) (entry g q))

  sizes_crossed : (o q : Option ℕ) → unsigned_abs (entry g o) * unsigned_abs (entry f q) ≡ unsigned_abs (entry f o) * unsigned_abs (entry g q)
  sizes_crossed o q = sym (unsigned_abs-mul (entry g o) (entry f q)) ∙ ap unsigned_abs (crossed o q) ∙ unsigned_abs-mul (entry f o) (entry g q)

  successor : (z : ℤ) → z ≢ pos 0 → (n : ℕ) × (unsigned_abs z ≡ suc n)
  successor (pos zero) h = absurd (h refl)
  successor (pos (suc n)) h = (n, refl)
  successor (negsuc n) h = (n, refl)

  -- the number in both that isn't 0 in the first
  same_there : (o : Option ℕ) → entry f o ≢ pos 0 → entry g o ≡ entry f o
  same_there o h =
      let there : entry g o ≢ pos 0 = λ z. h (whole_same (entry f o) (pos 0) (zero_factor m.times (whole (entry f o)) m.positive (sym (multiplied o) ∙ ap whole z ∙ sym zero_whole) ∙ zero_whole)) in
      let s = successor (entry g o) there in
      let t = successor (entry f o) h in
      let a = unsigned_abs (entry g o) in
      let b = unsigned_abs (entry f o) in
      let one : a ∣ b = primitive_divides g ng.rising pg a b s.0 s.1 (λ q. subst (λ k. a ∣ k) (sizes_crossed o q) (dvd-mul_right a (unsigned_abs (entry f q)))) in
      let other : b ∣ a = primitive_divides f nf.rising pf b a t.0 t.1 (λ q. subst (λ k. b ∣ k) (sym (sizes_crossed o q)) (dvd-mul_right b (unsigned_abs (entry g q)))) in
      same_number (entry g o) (entry f o) there (dvd_antisymm one other) (ap is_positive (multiplied o ∙ mul_comm_q m.times (whole (entry f o))) ∙ positive_product (whole (entry f o)) m.times m.positive)

  pub directions_same : f ≡ g
  directions_same =
      let some = some_entry f nf.nonzero pf in
      let o = some.0 in
      let nonzero : whole (entry f o) ≢ zero_ℚ = λ z. some.1 (whole_same (entry f o) (pos 0) (z ∙ zero_whole)) in
      let one : m.times ≡ one_ℚ = one_factor m.times (whole (entry f o)) nonzero (ap whole (sym (same_there o some.1)) ∙ multiplied o) in
      let each : (q : Option ℕ) → entry f q ≡ entry g q = λ q. sym (whole_same (entry g q) (entry f q) (multiplied q ∙ ap (λ t. t *ℚ whole (entry f q)) one ∙ one_mul_q (whole (entry f q)))) in
      let parts : f.parts ≡ g.parts = same_parts f.parts g.parts nf.rising ng.rising nf.nonzero ng.nonzero (λ k. each (Some k)) in
      let dens : f.den ≡ g.den = pf.whole ∙ sym pg.whole in
      λ i. record { den = dens i; parts = parts i; constant = each None i }

-- ---- a form over its numbers' greatest common divisor
divides_factor : (d : ℕ) (ps : List Part) (k : ℕ) → DividesAll d (map (λ p. unsigned_abs p.factor) ps) → d ∣ unsigned_abs (factor_of ps k)
divides_factor d [] k h = dvd-zero d
divides_factor d (p ∷ ps) k h = by_test (nat_eq p.key k) (divides_factor d ps k h.1)
  where
    by_test : (b : Bool) → d ∣ unsigned_abs (factor_of ps k) → d ∣ unsigned_abs (cond b p.factor (factor_of ps k))
    by_test true rest = h.0
    by_test false rest = rest

pub above_zero : (z : ℤ) → pos 0 ≤ℤ z → 0 < unsigned_abs z → pos 0 <ℤ z
above_zero (pos n) h k = omega (arith, ints, k)
above_zero (negsuc n) h k = absurd (omega (arith, ints))

-- the number is positive where the form isn't zero
pub divisor_above : (l : Lin) (c : ℕ) → IsNormal l → (l.parts ≡ [] → l.constant ≢ pos 0) → IsCommonDivisor (sizes l.constant l.parts l.constant) c → 0 < c
divisor_above l (suc c) n z d = omega arith
divisor_above l zero n z d = by_parts l.parts refl
  where
    none : (x : ℤ) → x ≢ pos 0 → 0 ∣ unsigned_abs x → ⊥
    none x h k = h (size_zero x (eq-zero_of_zero-dvd k))

    by_parts : (ps : List Part) → l.parts ≡ ps → 0 < 0
    by_parts [] e = absurd (none l.constant (z e) (d.0).0)
    by_parts (q ∷ qs) e =
        let nonzero : AllByRecursion (λ (x : Part). x.factor ≢ pos 0) (q ∷ qs) = subst (AllByRecursion (λ (x : Part). x.factor ≢ pos 0)) e n.nonzero in
        let divides : DividesAll 0 (map (λ (x : Part). unsigned_abs x.factor) (q ∷ qs)) = subst (λ (ps : List Part). DividesAll 0 (map (λ x. unsigned_abs x.factor) ps)) e ((d.0).1).1 in
        absurd (none q.factor nonzero.0 divides.0)

module _ (l w f : Lin) (c : ℕ) (above : 0 < c) (dens : unsigned_abs w.den ≡ c) (parts : w.parts ≡ l.parts) (constants : w.constant ≡ l.constant) (nl : IsNormal l)
    (common : IsCommonDivisor (sizes l.constant l.parts l.constant) c) (r : Reduced w f) (nf : IsNormal f) where
  times_divisor : (o : Option ℕ) → unsigned_abs (entry f o) * r.divisor ≡ unsigned_abs (entry l o)
  times_divisor None = sym (unsigned_abs-mul f.constant (pos r.divisor)) ∙ ap unsigned_abs (r.constants ∙ constants)
  times_divisor (Some k) = sym (unsigned_abs-mul (factor_of f.parts k) (pos r.divisor)) ∙ ap unsigned_abs (r.factors k ∙ ap (λ ps. factor_of ps k) parts)

  den_times : unsigned_abs f.den * r.divisor ≡ c
  den_times = sym (unsigned_abs-mul f.den (pos r.divisor)) ∙ ap unsigned_abs r.dens ∙ dens

  divides_all : (o : Option ℕ) → c ∣ unsigned_abs (entry l o)
  divides_all None = (common.0).0
  divides_all (Some k) = divides_factor c l.parts k ((common.0).1).1

  den_divides : (o : Option ℕ) → unsigned_abs f.den ∣ unsigned_abs (entry f o)
  den_divides o = dvd_of_mul-dvd-mul_right (unsigned_abs f.den) r.some (subst (λ t. t ∣ unsigned_abs (entry f o) * r.divisor) (sym den_times) (subst (λ t. c ∣ t) (sym (times_divisor o)) (divides_all o)))

  den_one : unsigned_abs f.den ≡ 1
  den_one = dvd-one.0 (nf.lowest.1 (unsigned_abs f.den) (dvd_refl (unsigned_abs f.den), divides_entries f (unsigned_abs f.den) nf.rising den_divides))

  positive_one_is : (z : ℤ) → pos 0 <ℤ z → unsigned_abs z ≡ 1 → z ≡ pos 1
  positive_one_is (pos n) h e = ap pos e
  positive_one_is (negsuc n) h e = absurd (omega (arith, ints))

  all_of : (d : ℕ) → DividesAll d (unsigned_abs f.constant ∷ map (λ p. unsigned_abs p.factor) f.parts) → (o : Option ℕ) → d ∣ unsigned_abs (entry f o)
  all_of d h None = h.0
  all_of d h (Some k) = divides_factor d f.parts k h.1

  pub direction_primitive : IsPrimitive f
  direction_primitive =
      let divisor : r.divisor ≡ c = sym (one-mul r.divisor) ∙ ap (λ t. t * r.divisor) (sym den_one) ∙ den_times in
      record {
        whole = positive_one_is f.den nf.positive den_one;
        lowest = λ d h.
            let each : (o : Option ℕ) → d * r.divisor ∣ unsigned_abs (entry l o) = λ o. subst (λ t. d * r.divisor ∣ t) (times_divisor o) (mul-dvd-mul_right d (all_of d h o) r.divisor) in
            let at : d * r.divisor ∣ c = common.1 (d * r.divisor) (each None, divides_entries l (d * r.divisor) nl.rising each) in
            dvd_of_mul-dvd-mul_right d r.some (subst (λ t. d * r.divisor ∣ t) (sym divisor ∙ sym (one-mul r.divisor)) at);
      }

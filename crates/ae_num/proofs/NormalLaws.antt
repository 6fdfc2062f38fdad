-- Dividing by the greatest common divisor gives the normal form.
use Rattle.std.specs.Prelude.{ℕ, ℤ, pos, negsuc, ◌≡◌, ◌≢◌, ◌<◌, ◌≤◌, ◌*◌, ◌^◌, ◌*ℤ◌, ◌<ℤ◌, ◌≤ℤ◌, cond, true, false, nat_eq, List, [], ◌∷◌, map, unsigned_abs}
use Rattle.std.specs.List.{AllByRecursion}
use Rattle.std.specs.Int.{◌∣◌}
use Rattle.std.specs.Int.RustNames.{int_div}
use Rattle.std.proofs.Common.{arith, sym, ap, ◌∙◌, subst, zero, suc}
use Rattle.std.proofs.lemmas.Nat.Gcd.{dvd_refl}
use native.Mathlib.Nat.{dvd_of_mul-dvd-mul_right, mul-dvd-mul_right, one-mul, one-dvd, dvd-zero, le-mul_of_pos_right}
use borrow.Author.Differences.{ints}
use Rattle.ae_math.proofs.Divisors.{divided as times_back, divisor_positive}
use Rattle.std.proofs.lemmas.Int.{unsigned_abs-mul}
use Rattle.ae_base.proofs.Integers.{size_back, size_positive}
use Rattle.ae_num.specs.declared.forms.Part.{Part}
use Rattle.ae_num.specs.declared.forms.Lin.{Lin}
use Rattle.ae_num.specs.Forms.{factor_of, AllAbove, IsRising, IsNormal, DividesAll, IsCommonDivisor, sizes, divided_part, divided, Reduced}

abbrev Factors : List Part → List ℕ
Factors ps = map (λ p. unsigned_abs p.factor) ps

-- the divisor is positive where it divides a positive number
pub positive_divisor : (r den : ℤ) → pos 0 ≤ℤ r → pos 0 <ℤ den → unsigned_abs r ∣ unsigned_abs den → pos 0 <ℤ r
positive_divisor (negsuc n) den h p d = absurd (omega (arith, ints))
positive_divisor (pos n) (negsuc m) h p d = absurd (omega (arith, ints))
positive_divisor (pos n) (pos zero) h p d = absurd (omega (arith, ints))
positive_divisor (pos n) (pos (suc m)) h p d = let z = divisor_positive n m d in omega (arith, ints)

module _ (g : ℕ) (some : 0 < g) where
  quotient_times : (z : ℤ) → g ∣ unsigned_abs z → unsigned_abs (int_div z (pos g)) * g ≡ unsigned_abs z
  quotient_times z d = sym (unsigned_abs-mul (int_div z (pos g)) (pos g)) ∙ ap unsigned_abs (times_back z g some d)

  quotient_factors : (ps : List Part) → DividesAll g (Factors ps) → (key : ℕ) → factor_of (map (divided_part (pos g)) ps) key *ℤ pos g ≡ factor_of ps key
  quotient_factors [] d key = omega (arith, ints)
  quotient_factors (p ∷ ps) d key =
      elim (nat_eq p.key key) as (λ b. cond b (int_div p.factor (pos g)) (factor_of (map (divided_part (pos g)) ps) key) *ℤ pos g ≡ cond b p.factor (factor_of ps key)) [
        | true ↦ times_back p.factor g some d.0
        | false ↦ quotient_factors ps d.1 key
      ]

  above_divided : (k : ℕ) (ps : List Part) → AllAbove k ps → AllAbove k (map (divided_part (pos g)) ps)
  above_divided k [] a = tt
  above_divided k (p ∷ ps) a = (a.0, above_divided k ps a.1)

  rising_divided : (ps : List Part) → IsRising ps → IsRising (map (divided_part (pos g)) ps)
  rising_divided [] r = tt
  rising_divided (p ∷ ps) r = (above_divided p.key ps r.0, rising_divided ps r.1)

  zero_times : (z : ℤ) → int_div z (pos g) ≡ pos 0 → g ∣ unsigned_abs z → z ≡ pos 0
  zero_times z e d = sym (times_back z g some d) ∙ ap (λ q. q *ℤ pos g) e ∙ omega (arith, ints)

  nonzero_divided : (ps : List Part) → DividesAll g (Factors ps) → AllByRecursion (λ p. p.factor ≢ pos 0) ps → AllByRecursion (λ p. p.factor ≢ pos 0) (map (divided_part (pos g)) ps)
  nonzero_divided [] d n = tt
  nonzero_divided (p ∷ ps) d n = (λ e. n.0 (zero_times p.factor e d.0), nonzero_divided ps d.1 n.1)

  less_times : (q n : ℕ) → q * g ≡ n → n < 2 ^ 127 → q < 2 ^ 127
  less_times q n e h = let l : q ≤ q * g = le-mul_of_pos_right q some in omega arith

  within_divided : (ps : List Part) → DividesAll g (Factors ps) → AllByRecursion (λ n. n < 2 ^ 127) (Factors ps) → AllByRecursion (λ n. n < 2 ^ 127) (Factors (map (divided_part (pos g)) ps))
  within_divided [] d h = tt
  within_divided (p ∷ ps) d h = (less_times (unsigned_abs (int_div p.factor (pos g))) (unsigned_abs p.factor) (quotient_times p.factor d.0) h.0, within_divided ps d.1 h.1)

  times_divides : (x : ℕ) (z : ℤ) → g ∣ unsigned_abs z → x ∣ unsigned_abs (int_div z (pos g)) → x * g ∣ unsigned_abs z
  times_divides x z d e = subst (λ n. x * g ∣ n) (quotient_times z d) (mul-dvd-mul_right x e g)

  all_times : (x : ℕ) (ps : List Part) → DividesAll g (Factors ps) → DividesAll x (Factors (map (divided_part (pos g)) ps)) → DividesAll (x * g) (Factors ps)
  all_times x [] d e = tt
  all_times x (p ∷ ps) d e = (times_divides x p.factor d.0 e.0, all_times x ps d.1 e.1)

  one_divides : (ns : List ℕ) → DividesAll 1 ns
  one_divides [] = tt
  one_divides (n ∷ ns) = (one-dvd n, one_divides ns)

  lowest_divided : (w : Lin) → IsCommonDivisor (sizes w.den w.parts w.constant) g → IsCommonDivisor (sizes (divided (pos g) w).den (divided (pos g) w).parts (divided (pos g) w).constant) 1
  lowest_divided w c = (
    one_divides (sizes (divided (pos g) w).den (divided (pos g) w).parts (divided (pos g) w).constant),
    λ x e. dvd_of_mul-dvd-mul_right x some
        (subst (λ n. x * g ∣ n) (sym (one-mul g)) (c.1 (x * g) (times_divides x w.den (c.0).0 e.0, (times_divides x w.constant ((c.0).1).0 (e.1).0, all_times x w.parts ((c.0).1).1 (e.1).1)))),
  )

  positive_quotient : (q z : ℤ) → q *ℤ pos g ≡ z → pos 0 <ℤ z → pos 0 <ℤ q
  positive_quotient (pos zero) z e p = absurd (omega (arith, ints, e))
  positive_quotient (pos (suc n)) z e p = omega (arith, ints)
  positive_quotient (negsuc n) z e p = absurd (negative_product n g z e p)
    where
      negative_product : (n g : ℕ) (z : ℤ) → negsuc n *ℤ pos g ≡ z → pos 0 <ℤ z → ⊥
      negative_product n zero z e p = omega (arith, ints, e)
      negative_product n (suc m) z e p = omega (arith, ints, e)

  pub normal_divided : (w : Lin) → pos 0 <ℤ w.den → IsRising w.parts → AllByRecursion (λ p. p.factor ≢ pos 0) w.parts → AllByRecursion (λ n. n < 2 ^ 127) (sizes w.den w.parts w.constant)
      → IsCommonDivisor (sizes w.den w.parts w.constant) g → IsNormal (divided (pos g) w)
  normal_divided w p r n h c = record {
    positive = positive_quotient (int_div w.den (pos g)) w.den (times_back w.den g some (c.0).0) p;
    rising = rising_divided w.parts r;
    nonzero = nonzero_divided w.parts ((c.0).1).1 n;
    lowest = lowest_divided w c;
    within = (
      less_times (unsigned_abs (int_div w.den (pos g))) (unsigned_abs w.den) (quotient_times w.den (c.0).0) h.0,
      (less_times (unsigned_abs (int_div w.constant (pos g))) (unsigned_abs w.constant) (quotient_times w.constant ((c.0).1).0) (h.1).0, within_divided w.parts ((c.0).1).1 (h.1).1),
    );
  }

  pub reduced_divided : (w : Lin) → IsCommonDivisor (sizes w.den w.parts w.constant) g → Reduced w (divided (pos g) w)
  reduced_divided w c = record {
    divisor = g;
    some = some;
    dens = times_back w.den g some (c.0).0;
    constants = times_back w.constant g some ((c.0).1).0;
    factors = quotient_factors w.parts ((c.0).1).1;
  }

pub quotient_reduced : (w q : Lin) (x y : ℤ) → y ≡ x → pos 0 ≤ℤ x → pos 0 <ℤ w.den → IsCommonDivisor (sizes w.den w.parts w.constant) (unsigned_abs x) → q ≡ divided y w → Reduced w q
quotient_reduced w q x y e h p c f =
    let some = size_positive x (positive_divisor x w.den h p (c.0).0) in
    subst (Reduced w) (sym (f ∙ ap (λ z. divided z w) (e ∙ sym (size_back x h)))) (reduced_divided (unsigned_abs x) some w c)

pub quotient_normal : (w q : Lin) (x y : ℤ) → y ≡ x → pos 0 ≤ℤ x → pos 0 <ℤ w.den → IsRising w.parts → AllByRecursion (λ p. p.factor ≢ pos 0) w.parts → AllByRecursion (λ n. n < 2 ^ 127) (sizes w.den w.parts w.constant)
    → IsCommonDivisor (sizes w.den w.parts w.constant) (unsigned_abs x) → q ≡ divided y w → IsNormal q
quotient_normal w q x y e h p r n i c f =
    let some = size_positive x (positive_divisor x w.den h p (c.0).0) in
    subst IsNormal (sym (f ∙ ap (λ z. divided z w) (e ∙ sym (size_back x h)))) (normal_divided (unsigned_abs x) some w p r n i c)

-- ---- the forms 1 and one name
pub one_normal : (l : Lin) → l ≡ record { den = pos 1; parts = []; constant = pos 1 } → IsNormal l
one_normal l e = subst IsNormal (sym e) (record {
  positive = omega (arith, ints);
  rising = tt;
  nonzero = tt;
  lowest = ((dvd_refl 1, (dvd_refl 1, tt)), λ d h. h.0);
  within = (omega arith, (omega arith, tt));
})

pub zero_normal : (l : Lin) → l ≡ record { den = pos 1; parts = []; constant = pos 0 } → IsNormal l
zero_normal l e = subst IsNormal (sym e) (record {
  positive = omega (arith, ints);
  rising = tt;
  nonzero = tt;
  lowest = ((dvd_refl 1, (dvd-zero 1, tt)), λ d h. h.0);
  within = (omega arith, (omega arith, tt));
})

pub single_normal : (l : Lin) (key : ℕ) → l ≡ record { den = pos 1; parts = record { key = key; factor = pos 1 } ∷ []; constant = pos 0 } → IsNormal l
single_normal l key e = subst IsNormal (sym e) (record {
  positive = omega (arith, ints);
  rising = (tt, tt);
  nonzero = ((λ h. cc), tt);
  lowest = ((dvd_refl 1, (dvd-zero 1, (dvd_refl 1, tt))), λ d h. h.0);
  within = (omega arith, (omega arith, (omega arith, tt)));
})

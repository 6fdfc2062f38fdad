-- A linear form has a text exactly where it is in the normal form and its names are below 2 ^ 64.
use Rattle.std.specs.Prelude.{ℕ, zero, suc, ℤ, pos, ◌≡◌, ◌≢◌, ◌<◌, ◌≤◌, ◌^◌, ◌%◌, ◌<ℤ◌, ◌≤ℤ◌, Bool, true, false, not, IsTrue, nat_eq, nat_lt, List, [], ◌∷◌, map, unsigned_abs}
use lib.IntN.{negsuc}
use mathlib.Core.Path.{refl, ap}
use native.Mathlib.Omega.{arith}
use borrow.Author.Differences.{ints}
use Rattle.std.specs.List.{AllByRecursion}
use Rattle.std.specs.Int.{◌∣◌}
use Rattle.std.proofs.Math.Nat.{one-dvd, eq-zero_of_zero-dvd}
use Rattle.std.proofs.lemmas.Nat.Gcd.{dvd_of_mod-eq-zero, mod-eq-zero_of_dvd, le_of_dvd}
use Rattle.std.proofs.lemmas.Bool.{eq-eqb, eqb-true, lt-ltb, ltb-true}
use Rattle.ae_base.proofs.AllOf.{all_always}
use Rattle.ae_base.proofs.Integers.{size_back, size_positive}
use Rattle.ae_codes.specs.Fractions.{some_below, below_is, below_has}
use Rattle.ae_codes.specs.Numbers.{and_one, and_two, and_both, not_true}
use Rattle.ae_num.specs.Forms.{IsRising, IsNormal, DividesAll, IsCommonDivisor, sizes, divides_each}
use Rattle.ae_num.specs.declared.forms.Lin.{Lin}
use Rattle.ae_num.specs.declared.forms.Part.{Part}
use Rattle.ae_valuetext.specs.Lins.{Stands}
use Rattle.ae_valuetext.specs.Parts.{is_lowest, shared, none_so, Rise, factor_sizes}
use Rattle.ae_valuetext.specs.Texts.{AreNames}

-- ---- common divisors
all_divided : (d : ℕ) (ns : List ℕ) → IsTrue (divides_each d ns) → DividesAll d ns
all_divided d [] h = tt
all_divided d (n ∷ ns) h = (dvd_of_mod-eq-zero d (eqb-true (n % d) 0 (and_one (nat_eq (n % d) 0) (divides_each d ns) h)), all_divided d ns (and_two (nat_eq (n % d) 0) (divides_each d ns) h))

each_divided : (d : ℕ) (ns : List ℕ) → DividesAll d ns → IsTrue (divides_each d ns)
each_divided d [] h = refl
each_divided d (n ∷ ns) h = and_both (nat_eq (n % d) 0) (divides_each d ns) (eq-eqb (n % d) 0 (mod-eq-zero_of_dvd d h.0)) (each_divided d ns h.1)

lowest_so : (den : ℕ) (ns : List ℕ) → IsCommonDivisor (den ∷ ns) 1 → IsTrue (is_lowest den ns)
lowest_so den ns c = none_so (some_below (suc den) (shared den ns)) (not_true (some_below (suc den) (shared den ns)) (λ h.
    let r = below_is (suc den) (shared den ns) h in
    let big : 1 < r.0 = ltb-true 1 r.0 (and_one (nat_lt 1 r.0) (divides_each r.0 (den ∷ ns)) r.2) in
    let one : r.0 ∣ 1 = c.1 r.0 (all_divided r.0 (den ∷ ns) (and_two (nat_lt 1 r.0) (divides_each r.0 (den ∷ ns)) r.2)) in
    let small : r.0 ≤ 1 = le_of_dvd (omega arith) one in
    omega (arith, big, small)))

no_such : (b : Bool) → IsTrue (not b) → IsTrue b → ⊥
no_such true h g = absurd cc
no_such false h g = absurd cc

one_by_one : (den : ℕ) (ns : List ℕ) → 1 ≤ den → IsTrue (is_lowest den ns) → (d : ℕ) → DividesAll d (den ∷ ns) → d ∣ 1
one_by_one den ns some h zero c = let z : den ≡ 0 = eq-zero_of_zero-dvd c.0 in absurd (omega (arith, z))
one_by_one den ns some h (suc zero) c = one-dvd 1
one_by_one den ns some h (suc (suc d)) c =
    let room : suc (suc d) ≤ den = le_of_dvd some c.0 in
    absurd (no_such (some_below (suc den) (shared den ns)) h
    (below_has (suc den) (suc (suc d)) (shared den ns) (omega (arith, room)) (and_both (nat_lt 1 (suc (suc d))) (divides_each (suc (suc d)) (den ∷ ns)) (lt-ltb 1 (suc (suc d)) (omega arith)) (each_divided (suc (suc d)) (den ∷ ns) c))))

-- ---- from the normal form
factor_some : (z : ℤ) → z ≢ pos 0 → 1 ≤ unsigned_abs z
factor_some (pos zero) h = absurd (h refl)
factor_some (pos (suc n)) h = omega arith
factor_some (negsuc n) h = omega arith

rise_from : (low : ℕ) (ps : List Part) → AllByRecursion (λ p. low ≤ p.key) ps → IsRising ps → AreNames (map (λ p. p.key) ps) → AllByRecursion (λ p. p.factor ≢ pos 0) ps → AllByRecursion (λ n. n < 2 ^ 127) (map (λ p. unsigned_abs p.factor) ps) → Rise low ps
rise_from low [] a r k n w = tt
rise_from low (p ∷ ps) a r k n w =
    let key = k.0 in
    let size = w.0 in
    (a.0, omega (arith, key), factor_some p.factor n.0, omega (arith, size), rise_from (suc p.key) ps r.0 r.1 k.1 n.1 w.1)

weak : (z : ℤ) → pos 0 <ℤ z → pos 0 ≤ℤ z
weak z h = omega (arith, ints)

pub normal_stands : (l : Lin) → IsNormal l → AreNames (map (λ p. p.key) l.parts) → Stands l
normal_stands l n k =
    let den_size = n.within.0 in
    let constant_size = n.within.1.0 in
    record {
      positive = size_back l.den (weak l.den n.positive);
      some = size_positive l.den n.positive;
      den_within = omega (arith, den_size);
      constant_within = omega (arith, constant_size);
      rise = rise_from 0 l.parts (all_always (λ p. 0 ≤ p.key) (λ p. omega arith) l.parts) n.rising k n.nonzero n.within.1.1;
      lowest = lowest_so (unsigned_abs l.den) (unsigned_abs l.constant ∷ factor_sizes l.parts) n.lowest;
    }

-- ---- and back
above_next : (low : ℕ) (ps : List Part) → Rise low ps → AllByRecursion (λ p. low ≤ p.key) ps
above_next low [] r = tt
above_next low (p ∷ ps) r = (r.0, weaker (suc p.key) low ps (let l = r.0 in omega (arith, l)) (above_next (suc p.key) ps r.4))
  where
    weaker : (m n : ℕ) (qs : List Part) → n ≤ m → AllByRecursion (λ q. m ≤ q.key) qs → AllByRecursion (λ q. n ≤ q.key) qs
    weaker m n [] h a = tt
    weaker m n (q ∷ qs) h a = let x = a.0 in (omega (arith, h, x), weaker m n qs h a.1)

rising_of : (low : ℕ) (ps : List Part) → Rise low ps → IsRising ps
rising_of low [] r = tt
rising_of low (p ∷ ps) r = (above_next (suc p.key) ps r.4, rising_of (suc p.key) ps r.4)

names_of : (low : ℕ) (ps : List Part) → Rise low ps → AreNames (map (λ p. p.key) ps)
names_of low [] r = tt
names_of low (p ∷ ps) r = let key = r.1 in (omega (arith, key), names_of (suc p.key) ps r.4)

nonzero_of : (low : ℕ) (ps : List Part) → Rise low ps → AllByRecursion (λ p. p.factor ≢ pos 0) ps
nonzero_of low [] r = tt
nonzero_of low (p ∷ ps) r = ((λ e. let z : unsigned_abs p.factor ≡ 0 = ap unsigned_abs e in let some = r.2 in omega (arith, z, some)), nonzero_of (suc p.key) ps r.4)

within_of : (low : ℕ) (ps : List Part) → Rise low ps → AllByRecursion (λ n. n < 2 ^ 127) (map (λ p. unsigned_abs p.factor) ps)
within_of low [] r = tt
within_of low (p ∷ ps) r = let size = r.3 in (omega (arith, size), within_of (suc p.key) ps r.4)

positive_of : (z : ℤ) → pos (unsigned_abs z) ≡ z → 1 ≤ unsigned_abs z → pos 0 <ℤ z
positive_of (pos zero) e h = absurd (omega (arith, h))
positive_of (pos (suc n)) e h = omega (arith, ints)
positive_of (negsuc n) e h = absurd cc

pub stands_normal : (l : Lin) → Stands l → IsNormal l
stands_normal l s =
    let den_size = s.den_within in
    let constant_size = s.constant_within in
    record {
      positive = positive_of l.den s.positive s.some;
      rising = rising_of 0 l.parts s.rise;
      nonzero = nonzero_of 0 l.parts s.rise;
      lowest = (all_always (λ n. 1 ∣ n) one-dvd (sizes l.den l.parts l.constant), one_by_one (unsigned_abs l.den) (unsigned_abs l.constant ∷ factor_sizes l.parts) s.some s.lowest);
      within = (omega (arith, den_size), (omega (arith, constant_size), within_of 0 l.parts s.rise));
    }

pub stands_names : (l : Lin) → Stands l → AreNames (map (λ p. p.key) l.parts)
stands_names l s = names_of 0 l.parts s.rise

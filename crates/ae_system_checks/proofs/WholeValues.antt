-- Common divisors of a value's numbers, and what a whole value is.
use Rattle.std.specs.Prelude.{ℕ, zero, suc, true, nat_eq, ℤ, pos, ◌<◌, ◌<ℤ◌, ◌≡◌, ◌↔◌, List, [], ◌∷◌, map, unsigned_abs}
use Rattle.std.specs.Int.{◌∣◌}
use Rattle.std.specs.Int.RustNames.{int_div}
use Rattle.std.specs.List.{AllByRecursion}
use Rattle.std.proofs.Math.Nat.{dvd-mul_left, eq-one_of_dvd-one, eq-zero_of_zero-dvd}
use Rattle.std.proofs.lemmas.Bool.{eqb-true, eq-eqb}
use Rattle.std.proofs.lemmas.Int.{unsigned_abs-mul}
use Rattle.std.proofs.lemmas.Nat.Gcd.{dvd_trans, dvd-zero}
use native.Mathlib.Decide.{map_dec, ℕ_discrete}
use mathlib.Core.Path.{sym, ap, subst, ◌∙◌}
use native.Mathlib.Omega.{arith}
use Rattle.ae_base.proofs.Integers.{size_positive}
use Rattle.ae_math.proofs.Divisors.{divided}
use Rattle.ae_num.specs.Forms.{DividesAll, IsCommonDivisor}
use Rattle.ae_num.specs.declared.forms.Lin.{Lin}
use Rattle.ae_num.specs.declared.forms.Part.{Part}
use Rattle.ae_decide.specs.Inner.Decisions.{divisor_of}
use Rattle.ae_system_checks.specs.Whole.{IsMultipleOf, IsWhole}

abbrev pub factors : List Part → List ℕ
factors ps = map (λ (p : Part). unsigned_abs p.factor) ps

divides : (d : ℕ) (a : ℤ) → IsMultipleOf d a → d ∣ unsigned_abs a
divides d a (z, e) = subst (λ n. d ∣ n) (sym (ap unsigned_abs e ∙ unsigned_abs-mul z (pos d))) (dvd-mul_left d (unsigned_abs z))

multiple : (d : ℕ) (a : ℤ) → 0 < d → d ∣ unsigned_abs a → IsMultipleOf d a
multiple d a h e = (int_div a (pos d), sym (divided a d h e))

divides_each : (d : ℕ) (ps : List Part) → AllByRecursion (λ (q : Part). IsMultipleOf d q.factor) ps → DividesAll d (factors ps)
divides_each d [] a = tt
divides_each d (p ∷ ps) a = (divides d p.factor a.0, divides_each d ps a.1)

multiple_each : (d : ℕ) (ps : List Part) → 0 < d → DividesAll d (factors ps) → AllByRecursion (λ (q : Part). IsMultipleOf d q.factor) ps
multiple_each d [] h a = tt
multiple_each d (p ∷ ps) h a = (multiple d p.factor h a.0, multiple_each d ps h a.1)

above_zero : (g n : ℕ) → 0 < n → g ∣ n → 0 < g
above_zero zero n h d = let z = eq-zero_of_zero-dvd d in omega (arith, h, z)
above_zero (suc g) n h d = omega arith

whole_by : (f : Lin) (g : ℕ) → 0 < g → IsCommonDivisor (unsigned_abs f.den ∷ factors f.parts) g → (g ≡ 1) ↔ IsWhole f
whole_by f g some c = (
  λ e d a b. eq-one_of_dvd-one (subst (λ n. d ∣ n) e (c.1 d (divides d f.den a, divides_each d f.parts b))),
  λ w. w g (multiple g f.den some (c.0).0) (multiple_each g f.parts some (c.0).1),
)

pub whole_exactly : (f : Lin) (g : ℕ) → pos 0 <ℤ f.den → IsCommonDivisor (unsigned_abs f.den ∷ factors f.parts) g → (g ≡ 1) ↔ IsWhole f
whole_exactly f g h c = whole_by f g (above_zero g (unsigned_abs f.den) (size_positive f.den h) (c.0).0) c

-- a value whose numbers are all 0 isn't whole
not_whole : (f : Lin) → DividesAll 0 (unsigned_abs f.den ∷ factors f.parts) → ¬ IsWhole f
not_whole f a w =
    let z : 2 ≡ 1 = w 2 (multiple 2 f.den (omega arith) (dvd_trans 2 (dvd-zero 2) a.0)) (multiple_each 2 f.parts (omega arith) (twice (factors f.parts) a.1)) in
    omega (arith, z)
  where
    twice : (ns : List ℕ) → DividesAll 0 ns → DividesAll 2 ns
    twice [] b = tt
    twice (n ∷ ns) b = (dvd_trans 2 (dvd-zero 2) b.0, twice ns b.1)

pub decide_whole : (f : Lin) → Dec (IsWhole f)
decide_whole f = go (divisor_of (unsigned_abs f.den ∷ factors f.parts))
  where
    go : (g : ℕ) × IsCommonDivisor (unsigned_abs f.den ∷ factors f.parts) g → Dec (IsWhole f)
    go (zero, c) = no (not_whole f c.0)
    go (suc n, c) = map_dec (λ e. (whole_by f (suc n) (omega arith) c).0 e) (λ w. (whole_by f (suc n) (omega arith) c).1 w) (ℕ_discrete (suc n) 1)

pub by_test : (n : ℕ) (P : Type 0) → (n ≡ 1) ↔ P → (nat_eq n 1 ≡ true) ↔ P
by_test n P e = (λ t. e.0 (eqb-true n 1 t), λ p. eq-eqb n 1 (e.1 p))

-- The factors of a form divided by their greatest common divisor.
use Rattle.std.specs.Prelude.{ℕ, zero, suc, ℤ, pos, negsuc, ◌≡◌, ◌≢◌, ◌<◌, ◌^◌, ◌*ℤ◌, ◌-ℤ◌, ◌<ℤ◌, ◌≤ℤ◌, Bool, true, false, cond, List, [], ◌∷◌, map, unsigned_abs}
use Rattle.std.specs.List.{AllByRecursion}
use Rattle.std.proofs.Common.{arith, refl, sym, ap, ◌∙◌, subst}
use Rattle.std.proofs.Math.Nat.{eq-zero_of_zero-dvd}
use native.Mathlib.Nat.{dvd-zero, dvd_refl, one-dvd}
use borrow.Author.Differences.{ints}
use Rattle.ae_base.proofs.Integers.{size_zero, size_back, size_positive}
use Rattle.ae_math.proofs.Divisors.{divided as times_back}
use Rattle.ae_num.specs.declared.forms.Part.{Part}
use Rattle.ae_num.specs.declared.forms.Lin.{Lin}
use Rattle.ae_num.specs.Forms.{IsNormal, DividesAll, IsCommonDivisor, sizes, divided, divided_part}
use Rattle.ae_num.specs.Limits.{FitsLimits}
use Rattle.ae_num.proofs.NormalLaws.{quotient_normal}
use Rattle.ae_rules.specs.Lines.{IsFloor}
use Rattle.ae_core.specs.Sorts.{within}
use Rattle.std.proofs.lemmas.Bool.Decides.{nat_tests}
use Rattle.ae_journal.specs.Sides.{AreDivided}

abbrev pub Factors : List Part → List ℕ
Factors ps = map (λ p. unsigned_abs p.factor) ps

-- ---- their greatest common divisor
pub all_within : (l : Lin) → IsNormal l → AllByRecursion (λ n. n < 2 ^ 127) (sizes (pos 0) l.parts (pos 0))
all_within l n = (omega arith, (omega arith, ((n.within).1).1))

pub of_factors : (ps : List Part) (d : ℕ) → IsCommonDivisor (sizes (pos 0) ps (pos 0)) d → IsCommonDivisor (Factors ps) d
of_factors ps d c = (((c.0).1).1, λ e h. c.1 e (dvd-zero e, (dvd-zero e, h)))

pub above_zero : (ps : List Part) (z : ℤ) → AllByRecursion (λ p. p.factor ≢ pos 0) ps → ps ≢ [] → pos 0 ≤ℤ z → IsCommonDivisor (Factors ps) (unsigned_abs z) → pos 0 <ℤ z
above_zero [] z n s h c = absurd (s refl)
above_zero (p ∷ ps) (pos (suc k)) n s h c = omega (arith, ints)
above_zero (p ∷ ps) (pos zero) n s h c = absurd (n.0 (size_zero p.factor (eq-zero_of_zero-dvd (c.0).0)))
above_zero (p ∷ ps) (negsuc k) n s h c = absurd (omega (arith, ints, h))

-- ---- the quotients
module _ (z : ℤ) (positive : pos 0 <ℤ z) where
  back : pos (unsigned_abs z) ≡ z
  back = size_back z (omega (arith, ints, positive))

  pub parts_divided : (ps : List Part) → DividesAll (unsigned_abs z) (Factors ps) → AreDivided (unsigned_abs z) ps (map (divided_part z) ps)
  parts_divided [] d = tt
  parts_divided (p ∷ ps) d = (
    refl,
    sym (times_back p.factor (unsigned_abs z) (size_positive z positive) d.0) ∙ ap (λ (g : ℤ). (divided_part g p).factor *ℤ pos (unsigned_abs z)) back,
    parts_divided ps d.1,
  )

-- the parts, over 1, are in the normal form
pub parts_normal : (l q : Lin) (z : ℤ) → IsNormal l → pos 0 <ℤ z → FitsLimits z → IsCommonDivisor (Factors l.parts) (unsigned_abs z) → q ≡ divided z (record { den = z; parts = l.parts; constant = pos 0 })
    → IsNormal q
parts_normal l q z n p w c e =
    quotient_normal (record { den = z; parts = l.parts; constant = pos 0 }) q z z refl (omega (arith, ints, p)) p n.rising n.nonzero (w, (omega arith, ((n.within).1).1))
    ((dvd_refl (unsigned_abs z), (dvd-zero (unsigned_abs z), c.0)), λ d h. h.0) e

-- with another denominator and constant
pub with_constant : (q : Lin) (k : ℤ) → IsNormal q → FitsLimits k → IsNormal (record { den = pos 1; parts = q.parts; constant = k })
with_constant q k n w = record {
  positive = omega (arith, ints);
  rising = n.rising;
  nonzero = n.nonzero;
  lowest = ((one-dvd 1, (one-dvd (unsigned_abs k), ones (Factors q.parts))), λ d h. h.0);
  within = (omega arith, (w, ((n.within).1).1));
}
  where
    ones : (ns : List ℕ) → DividesAll 1 ns
    ones [] = tt
    ones (m ∷ ms) = (one-dvd m, ones ms)

-- ---- the constant
pub floor_is : (strict : Bool) (k k' s s' d d' r : ℤ) → k' ≡ k → s' ≡ s → d' ≡ d → s ≡ cond strict (k' -ℤ pos 1) k' → IsFloor s' (unsigned_abs d') r → IsFloor (cond strict (k -ℤ pos 1) k) (unsigned_abs d) r
floor_is strict k k' s s' d d' r e f g h floor = subst (λ (z : ℤ). IsFloor z (unsigned_abs d) r) (f ∙ h ∙ ap (λ (z : ℤ). cond strict (z -ℤ pos 1) z) e) (subst (λ (z : ℤ). IsFloor s' (unsigned_abs z) r) g floor)

pub outside_limits : (z : ℤ) → within z ≡ false → ¬ FitsLimits z
outside_limits z e h = grind (arith, nat_tests, e, h)

pub inside_limits : (z : ℤ) → within z ≡ true → FitsLimits z
inside_limits z e = grind (arith, nat_tests, e)

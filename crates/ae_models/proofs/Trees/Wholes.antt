-- Which fractions are whole.
use Rattle.std.specs.Prelude.{suc, ℤ, pos, ◌*ℤ◌, ◌≡◌}
use Rattle.std.proofs.Common.{sym, ap, ◌∙◌, subst}
use Rattle.std.specs.Int.{◌∣◌}
use Rattle.std.specs.Int.RustNames.{unsigned_abs, int_div}
use Rattle.std.proofs.Math.Decide.{dec_dvd}
use native.Mathlib.Nat.{dvd-mul_left}
use mathlib.Core.HLevel.{Σ_prop_path}
use mathlib.Core.Logic.{Dec-prop}
use native.Mathlib.Omega.{arith}
use std.Quotient.{cls, eq/, effective, /_elim_prop}
use Rattle.ae_math.specs.Fractions.{ℚ, ℚ_set, Frac, frac, whole}
use Rattle.ae_math.specs.Inner.Respected.{Same_prop, Same-IsEquivRel}
use Rattle.ae_math.specs.Inner.Integers.{mul_one_z}
use lib.IntN.{*ℤ_comm}
use Rattle.std.proofs.lemmas.Int.{unsigned_abs-mul}
use Rattle.ae_math.proofs.Wholes.{whole_same}
use Rattle.ae_math.proofs.Divisors.{divided}

abbrev pub IsWholeFraction : ℚ → Type 0
IsWholeFraction q = (z : ℤ) × (q ≡ whole z)

is_whole_prop : (q : ℚ) → IsProp (IsWholeFraction q)
is_whole_prop q x y = Σ_prop_path (λ z. ℚ_set q (whole z)) (whole_same x.0 y.0 (sym x.1 ∙ y.1))

-- a / (n + 1) is whole exactly where n + 1 divides a
whole_class : (a : Frac) → Dec (IsWholeFraction (cls a))
unfolding frac
whole_class a =
    elim (dec_dvd (suc a.1) (unsigned_abs a.0)) [
      | yes d ↦ yes (int_div a.0 (pos (suc a.1)), eq/ a (int_div a.0 (pos (suc a.1)), 0) (mul_one_z a.0 ∙ sym (divided a.0 (suc a.1) (omega arith) d)))
      | no n ↦ no (λ w.
          let cross : a.0 *ℤ pos 1 ≡ w.0 *ℤ pos (suc a.1) = effective Same_prop Same-IsEquivRel a (w.0, 0) w.1 in
          n (subst (λ k. suc a.1 ∣ k) (sym (ap unsigned_abs (sym (mul_one_z a.0) ∙ cross) ∙ unsigned_abs-mul w.0 (pos (suc a.1)))) (dvd-mul_left (suc a.1) (unsigned_abs w.0))))
    ]

pub whole_or_not : (q : ℚ) → Dec (IsWholeFraction q)
whole_or_not = /_elim_prop (λ q. Dec (IsWholeFraction q)) (λ q. Dec-prop (is_whole_prop q)) whole_class

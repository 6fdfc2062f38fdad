-- The greatest common divisor of the denominator and the factors of a value, where that isn't 1.
use Rattle.std.specs.Prelude.{ℕ, zero, suc, ℤ, pos, negsuc, ◌*ℤ◌, ◌<ℤ◌, ◌<◌, List, [], ◌∷◌, ◌≡◌, map, unsigned_abs}
use Rattle.std.specs.List.{AllByRecursion}
use Rattle.std.specs.Int.{◌∣◌}
use Rattle.std.specs.Int.RustNames.{int_div}
use Rattle.std.proofs.Common.{sym, subst, arith}
use Rattle.std.proofs.lemmas.Int.{unsigned_abs-mul}
use Rattle.std.proofs.lemmas.Nat.Gcd.{dvd_refl}
use Rattle.std.proofs.Math.Nat.{dvd-mul_left, dvd-one}
use borrow.Author.Differences.{ints}
use Rattle.ae_math.proofs.Divisors.{gcd_exists, divided, divisor_positive}
use Rattle.ae_num.specs.Forms.{IsCommonDivisor, DividesAll, IsNormal}
use Rattle.ae_num.specs.declared.forms.Part.{Part}
use Rattle.ae_num.specs.declared.forms.Lin.{Lin}
use Rattle.ae_num.proofs.ReductionLaws.{common_step, common_one}
use Rattle.ae_state_steps.specs.ValueSteps.{times_of}
use Rattle.ae_value_table.specs.Table.{own}
use Rattle.ae_whole_values.specs.Wholes.{IsWhole}
use Rattle.ae_whole_values.specs.Inner.Multiples.{IsNotWhole}

common_exists : (n : ℕ) (ns : List ℕ) → (g : ℕ) × IsCommonDivisor (n ∷ ns) g
common_exists n [] = (n, common_one n)
common_exists n (m ∷ ns) = let h = gcd_exists n m in let r = common_exists h.0 ns in (r.0, common_step n m h.0 ns r.0 h.1 r.1)

positive_divides : (d : ℕ) (z : ℤ) → pos 0 <ℤ z → d ∣ unsigned_abs z → 0 < d
positive_divides d (pos zero) p e = absurd (omega (arith, ints))
positive_divides d (pos (suc n)) p e = divisor_positive d n e
positive_divides d (negsuc n) p e = absurd (omega (arith, ints))

multiple : (d : ℕ) (z : ℤ) → 0 < d → d ∣ unsigned_abs z → (k : ℤ) × (z ≡ k *ℤ pos d)
multiple d z p e = (int_div z (pos d), sym (divided z d p e))

multiples : (d : ℕ) (ps : List Part) → 0 < d → DividesAll d (map (λ p. unsigned_abs p.factor) ps) → AllByRecursion (λ q. (k : ℤ) × (q.factor ≡ k *ℤ pos d)) (times_of ps)
multiples d [] p a = tt
multiples d (q ∷ ps) p a = (multiple d q.factor p a.0, multiples d ps p a.1)

divides_multiple : (d : ℕ) (z : ℤ) → d ∣ unsigned_abs (z *ℤ pos d)
divides_multiple d z = subst (λ (n : ℕ). d ∣ n) (sym (unsigned_abs-mul z (pos d))) (dvd-mul_left d (unsigned_abs z))

-- a number other than 1 divides the denominator and the factors, so not the constant
pub not_whole : (f : Lin) → IsNormal f → ¬ IsWhole f → (d : ℕ) × IsNotWhole d f.den (times_of f.parts) f.constant
not_whole f normal n =
    let r = common_exists (unsigned_abs f.den) (map (λ p. unsigned_abs p.factor) f.parts) in
    let d : ℕ = r.0 in
    let common : IsCommonDivisor (unsigned_abs f.den ∷ map (λ p. unsigned_abs p.factor) f.parts) d = r.1 in
    let of_den : d ∣ unsigned_abs f.den = (common.0).0 in
    let of_parts : DividesAll d (map (λ p. unsigned_abs p.factor) f.parts) = (common.0).1 in
    let some : 0 < d = positive_divides d f.den normal.positive of_den in
    let apart : d ∣ unsigned_abs f.constant → ⊥ =
    λ e. n (subst (IsCommonDivisor (unsigned_abs f.den ∷ map (λ p. unsigned_abs p.factor) f.parts)) (dvd-one.0 ((normal.lowest).1 d (of_den, (e, of_parts)))) common) in (
      d,
      record {
        of_denominator = multiple d f.den some of_den;
        of_factors = multiples d f.parts some of_parts;
        not_of_constant = λ z e. apart (subst (λ (w : ℤ). d ∣ unsigned_abs w) (sym e) (divides_multiple d z));
      },
    )

-- a name that is its own value is whole
pub once_whole : (n : ℕ) → IsWhole (own n)
once_whole n = ((dvd_refl 1, (dvd_refl 1, tt)), λ d a. a.0)

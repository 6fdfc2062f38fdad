-- A quotient that is exact.
use Rattle.std.specs.Prelude.{ℤ, pos, ◌*ℤ◌, ◌<ℤ◌, ◌≡◌, unsigned_abs}
use Rattle.std.specs.Int.RustNames.{int_div}
use Rattle.std.specs.Int.{◌∣◌}
use Rattle.std.proofs.Common.{arith, sym, subst}
use Rattle.std.proofs.lemmas.Int.{unsigned_abs-mul}
use native.Mathlib.Nat.{dvd-mul_left}
use borrow.Author.Differences.{ints}
use Rattle.ae_base.proofs.Integers.{size_back, size_positive}
use Rattle.ae_math.proofs.Divisors.{divided as times_back}

pub exact_quotient : (x b d : ℤ) → pos 0 <ℤ b → d *ℤ b ≡ x → int_div x b *ℤ b ≡ x
exact_quotient x b d p e =
    let k : pos (unsigned_abs b) ≡ b = size_back b (omega (arith, ints, p)) in
    let v : unsigned_abs b ∣ unsigned_abs x =
    subst (λ (y : ℤ). unsigned_abs b ∣ unsigned_abs y) e (subst (λ n. unsigned_abs b ∣ n) (sym (unsigned_abs-mul d b)) (dvd-mul_left (unsigned_abs b) (unsigned_abs d))) in
    subst (λ (g : ℤ). int_div x g *ℤ g ≡ x) k (times_back x (unsigned_abs b) (size_positive b p) v)

-- Numerals and their values.
use Rattle.std.proofs.Common.{ℕ, zero, suc, ◌*◌, ◌^◌, ◌<◌, ℤ, ◌≡◌, sym, ap, ◌∙◌, subst, arith, Option, Some, None}
use Rattle.std.proofs.Math.Nat.{pow-suc, one-mul, mul-dvd-mul_right, dvd_of_mul-dvd-mul_right, eq-one_of_dvd-one, pos_of_dvd_of_pos}
use Rattle.std.specs.Int.{◌∣◌}
use Rattle.ae_lex.specs.Lexis.{IsLowest}
use Rattle.ae_lex.specs.Inner.Pieces.{IsValue}

pub ten_positive : (k : ℕ) → 0 < 10 ^ k
ten_positive zero = omega arith
ten_positive (suc k) = let h = ten_positive k in let e : 10 ^ suc k ≡ 10 ^ k * 10 = pow-suc 10 k in omega (arith, h, e)

value_is : (o : Option ℕ) (v x : ℕ) → IsValue o v → o ≡ Some x → (x ≡ v) × (x < 2 ^ 127)
value_is None v x h e = absurd (let f : ⊥ = cc in f)
value_is (Some n) v x h e = let s : n ≡ x = cc in (sym s ∙ h.0, subst (λ z. z < 2 ^ 127) (sym h.0 ∙ s) h.1)

pub ten_some : (k : ℕ) (o : Option ℕ) → IsValue o (10 ^ k) → (x : ℕ) → o ≡ Some x → (0 < x) × (x < 2 ^ 127)
ten_some k o h x e = let v = value_is o (10 ^ k) x h e in (subst (λ z. 0 < z) (sym v.0) (ten_positive k), v.1)

-- ---- lowest terms
pub lowest_same_value : (top bottom : ℤ) (n m : ℕ) (f : IsLowest top bottom n m) → f.up * m ≡ n * f.down
lowest_same_value top bottom n m f =
    let a : f.up * (f.down * f.common) ≡ (f.up * f.common) * f.down = omega arith in
    ap (λ z. f.up * z) f.down_is ∙ a ∙ ap (λ z. z * f.down) (sym f.up_is)

pub lowest_coprime : (top bottom : ℤ) (n m : ℕ) (f : IsLowest top bottom n m) → 0 < m → (d : ℕ) → d ∣ f.up → d ∣ f.down → d ≡ 1
lowest_coprime top bottom n m f p d a b =
    let x : d * f.common ∣ n = subst (λ z. d * f.common ∣ z) (sym f.up_is) (mul-dvd-mul_right d a f.common) in
    let y : d * f.common ∣ m = subst (λ z. d * f.common ∣ z) (sym f.down_is) (mul-dvd-mul_right d b f.common) in
    let g : d * f.common ∣ 1 * f.common = subst (λ z. d * f.common ∣ z) (sym (one-mul f.common)) (f.greatest.2 (d * f.common) x y) in
    eq-one_of_dvd-one (dvd_of_mul-dvd-mul_right d (pos_of_dvd_of_pos f.greatest.1 p) g)

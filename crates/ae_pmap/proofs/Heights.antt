use Rattle.std.proofs.Common.{◌≡◌, ℕ, zero, suc, ◌+◌, ◌*◌, ◌^◌, ◌≤◌, ◌∷◌, length, length-append, refl, sym, ◌∙◌, ap, subst, arith, lit≤, inl, inr}
use Rattle.std.proofs.lemmas.Bool.{cases_order}
use Rattle.std.proofs.lemmas.Nat.{mul-pow, pow-add}
use Rattle.std.proofs.Math.Nat.{pow-zero, pow-suc, pow-le-pow_left, le_of_mul-le-mul_right, one-le-pow}
use Rattle.ae_pmap.specs.Trees.{Tree, Leaf, Fork, pairs, levels, IsBalanced, IsShallow}

pow_times : (a m n : ℕ) → a ^ (m * n) ≡ (a ^ m) ^ n
pow_times a m zero = ap (λ (k : ℕ). a ^ k) (let e : m * zero ≡ zero = omega arith in e) ∙ (pow-zero a ∙ sym (pow-zero (a ^ m)))
pow_times a m (suc n) =
    ap (λ (k : ℕ). a ^ k) (let e : m * suc n ≡ m * n + m = omega arith in e)
    ∙ (pow-add a (m * n) m ∙ (ap (λ (x : ℕ). x * a ^ m) (pow_times a m n) ∙ sym (pow-suc (a ^ m) n)))

pow_swap : (a m n : ℕ) → (a ^ m) ^ n ≡ (a ^ n) ^ m
pow_swap a m n = sym (pow_times a m n) ∙ (ap (λ (k : ℕ). a ^ k) (omega arith) ∙ pow_times a n m)

-- 21 / 13 lies below the golden ratio, and its k-th power is at least 2 ^ j
shallow : (j k h w : ℕ) → 2 ^ j * 13 ^ k ≤ 21 ^ k → 21 ^ h ≤ w * 13 ^ h → 2 ^ (j * h) ≤ w ^ k
shallow j k h w e b =
    let lower : (2 ^ j * 13 ^ k) ^ h ≤ (21 ^ k) ^ h = pow-le-pow_left e h in
    let upper : (21 ^ h) ^ k ≤ (w * 13 ^ h) ^ k = pow-le-pow_left b k in
    let s = pow_swap 21 h k in
    let l : (2 ^ j * 13 ^ k) ^ h ≡ 2 ^ (j * h) * (13 ^ h) ^ k = rw (mul-pow, pow_times 2 j h, pow_swap 13 k h) refl in
    let u : (w * 13 ^ h) ^ k ≡ w ^ k * (13 ^ h) ^ k = mul-pow w (13 ^ h) k in
    le_of_mul-le-mul_right {k = (13 ^ h) ^ k} (omega arith) (omega (arith, one-le-pow k (13 ^ h) (one-le-pow h 13 (lit≤ tt))))

even_step : (a b x y : ℕ) → a ≤ x * b → a ≤ y * b → a * 21 ≤ (x + y) * (b * 13)
even_step a b x y p q = omega arith

odd_step : (a b x y : ℕ) → a * 21 ≤ x * (b * 13) → a ≤ y * b → a * 21 * 21 ≤ (x + y) * (b * 13 * 13)
odd_step a b x y p q = omega arith

even_grown : (m h x y w : ℕ) → 21 ^ m ≤ x * 13 ^ m → 21 ^ m ≤ y * 13 ^ m → h ≡ suc m → w ≡ x + y → 21 ^ h ≤ w * 13 ^ h
even_grown m h x y w p q e i = rw (e, i, pow-suc 21 m, pow-suc 13 m) (even_step (21 ^ m) (13 ^ m) x y p q)

odd_grown : (m n h x y w : ℕ) → 21 ^ n ≤ x * 13 ^ n → 21 ^ m ≤ y * 13 ^ m → n ≡ suc m → h ≡ suc (suc m) → w ≡ x + y → 21 ^ h ≤ w * 13 ^ h
odd_grown m n h x y w p q d e i =
    let p' : 21 ^ m * 21 ≤ x * (13 ^ m * 13) = rw (← pow-suc 21 m, ← pow-suc 13 m) (subst (λ (k : ℕ). 21 ^ k ≤ x * 13 ^ k) d p) in
    rw (e, i, pow-suc 21 (suc m), pow-suc 13 (suc m), pow-suc 21 m, pow-suc 13 m) (odd_step (21 ^ m) (13 ^ m) x y p' q)

-- one more than the number of keys
abbrev weight : Tree → ℕ
weight t = length (pairs t) + 1

weight-Fork : (l r : Tree) (key value : ℕ) → weight (Fork l key value r) ≡ weight l + weight r
weight-Fork l r key value = omega (arith, length-append (pairs l) ((key, value) ∷ pairs r))

heavy : (t : Tree) → IsBalanced t → 21 ^ levels t ≤ weight t * 13 ^ levels t
heavy Leaf b = lit≤ tt
heavy (Fork l key value r) b =
    let p = heavy l b.2 in
    let q = heavy r b.3 in
    let w = weight-Fork l r key value in
    let t = Fork l key value r in
    elim (cases_order (levels l) (levels r)) as (λ _. 21 ^ levels t ≤ weight t * 13 ^ levels t) [
      | inl e ↦ even_grown (levels l) (levels t) (weight l) (weight r) (weight t) p (subst (λ (h : ℕ). 21 ^ h ≤ weight r * 13 ^ h) (sym e) q) (omega arith) w
      | inr o ↦ elim o as (λ _. 21 ^ levels t ≤ weight t * 13 ^ levels t) [
        | inl lt ↦ odd_grown (levels l) (levels r) (levels t) (weight r) (weight l) (weight t) q p (omega (arith, b.1)) (omega (arith, b.1)) (omega arith)
        | inr gt ↦ odd_grown (levels r) (levels l) (levels t) (weight l) (weight r) (weight t) p q (omega (arith, b.0)) (omega (arith, b.0)) w
      ]
    ]

-- a balanced tree is shallow
pub IsShallow-balanced : (t : Tree) → IsBalanced t → IsShallow t
IsShallow-balanced t b =
    let s : 2 ^ (100 * levels t) ≤ weight t ^ 145 = shallow 100 145 (levels t) (weight t) (lit≤ tt) (heavy t b) in
    let m : weight t ^ 145 ≤ (length (pairs t) + 2) ^ 145 = pow-le-pow_left (let e : weight t ≤ length (pairs t) + 2 = omega arith in e) 145 in
    omega arith

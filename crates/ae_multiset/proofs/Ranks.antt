-- The rank falls where the multiset does.
use Rattle.std.proofs.Common.{◌≡◌, ℕ, zero, suc, ◌+◌, ◌*◌, ◌^◌, ◌<◌, ◌≤◌, List, [], ◌∷◌, length, inl, inr, refl, sym, ◌∙◌, subst, arith}
use Rattle.std.specs.List.{All}
use Rattle.std.proofs.Math.Nat.{mul-le-mul_right, pow-suc, pow-zero}
use Rattle.std.proofs.lemmas.Bool.{cases_eq, cases_lt}
use Rattle.ae_multiset.specs.Multisets.{count, IsLower, IsLess}
use Rattle.ae_multiset.specs.Ranks.{rank, weight}
use Rattle.ae_multiset.proofs.Counts.{count_same, count_other}

-- the weight of the names below `k`, name by name
digits : ℕ → ℕ → List ℕ → ℕ
digits base zero a = 0
digits base (suc k) a = count k a * base ^ k + digits base k a

-- one more in the next place is more than all that stands below it
carry : (p x y u v : ℕ) → u < p → x < y → x * p + u < y * p + v
carry p x y u v h l = let m : suc x * p ≤ y * p = mul-le-mul_right p (omega arith) in omega arith

count-cons : (x y : ℕ) (ys : List ℕ) → count x ys ≤ count x (y ∷ ys)
count-cons x y ys = omega arith

digits_small : (base k : ℕ) (a : List ℕ) → ((x : ℕ) → count x a < base) → digits base k a < base ^ k
unfolding digits
digits_small base zero a h = omega (arith, pow-zero base)
digits_small base (suc k) a h =
    let c : count k a * base ^ k + digits base k a < base * base ^ k + 0 = carry (base ^ k) (count k a) base (digits base k a) 0 (digits_small base k a h) (h k) in
    omega (arith, pow-suc base k)

digits_lower : (base k : ℕ) (b a : List ℕ) → ((x : ℕ) → count x b < base) → (l : IsLower b a) → l.name < k → digits base k b < digits base k a
unfolding digits
digits_lower base zero b a h l n = absurd (omega arith)
digits_lower base (suc k) b a h l n =
    elim (cases_eq l.name k) as (λ _. count k b * base ^ k + digits base k b < count k a * base ^ k + digits base k a) [
      | inl e ↦ carry (base ^ k) (count k b) (count k a) (digits base k b) (digits base k a) (digits_small base k b h) (subst (λ (w : ℕ). count w b < count w a) e l.fewer)
      | inr d ↦
          let lt : l.name < k = omega arith in
          let ih : digits base k b < digits base k a = digits_lower base k b a h l lt in
          rw (l.above k lt) (omega arith)
    ]

digits-cons : (base k y : ℕ) (ys : List ℕ) → y < k → digits base k (y ∷ ys) ≡ base ^ y + digits base k ys
unfolding digits
digits-cons base zero y ys h = absurd (omega arith)
digits-cons base (suc k) y ys h = elim (cases_eq k y) as (λ _. count k (y ∷ ys) * base ^ k + digits base k (y ∷ ys) ≡ base ^ y + (count k ys * base ^ k + digits base k ys)) [
  | inl e ↦ subst (λ (w : ℕ). count k (w ∷ ys) * base ^ k + digits base k (w ∷ ys) ≡ base ^ w + (count k ys * base ^ k + digits base k ys)) e
      (rw (count_same k ys, digits-skip k k (omega arith)) (omega arith))
  | inr d ↦ rw (count_other k y ys d, digits-cons base k y ys (omega arith)) (omega arith)
]
  where
    digits-skip : (j w : ℕ) → j ≤ w → digits base j (w ∷ ys) ≡ digits base j ys
    digits-skip zero w h = refl
    digits-skip (suc j) w h = rw (count_other j w ys (λ e. absurd (omega (arith, e, h))), digits-skip j w (omega arith)) refl

nothing : (base j : ℕ) → digits base j [] ≡ 0
unfolding digits
nothing base zero = refl
nothing base (suc j) = omega (arith, nothing base j)

-- where no name is as large as `k`
weight_is : (base k : ℕ) (a : List ℕ) → ((x : ℕ) → k ≤ x → count x a ≡ 0) → weight base a ≡ digits base k a
unfolding weight
weight_is base k [] h = sym (nothing base k)
weight_is base k (y ∷ ys) h =
    let l : y < k = elim (cases_lt y k) as (λ _. y < k) [ inl q ↦ q | inr q ↦ absurd (omega (arith, h y q, count_same y ys)) ] in
    let ih : weight base ys ≡ digits base k ys = weight_is base k ys (λ x m. omega (arith, h x m, count-cons x y ys)) in
    omega (arith, ih, digits-cons base k y ys l)

pub count-le-length : (x : ℕ) (a : List ℕ) → count x a ≤ length a
count-le-length x [] = omega arith
count-le-length x (y ∷ ys) =
    elim (cases_eq x y) as (λ _. count x (y ∷ ys) ≤ length (y ∷ ys)) [
      | inl e ↦ omega (arith, count-le-length x ys, subst (λ (w : ℕ). count x (w ∷ ys) ≡ 1 + count x ys) e (count_same x ys))
      | inr d ↦ omega (arith, count-le-length x ys, count_other x y ys d)
    ]

-- the rank falls
pub rank_falls : (size names : ℕ) (a b : List ℕ) → length b ≤ size → ((x : ℕ) → names ≤ x → count x a ≡ 0) → ((x : ℕ) → names ≤ x → count x b ≡ 0) → IsLess a b → rank size names a < rank size names b
unfolding rank
rank_falls size k a b s y z l =
    let small_a : (x : ℕ) → count x a < suc size = λ x. elim l as (λ _. count x a < suc size) [ inl h ↦ omega (arith, count-le-length x a) | inr h ↦ omega (arith, count-le-length x a, h.0) ] in
    rw (weight_is (suc size) k a y, weight_is (suc size) k b z) (elim l as (λ _. length a * suc size ^ k + digits (suc size) k a < length b * suc size ^ k + digits (suc size) k b) [
      | inl h ↦ carry (suc size ^ k) (length a) (length b) (digits (suc size) k a) (digits (suc size) k b) (digits_small (suc size) k a small_a) h
      | inr h ↦
          let lt : h.1.name < k = elim (cases_lt h.1.name k) as (λ _. h.1.name < k) [ inl m ↦ m | inr m ↦ absurd (omega (arith, h.1.fewer, z h.1.name m)) ] in
          rw h.0 (omega (arith, digits_lower (suc size) k a b small_a h.1 lt))
    ])

-- names that are all below a bound
pub none_above : (bound : ℕ) (a : List ℕ) → All (λ x. x < bound) a → (x : ℕ) → bound ≤ x → count x a ≡ 0
none_above bound [] h x m = refl
none_above bound (y ∷ ys) h x m =
    let l : y < bound = h zero 0 (omega arith) in
    count_other x y ys (λ e. absurd (omega (arith, e))) ∙ none_above bound ys (λ k d n. h (suc k) d (omega arith)) x m

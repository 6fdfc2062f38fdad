-- Counts of names in sums, differences and common parts; one multiset.
use Rattle.std.proofs.Common.{◌≡◌, ◌≢◌, ℕ, ◌+◌, ◌-◌, ◌<◌, ◌≤◌, min, max, List, [], ◌∷◌, ◌++◌, length, inl, inr, refl, sym, ◌∙◌, subst, arith, length-append}
use Rattle.std.proofs.lemmas.Bool.Decides.{nat_tests}
use Rattle.std.proofs.lemmas.Bool.{cases_eq}
use Rattle.ae_multiset.specs.Multisets.{count, IsSame, without, minus, common, union, IsLess}
use Rattle.ae_multiset.specs.Normal.{top}

pub count-append : (x : ℕ) (a b : List ℕ) → count x (a ++ b) ≡ count x a + count x b
count-append x [] b = omega arith
count-append x (y ∷ ys) b = omega (arith, count-append x ys b)

pub count_same : (x : ℕ) (a : List ℕ) → count x (x ∷ a) ≡ 1 + count x a
count_same x a = grind (arith, nat_tests)

pub count_other : (x y : ℕ) (a : List ℕ) → x ≢ y → count x (y ∷ a) ≡ count x a
count_other x y a h = grind (arith, nat_tests)

pub count-without_same : (x : ℕ) (a : List ℕ) → count x (without x a) ≡ count x a - 1
count-without_same x [] = omega arith
count-without_same x (y ∷ ys) = grind (arith, nat_tests, count-without_same x ys)

pub count-without_other : (x z : ℕ) (a : List ℕ) → z ≢ x → count z (without x a) ≡ count z a
count-without_other x z [] h = refl
count-without_other x z (y ∷ ys) h = grind (arith, nat_tests, count-without_other x z ys h)

pub length-without : (x : ℕ) (a : List ℕ) → 0 < count x a → length a ≡ 1 + length (without x a)
length-without x [] h = absurd (omega arith)
length-without x (y ∷ ys) h = grind (arith, nat_tests, length-without x ys)

-- each name is taken out as often as it stands
count-without : (x z : ℕ) (a b : List ℕ) → count z (without x a) - count z b ≡ count z a - count z (x ∷ b)
count-without x z a b =
    elim (cases_eq z x) as (λ _. count z (without x a) - count z b ≡ count z a - count z (x ∷ b)) [
      | inl e ↦ subst (λ (w : ℕ). count w (without x a) - count w b ≡ count w a - count w (x ∷ b)) (sym e) (omega (arith, count-without_same x a, count_same x b))
      | inr h ↦ omega (arith, count-without_other x z a h, count_other z x b h)
    ]

pub count-minus : (z : ℕ) (a b : List ℕ) → count z (minus a b) ≡ count z a - count z b
count-minus z a [] = omega arith
count-minus z a (x ∷ xs) = count-minus z (without x a) xs ∙ count-without x z a xs

pub count-common : (z : ℕ) (a b : List ℕ) → count z (common a b) ≡ min (count z a) (count z b)
count-common z a b = omega (arith, count-minus z a (minus a b), count-minus z a b)

pub count-union : (z : ℕ) (a b : List ℕ) → count z (union a b) ≡ max (count z a) (count z b)
count-union z a b = omega (arith, count-append z a (minus b (common a b)), count-minus z b (common a b), count-common z a b)

-- names that are one multiset: an equivalence
pub same : (a : List ℕ) → IsSame a a
same a = record { each = λ x. refl }

pub back : {a b : List ℕ} → IsSame a b → IsSame b a
back p = record { each = λ x. sym (p.each x) }

pub then : {a b c : List ℕ} → IsSame a b → IsSame b c → IsSame a c
then p q = record { each = λ x. p.each x ∙ q.each x }

-- the rest of the multisets where one has `x` in front
tail_same : (x : ℕ) (a b : List ℕ) → IsSame (x ∷ a) b → IsSame a (without x b)
tail_same x a b p = record {
  each = λ z. elim (cases_eq z x) as (λ _. count z a ≡ count z (without x b)) [
    | inl e ↦ subst (λ (w : ℕ). count w a ≡ count w (without x b)) (sym e) (omega (arith, count_same x a, count-without_same x b, p.each x))
    | inr h ↦ omega (arith, count_other z x a h, count-without_other x z b h, p.each z)
  ];
}

none : (b : List ℕ) → ((x : ℕ) → count x b ≡ 0) → length b ≡ 0
none [] h = refl
none (x ∷ xs) h = absurd (omega (arith, count_same x xs, h x))

-- one multiset has one size
pub length_same : (a b : List ℕ) → IsSame a b → length a ≡ length b
length_same [] b p = sym (none b (λ x. sym (p.each x)))
length_same (x ∷ xs) b p =
    let pos : 0 < count x b = omega (arith, count_same x xs, p.each x) in
    let ih : length xs ≡ length (without x b) = length_same xs (without x b) (tail_same x xs b p) in
    omega (arith, length-without x b pos, ih)

-- the order is one of multisets
pub less_same : {a b c d : List ℕ} → IsSame a b → IsSame c d → IsLess a c → IsLess b d
less_same {a} {b} {c} {d} p q l =
    let m : length a ≡ length b = length_same a b p in
    let n : length c ≡ length d = length_same c d q in
    elim l as (λ _. IsLess b d) [
      | inl h ↦ inl (omega arith)
      | inr h ↦ inr (omega arith, record { name = h.1.name; fewer = omega (arith, h.1.fewer, p.each h.1.name, q.each h.1.name); above = λ x k. sym (p.each x) ∙ (h.1.above x k ∙ q.each x) })
    ]

-- the order is closed under adding names
pub less-append : {a b : List ℕ} (c : List ℕ) → IsLess a b → IsLess (a ++ c) (b ++ c)
less-append {a} {b} c l = elim l as (λ _. IsLess (a ++ c) (b ++ c)) [
  | inl h ↦ inl (omega (arith, length-append a c, length-append b c))
  | inr h ↦ inr (
    omega (arith, length-append a c, length-append b c),
    record {
      name = h.1.name;
      fewer = omega (arith, h.1.fewer, count-append h.1.name a c, count-append h.1.name b c);
      above = λ x k. omega (arith, h.1.above x k, count-append x a c, count-append x b c);
    },
  )
]

-- no name from `top` on stands in a multiset
pub count-above : (a : List ℕ) (x : ℕ) → top a ≤ x → count x a ≡ 0
unfolding top
count-above [] x h = refl
count-above (y ∷ ys) x h = count_other x y ys (λ e. absurd (omega arith)) ∙ count-above ys x (omega arith)

-- Strictly increasing numbers and their places.
use Rattle.std.specs.Prelude.{ℕ, zero, suc, ◌+◌, ◌<◌, true, cond, not, nat_eq, List, [], ◌∷◌, ◌≡◌, map, length, get_or, slice_get, Option, Some}
use Rattle.std.specs.List.{Contains}
use Rattle.std.specs.List.Sorted.{IsStrictlyIncreasing}
use Rattle.std.proofs.Common.{sym, ap, ◌∙◌, subst, arith, add-one, inl, inr}
use Rattle.std.proofs.lemmas.Bool.{cases_lt, cases_eq, eqb-true}
use Rattle.std.proofs.lemmas.Option.{slice_get_within, slice_get-get_or, get_or_from_slice_get}
use Rattle.ae_base.proofs.ListFacts.{get_map}
use Rattle.ae_base.proofs.Tests.{by_bool, nat_eq_itself}
use Rattle.ae_trim.specs.Trimmed.{place_in}

-- ---- an element and its place
pub contains_at : (xs : List ℕ) (x : ℕ) → Contains xs x → (i : ℕ) × (slice_get xs i ≡ Some x)
contains_at xs x h = (h.0, slice_get-get_or xs h.0 x h.1 ∙ ap Some h.2)

pub at_contains : (xs : List ℕ) (i x : ℕ) → slice_get xs i ≡ Some x → Contains xs x
at_contains xs i x e = (i, slice_get_within xs i x e, get_or_from_slice_get xs i x x e)

pub contains_map : (f : ℕ → ℕ) (xs : List ℕ) (x : ℕ) → Contains xs x → Contains (map f xs) (f x)
contains_map f xs x h = let a = contains_at xs x h in at_contains (map f xs) a.0 (f x) (get_map f xs a.0 x a.1)

-- ---- increasing numbers
far : (ks : List ℕ) → IsStrictlyIncreasing ks → (i j : ℕ) → i < j → j < length ks → get_or ks i 0 < get_or ks j 0
far ks r i zero l b = absurd (omega (arith, l))
far ks r i (suc j) l b =
    let step : get_or ks j 0 < get_or ks (suc j) 0 = subst (λ n. get_or ks j 0 < get_or ks n 0) (add-one j) (r j (omega (arith, b))) in
    elim (cases_eq i j) [
      | inl e ↦ subst (λ n. get_or ks n 0 < get_or ks (suc j) 0) (sym e) step
      | inr d ↦ (let w = far ks r i j (omega (arith, l, d)) (omega (arith, b)) in omega (arith, step, w))
    ]

-- a later place has a greater number
pub rises : (ks : List ℕ) → IsStrictlyIncreasing ks → (i j a b : ℕ) → i < j → slice_get ks i ≡ Some a → slice_get ks j ≡ Some b → a < b
rises ks r i j a b l e f =
    let w = far ks r i j l (slice_get_within ks j b f) in
    let p = get_or_from_slice_get ks i a 0 e in
    let q = get_or_from_slice_get ks j b 0 f in
    omega (arith, w, p, q)

-- a number has one place
pub one_place : (ks : List ℕ) → IsStrictlyIncreasing ks → (i j k : ℕ) → slice_get ks i ≡ Some k → slice_get ks j ≡ Some k → i ≡ j
one_place ks r i j k e f = elim (cases_lt i j) [
  | inl l ↦ absurd (let w : k < k = rises ks r i j k k l e f in omega (arith, w))
  | inr l ↦ elim (cases_lt j i) [ inl m ↦ absurd (let w : k < k = rises ks r j i k k m f e in omega (arith, w)) | inr m ↦ omega (arith, l, m) ]
]

-- a lesser number has an earlier place
pub place_below : (ks : List ℕ) → IsStrictlyIncreasing ks → (i j a b : ℕ) → slice_get ks i ≡ Some a → slice_get ks j ≡ Some b → a < b → i < j
place_below ks r i j a b e f l = elim (cases_lt i j) [
  | inl m ↦ m
  | inr m ↦ elim (cases_eq i j) [
    | inl q ↦ absurd (let w : ◌≡◌ {A = Option ℕ} (Some a) (Some b) = sym e ∙ ap (slice_get ks) q ∙ f in let v : a ≡ b = cc w in omega (arith, v, l))
    | inr q ↦ absurd (let w : b < a = rises ks r j i b a (omega (arith, m, q)) f e in omega (arith, w, l))
  ]
]

place_there : (ks : List ℕ) (i k : ℕ) → slice_get ks i ≡ Some k → slice_get ks (place_in ks k) ≡ Some k
place_there [] i k e = cc e
place_there (n ∷ ns) zero k e =
    let same : n ≡ k = cc e in
    let yes : nat_eq n k ≡ true = subst (λ m. nat_eq n m ≡ true) same (nat_eq_itself n) in
    ap (λ b. slice_get (n ∷ ns) (cond (not b) (1 + place_in ns k) 0)) yes ∙ ap Some same
place_there (n ∷ ns) (suc i) k e =
    let next : 1 + place_in ns k ≡ suc (place_in ns k) = omega arith in
    by_bool (nat_eq n k) (λ yes. ap (λ b. slice_get (n ∷ ns) (cond (not b) (1 + place_in ns k) 0)) yes ∙ ap Some (eqb-true n k yes))
    (λ no. ap (λ b. slice_get (n ∷ ns) (cond (not b) (1 + place_in ns k) 0)) no ∙ ap (slice_get (n ∷ ns)) next ∙ place_there ns i k e)

-- the place that is looked for is the one where the number stands
pub place_found : (ks : List ℕ) → IsStrictlyIncreasing ks → (i k : ℕ) → slice_get ks i ≡ Some k → place_in ks k ≡ i
place_found ks r i k e = one_place ks r (place_in ks k) i k (place_there ks i k e) e

-- ---- one number more
pub rising_none : IsStrictlyIncreasing []
rising_none = λ k b. absurd (omega (arith, b))

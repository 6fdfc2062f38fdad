-- Elements of a list by their places, before and after one more.
use Rattle.std.specs.Prelude.{ℕ, zero, suc, ◌<◌, ◌⊎◌, List, [], ◌∷◌, ◌++◌, ◌≡◌, map, length, slice_get, Some}
use Rattle.std.specs.List.{AllByRecursion}
use Rattle.std.proofs.Common.{refl, ap, inl, inr, arith, get_or}

module _ {A : Type 0} where
  pub get_last : (xs : List A) (y : A) → slice_get (xs ++ y ∷ []) (length xs) ≡ Some y
  get_last [] y = refl
  get_last (x ∷ xs) y = get_last xs y

  pub get_pushed : (xs : List A) (y : A) (i : ℕ) (x : A) → slice_get (xs ++ y ∷ []) i ≡ Some x → (slice_get xs i ≡ Some x) ⊎ ((i ≡ length xs) × (y ≡ x))
  get_pushed [] y zero x e = inr (refl, cc e)
  get_pushed [] y (suc i) x e = cc e
  get_pushed (z ∷ xs) y zero x e = inl e
  get_pushed (z ∷ xs) y (suc i) x e = elim (get_pushed xs y i x e) [ inl h ↦ inl h | inr h ↦ inr (ap suc h.0, h.1) ]

  pub get_unmap : {B : Type 0} (f : A → B) (xs : List A) (i : ℕ) (y : B) → slice_get (map f xs) i ≡ Some y → (x : A) × (slice_get xs i ≡ Some x) × (f x ≡ y)
  get_unmap f [] i y e = cc e
  get_unmap f (x ∷ xs) zero y e = (x, refl, cc e)
  get_unmap f (x ∷ xs) (suc i) y e = get_unmap f xs i y e

-- numbers that are all below n
pub below_at : (n : ℕ) (us : List ℕ) (k : ℕ) → AllByRecursion (λ a. a < n) us → k < length us → get_or us k 0 < n
below_at n [] k h l = absurd (omega (arith, l))
below_at n (a ∷ us) zero h l = h.0
below_at n (a ∷ us) (suc k) h l = below_at n us k h.1 (omega (arith, l))

-- Elements of lists, and lists cut in two.
use Rattle.std.proofs.Common.{◌≡◌, ℕ, zero, suc, List, [], ◌∷◌, ◌++◌, slice_get, Some, refl, ap, subst, arith, inl, inr, ◌⊎◌}
use Rattle.std.specs.List.{AllByRecursion, Contains}
use Rattle.std.proofs.lemmas.Option.{slice_get_within, get_or_from_slice_get}
use Rattle.std.proofs.lemmas.List.Elements.{Contains-append_cases, Contains-append_left, Contains-append_right}

module _ {X : Type 0} where
  pub contains_one : (x y : X) → Contains (x ∷ []) y → x ≡ y
  contains_one x y (zero, l, e) = e
  contains_one x y (suc k, l, e) = absurd (omega (arith, l))

  pub contains_cases : (x : X) (xs : List X) (y : X) → Contains (x ∷ xs) y → (x ≡ y) ⊎ Contains xs y
  contains_cases x xs y h =
      elim (Contains-append_cases (x ∷ []) xs y h) [ inl a ↦ inl (contains_one x y a) | inr b ↦ inr b ]

  pub contains_here : (x : X) (xs : List X) → Contains (x ∷ xs) x
  contains_here x xs = Contains-append_left (x ∷ []) xs x (zero, omega arith, refl)

  pub contains_later : (x : X) (xs : List X) (y : X) → Contains xs y → Contains (x ∷ xs) y
  contains_later x xs y h = Contains-append_right (x ∷ []) xs y h

  -- what stands at a place is an element
  pub contains_at : (xs : List X) (i : ℕ) (x : X) → slice_get xs i ≡ Some x → Contains xs x
  contains_at xs i x e = (i, slice_get_within xs i x e, get_or_from_slice_get xs i x x e)

  -- what holds of all holds of an element
  pub all_contained : (P : X → Type 0) (xs : List X) (x : X) → AllByRecursion P xs → Contains xs x → P x
  all_contained P [] x a (k, l, e) = absurd (omega (arith, l))
  all_contained P (y ∷ ys) x a (zero, l, e) = subst P e a.0
  all_contained P (y ∷ ys) x a (suc k, l, e) = all_contained P ys x a.1 (k, omega (arith, l), e)

  -- an element with what stands before and after it
  pub cut : (xs : List X) (y : X) → Contains xs y → (a : List X) × (b : List X) × (xs ≡ a ++ y ∷ b)
  cut [] y h = absurd (omega (arith, h.1))
  cut (x ∷ xs) y h =
      elim (contains_cases x xs y h) [
        | inl e ↦ ([], xs, ap (λ z. z ∷ xs) e)
        | inr r ↦ let c = cut xs y r in (x ∷ c.0, c.1, ap (λ w. x ∷ w) c.2)
      ]

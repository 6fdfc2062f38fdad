-- Lists of terms whose constants are below a number.
use Rattle.std.specs.Prelude.{ℕ, ◌<◌, ◌≤◌, List, [], ◌∷◌, ◌++◌}
use Rattle.std.specs.List.{AllByRecursion, flat_map}
use Rattle.std.proofs.Common.{arith, inl, inr}
use Rattle.std.proofs.lemmas.List.Elements.{Contains-append_cases, Contains-append_left, Contains-append_right}
use Rattle.ae_core.specs.declared.terms.Term.{Term, Fresh}
use Rattle.ae_new_constants.specs.Below.{AreBelow}

pub rising : (n m : ℕ) (ts : List Term) → AreBelow n ts → n ≤ m → AreBelow m ts
rising n m ts a le k s h = let l = a k s h in omega (arith, l, le)

module _ (n : ℕ) where
  pub none_below : AreBelow n []
  none_below m s h = absurd (omega (arith, h.1))

  pub both_below : (xs ys : List Term) → AreBelow n xs → AreBelow n ys → AreBelow n (xs ++ ys)
  both_below xs ys a b m s h = elim (Contains-append_cases xs ys (Fresh m s) h) as (λ _. m < n) [ inl l ↦ a m s l | inr r ↦ b m s r ]

  pub left_below : (xs ys : List Term) → AreBelow n (xs ++ ys) → AreBelow n xs
  left_below xs ys a m s h = a m s (Contains-append_left xs ys (Fresh m s) h)

  pub right_below : (xs ys : List Term) → AreBelow n (xs ++ ys) → AreBelow n ys
  right_below xs ys a m s h = a m s (Contains-append_right xs ys (Fresh m s) h)

  module _ {X : Type 0} (f : X → List Term) where
    pub each_below : (xs : List X) → AllByRecursion (λ x. AreBelow n (f x)) xs → AreBelow n (flat_map f xs)
    each_below [] a = none_below
    each_below (x ∷ xs) a = both_below (f x) (flat_map f xs) a.0 (each_below xs a.1)

    pub all_below : (xs : List X) → AreBelow n (flat_map f xs) → AllByRecursion (λ x. AreBelow n (f x)) xs
    all_below [] a = tt
    all_below (x ∷ xs) a = (left_below (f x) (flat_map f xs) a, all_below xs (right_below (f x) (flat_map f xs) a))

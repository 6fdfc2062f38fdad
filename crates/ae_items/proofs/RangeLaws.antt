-- A part of a list between two places, of which either may be past the end.
use Rattle.std.proofs.Common.{arith, ◌≡◌, ◌∙◌, ℕ, ◌-◌, ◌≤◌, inl, inr, List, [], length, take, drop, min, sym, ap}
use Rattle.std.specs.Prelude.{slice_range}
use Rattle.std.proofs.lemmas.Bool.{cases_lt}
use Rattle.std.proofs.lemmas.List.{take_all, drop_all, length-drop}
use Rattle.std.proofs.Math.Seq.{take-nil}

module _ {X : Type 0} (xs : List X) where
  -- nothing stands between two places of which the first isn't before the second, or is past the end
  nothing : (a b : ℕ) → b ≤ a → slice_range xs a b ≡ []
  nothing a b l = ap (λ n. take n (drop a xs)) (let e : b - a ≡ 0 = omega (arith, l) in e)

  past : (a b : ℕ) → length xs ≤ a → slice_range xs a b ≡ []
  past a b l = ap (take (b - a)) (drop_all a xs l) ∙ take-nil (b - a)

  to_end : (a b : ℕ) → length xs ≤ b → slice_range xs a b ≡ drop a xs
  to_end a b l = take_all (b - a) (drop a xs) (let e = length-drop a xs in omega (arith, e, l))

  pub shortened : (a b : ℕ) → slice_range xs (min a (min b (length xs))) (min b (length xs)) ≡ slice_range xs a b
  shortened a b = elim (cases_lt b (length xs)) [
    | inl l ↦ elim (cases_lt a b) [
      | inl k ↦ ap (λ n. slice_range xs n (min b (length xs))) (let e : min a (min b (length xs)) ≡ a = omega (arith, l, k) in e)
          ∙ ap (slice_range xs a) (let e : min b (length xs) ≡ b = omega (arith, l) in e)
      | inr k ↦ nothing (min a (min b (length xs))) (min b (length xs)) (omega (arith, l, k)) ∙ sym (nothing a b k)
    ]
    | inr l ↦ elim (cases_lt a (length xs)) [
      | inl k ↦ to_end (min a (min b (length xs))) (min b (length xs)) (omega (arith, l))
          ∙ ap (λ n. drop n xs) (let e : min a (min b (length xs)) ≡ a = omega (arith, l, k) in e) ∙ sym (to_end a b l)
      | inr k ↦ nothing (min a (min b (length xs))) (min b (length xs)) (omega (arith, l, k)) ∙ sym (past a b k)
    ]
  ]

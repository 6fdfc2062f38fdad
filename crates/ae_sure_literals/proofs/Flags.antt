-- Flags, and how many of them are set.
use Rattle.std.specs.Prelude.{ℕ, zero, suc, ◌+◌, ◌<◌, ◌≤◌, ◌≡◌, ◌≢◌, Bool, true, false, List, [], ◌∷◌, ◌++◌, length, take, get_or, slice_set}
use Rattle.std.specs.List.{AllByRecursion}
use Rattle.std.proofs.Common.{refl, sym, ap, ◌∙◌, subst, arith, inl, inr}
use Rattle.std.proofs.lemmas.Bool.{cases_eq}
use Rattle.std.proofs.lemmas.List.{get_or-set_other, get_or-set_same, take_more}
use Rattle.ae_base.proofs.AllOf.{all_push}
use Rattle.ae_base.proofs.Tests.{true_false}
use Rattle.ae_sure_literals.specs.Inner.Closing.{flag, how_many}

pub count_up : (fs : List Bool) (k : ℕ) → k < length fs → flag fs k ≡ false → how_many (slice_set fs k true) ≡ suc (how_many fs)
count_up [] k l e = absurd (omega (arith, l))
count_up (true ∷ fs) zero l e = true_false e
count_up (false ∷ fs) zero l e = refl
count_up (true ∷ fs) (suc k) l e = ap suc (count_up fs k (omega (arith, l)) e)
count_up (false ∷ fs) (suc k) l e = count_up fs k (omega (arith, l)) e

pub count_within : (fs : List Bool) → how_many fs ≤ length fs
count_within [] = omega arith
count_within (true ∷ fs) = omega (arith, count_within fs)
count_within (false ∷ fs) = omega (arith, count_within fs)

module _ (fs : List Bool) (place : ℕ) where
  pub set_here : place < length fs → flag (slice_set fs place true) place ≡ true
  set_here l = get_or-set_same fs place true false l

  pub set_elsewhere : (k : ℕ) → k ≢ place → flag (slice_set fs place true) k ≡ flag fs k
  set_elsewhere k d = get_or-set_other fs place k true false d

  pub set_keeps : place < length fs → (k : ℕ) → flag fs k ≡ true → flag (slice_set fs place true) k ≡ true
  set_keeps l k f = elim (cases_eq k place) as (λ _. flag (slice_set fs place true) k ≡ true) [
    | inl q ↦ ap (flag (slice_set fs place true)) q ∙ set_here l
    | inr d ↦ set_elsewhere k d ∙ f
  ]

-- what holds of the first of some things, and of the next one
pub all_next : {X : Type 0} (P : X → Type 0) (xs : List X) (i : ℕ) (x : X) → i < length xs → x ≡ get_or xs i x → AllByRecursion P (take i xs) → P x → AllByRecursion P (take (i + 1) xs)
all_next {X} P xs i x l e a p = subst (AllByRecursion P) (ap (λ (y : X). take i xs ++ y ∷ []) e ∙ sym (take_more xs i x l)) (all_push P (take i xs) x a p)

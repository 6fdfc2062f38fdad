-- Lists of which one element is replaced.
use Rattle.std.specs.Prelude.{ℕ, zero, suc, ◌<◌, get_or, List, [], ◌∷◌, ◌≡◌, ◌⊎◌, length, slice_get, slice_set, Some}
use Rattle.std.specs.List.{Contains}
use Rattle.std.proofs.Common.{refl, ap, ◌∙◌, arith, inl, inr}
use Rattle.std.proofs.lemmas.Option.{same_Some, slice_get-get_or, slice_get_read}
use Rattle.ae_base.proofs.Options.{never_some}
use Rattle.ae_base.specs.Relations.{Pairwise}
use Rattle.ae_between_rounds.specs.declared.search.Instance.{Instance}
use Rattle.ae_owed_instances.specs.Inner.Falling.{total}

-- the place of an element
pub place_of : {A : Type 0} (xs : List A) (x : A) → Contains xs x → (k : ℕ) × (slice_get xs k ≡ Some x)
place_of xs x c = (c.0, slice_get-get_or xs c.0 x c.1 ∙ ap (λ z. Some z) c.2)

-- what is read at a place of a list
pub read_at : {A : Type 0} (xs ys : List A) (k : ℕ) (x : A) → ys ≡ xs → k < length xs → x ≡ get_or ys k x → slice_get xs k ≡ Some x
read_at xs ys k x e l is = slice_get_read xs (length xs) k x refl l (is ∙ ap (λ zs. get_or zs k x) e)

-- what stands at the place that is replaced, and at any place
pub set_here : {A : Type 0} (xs : List A) (k : ℕ) (x y : A) → slice_get xs k ≡ Some y → slice_get (slice_set xs k x) k ≡ Some x
set_here [] k x y e = never_some y e
set_here (z ∷ xs) zero x y e = refl
set_here (z ∷ xs) (suc k) x y e = set_here xs k x y e

pub set_cases : {A : Type 0} (xs : List A) (k j : ℕ) (x y : A) → slice_get (slice_set xs k x) j ≡ Some y → (slice_get xs j ≡ Some y) ⊎ (x ≡ y)
set_cases [] k j x y e = inl e
set_cases (z ∷ xs) zero zero x y e = inr (same_Some x y e)
set_cases (z ∷ xs) zero (suc j) x y e = inl e
set_cases (z ∷ xs) (suc k) zero x y e = inl e
set_cases (z ∷ xs) (suc k) (suc j) x y e = set_cases xs k j x y e

-- an element that was there is there still, or it stood at the place
pub set_kept : {A : Type 0} (xs : List A) (k j : ℕ) (x y : A) → slice_get xs j ≡ Some y → (slice_get (slice_set xs k x) j ≡ Some y) ⊎ (j ≡ k)
set_kept [] k j x y e = inl e
set_kept (z ∷ xs) zero zero x y e = inr refl
set_kept (z ∷ xs) zero (suc j) x y e = inl e
set_kept (z ∷ xs) (suc k) zero x y e = inl e
set_kept (z ∷ xs) (suc k) (suc j) x y e =
    elim (set_kept xs k j x y e) as (λ _. (slice_get (slice_set (z ∷ xs) (suc k) x) (suc j) ≡ Some y) ⊎ (suc j ≡ suc k)) [ inl a ↦ inl a | inr b ↦ inr (ap suc b) ]

pub pairwise_set : {A B : Type 0} (R : A → B → Type 0) (xs : List A) (ys : List B) (k : ℕ) (x : A) (y : B) → Pairwise R xs ys → R x y → Pairwise R (slice_set xs k x) (slice_set ys k y)
pairwise_set R [] [] k x y p r = tt
pairwise_set R (a ∷ xs) (b ∷ ys) zero x y p r = (r, p.1)
pairwise_set R (a ∷ xs) (b ∷ ys) (suc k) x y p r = (p.0, pairwise_set R xs ys k x y p.1 r)
pairwise_set R [] (b ∷ ys) k x y p r = absurd p
pairwise_set R (a ∷ xs) [] k x y p r = absurd p

-- a less number makes all together less
pub total_less : (is : List Instance) (k : ℕ) (i : Instance) (n : ℕ) → slice_get is k ≡ Some i → n < i.number → total (slice_set is k (record i { number = n })) < total is
total_less [] k i n e l = never_some i e
total_less (j ∷ is) zero i n e l = let s : j.number ≡ i.number = ap (λ (z : Instance). z.number) (same_Some j i e) in omega (arith, s, l)
total_less (j ∷ is) (suc k) i n e l = let r = total_less is k i n e l in omega (arith, r)

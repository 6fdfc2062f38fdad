-- Names that are close to those of a match: the same one by one, of the same sorts.
use Rattle.std.specs.Prelude.{ℕ, suc, ◌-◌, ◌≡◌, ◌<◌, Bool, true, List, [], ◌∷◌, map, length, reverse, get_or, slice_get, Some}
use Rattle.std.proofs.Common.{refl, sym, ap, ◌∙◌, subst, arith}
use Rattle.std.proofs.lemmas.Option.{slice_get_within, slice_get-get_or, get_or_from_slice_get, same_Some}
use Rattle.std.proofs.lemmas.List.{get_or-reverse, length-reverse}
use Rattle.std.proofs.lemmas.Bool.{and_from}
use Rattle.ae_inst.specs.Matches.{are_same}
use Rattle.ae_matching.specs.Stable.{AreClose}

-- the k-th element from the front is one from the back
pub from_back : (xs : List ℕ) (k v : ℕ) → slice_get xs k ≡ Some v → slice_get (reverse xs) (length xs - 1 - k) ≡ Some v
from_back xs k v e =
    let l = slice_get_within xs k v e in
    let j : length xs - 1 - k < length xs = omega (arith, l) in
    let r : length xs - 1 - (length xs - 1 - k) ≡ k = omega (arith, l) in
    slice_get-get_or (reverse xs) (length xs - 1 - k) v (subst (λ n. length xs - 1 - k < n) (sym (length-reverse xs)) j)
    ∙ ap Some (get_or-reverse xs (length xs - 1 - k) v j ∙ ap (λ i. get_or xs i v) r ∙ get_or_from_slice_get xs k v v e)

module _ (alike : ℕ → ℕ → Bool) (ex : ℕ → Bool) (values others : List ℕ) (c : AreClose alike ex values others) where
  pub near_at : (k v w : ℕ) → slice_get values k ≡ Some v → slice_get others k ≡ Some w → alike w v ≡ true
  near_at k v w e f =
      let r = c.other (length values - 1 - k) v (from_back values k v e) in
      let there : slice_get (reverse others) (length values - 1 - k) ≡ Some w = ap (λ n. slice_get (reverse others) (n - 1 - k)) (sym c.as_many) ∙ from_back others k w f in
      subst (λ u. alike u v ≡ true) (same_Some r.0 w (sym r.1 ∙ there)) r.2

-- lists that are the same one by one
pub same_by : (alike : ℕ → ℕ → Bool) (xs ys : List ℕ) → length xs ≡ length ys → ((k v w : ℕ) → slice_get xs k ≡ Some v → slice_get ys k ≡ Some w → alike v w ≡ true) → are_same alike xs ys ≡ true
same_by alike [] [] l h = refl
same_by alike [] (y ∷ ys) l h = absurd (omega (arith, l))
same_by alike (x ∷ xs) [] l h = absurd (omega (arith, l))
same_by alike (x ∷ xs) (y ∷ ys) l h = and_from _ _ (h 0 x y refl refl) (same_by alike xs ys (omega (arith, l)) (λ k v w e f. h (suc k) v w e f))

-- and what is equal of each
pub map_by : {A : Type 0} (f : ℕ → A) (xs ys : List ℕ) → length xs ≡ length ys → ((k v w : ℕ) → slice_get xs k ≡ Some v → slice_get ys k ≡ Some w → f v ≡ f w) → map f xs ≡ map f ys
map_by f [] [] l h = refl
map_by f [] (y ∷ ys) l h = absurd (omega (arith, l))
map_by f (x ∷ xs) [] l h = absurd (omega (arith, l))
map_by f (x ∷ xs) (y ∷ ys) l h = λ i. h 0 x y refl refl i ∷ map_by f xs ys (omega (arith, l)) (λ k v w e f. h (suc k) v w e f) i

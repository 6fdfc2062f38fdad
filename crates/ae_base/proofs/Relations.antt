-- Lists related place by place.
use Rattle.std.specs.Prelude.{ℕ, zero, suc, ◌+◌, ◌<◌, ◌≤◌, ◌≡◌, List, [], ◌∷◌, ◌++◌, map, length, slice_get, Some}
use Rattle.std.proofs.Common.{refl, sym, ap, ◌∙◌, subst, arith, get_or, take, take_all}
use Rattle.std.proofs.lemmas.List.{take_more}
use Rattle.std.proofs.lemmas.Option.{none-some, same_Some}
use Rattle.ae_base.specs.Relations.{Pairwise}

pub pairwise_length : {A B : Type 0} (R : A → B → Type 0) (xs : List A) (ys : List B) → Pairwise R xs ys → length xs ≡ length ys
pairwise_length R [] [] a = refl
pairwise_length R [] (y ∷ ys) a = absurd a
pairwise_length R (x ∷ xs) [] a = absurd a
pairwise_length R (x ∷ xs) (y ∷ ys) a = ap suc (pairwise_length R xs ys a.1)

pub pairwise_weaker : {A B : Type 0} (R S : A → B → Type 0) → ((x : A) (y : B) → R x y → S x y) → (xs : List A) (ys : List B) → Pairwise R xs ys → Pairwise S xs ys
pairwise_weaker R S f [] [] a = tt
pairwise_weaker R S f [] (y ∷ ys) a = absurd a
pairwise_weaker R S f (x ∷ xs) [] a = absurd a
pairwise_weaker R S f (x ∷ xs) (y ∷ ys) a = (f x y a.0, pairwise_weaker R S f xs ys a.1)

-- a relation that each value has to itself
pub pairwise_itself : {A : Type 0} (R : A → A → Type 0) → ((x : A) → R x x) → (xs : List A) → Pairwise R xs xs
pairwise_itself R f [] = tt
pairwise_itself R f (x ∷ xs) = (f x, pairwise_itself R f xs)

-- equal after a change of each
pub pairwise_maps : {A B C : Type 0} (f : A → C) (g : B → C) (xs : List A) (ys : List B) → Pairwise (λ x y. f x ≡ g y) xs ys → map f xs ≡ map g ys
pairwise_maps f g [] [] a = refl
pairwise_maps f g [] (y ∷ ys) a = absurd a
pairwise_maps f g (x ∷ xs) [] a = absurd a
pairwise_maps f g (x ∷ xs) (y ∷ ys) a = λ i. a.0 i ∷ pairwise_maps f g xs ys a.1 i

-- ---- one more
pub pairwise_push : {A B : Type 0} (R : A → B → Type 0) (xs : List A) (ys : List B) (x : A) (y : B) → Pairwise R xs ys → R x y → Pairwise R (xs ++ x ∷ []) (ys ++ y ∷ [])
pairwise_push R [] [] x y a r = (r, tt)
pairwise_push R [] (w ∷ ys) x y a r = absurd a
pairwise_push R (v ∷ xs) [] x y a r = absurd a
pairwise_push R (v ∷ xs) (w ∷ ys) x y a r = (a.0, pairwise_push R xs ys x y a.1 r)

pub pairwise_more : {A B : Type 0} (R : A → B → Type 0) (xs : List A) (ys : List B) (i : ℕ) (x : A) (y : B) → i < length xs → x ≡ get_or xs i x → Pairwise R (take i xs) ys → R x y → Pairwise R (take (i + 1) xs) (ys ++ y ∷ [])
pairwise_more R xs ys i x y lt e all r =
    subst (λ zs. Pairwise R zs (ys ++ y ∷ [])) (ap (λ z. take i xs ++ z ∷ []) e ∙ sym (take_more xs i x lt)) (pairwise_push R (take i xs) ys x y all r)

pub pairwise_all : {A B : Type 0} (R : A → B → Type 0) (xs : List A) (ys : List B) (i : ℕ) → length xs ≤ i → Pairwise R (take i xs) ys → Pairwise R xs ys
pairwise_all R xs ys i le all = subst (λ zs. Pairwise R zs ys) (take_all i xs le) all

-- ---- places
-- the partner of the value at a place
pub pairwise_get : {A B : Type 0} (R : A → B → Type 0) (xs : List A) (ys : List B) (k : ℕ) (x : A) → Pairwise R xs ys → slice_get xs k ≡ Some x → (y : B) × R x y × (slice_get ys k ≡ Some y)
pairwise_get R [] ys k x all e = absurd (none-some x e)
pairwise_get R (v ∷ xs) [] k x all e = absurd all
pairwise_get R (v ∷ xs) (w ∷ ys) zero x all e = (w, subst (λ z. R z w) (same_Some v x e) all.0, refl)
pairwise_get R (v ∷ xs) (w ∷ ys) (suc k) x all e = pairwise_get R xs ys k x all.1 e

pub pairwise_back : {A B : Type 0} (R : A → B → Type 0) (xs : List A) (ys : List B) (k : ℕ) (y : B) → Pairwise R xs ys → slice_get ys k ≡ Some y → (x : A) × R x y × (slice_get xs k ≡ Some x)
pairwise_back R xs [] k y all e = absurd (none-some y e)
pairwise_back R [] (w ∷ ys) k y all e = absurd all
pairwise_back R (v ∷ xs) (w ∷ ys) zero y all e = (v, subst (R v) (same_Some w y e) all.0, refl)
pairwise_back R (v ∷ xs) (w ∷ ys) (suc k) y all e = pairwise_back R xs ys k y all.1 e

-- the same for a place that a loop has read
pub pairwise_at : {A B : Type 0} (R : A → B → Type 0) (xs : List A) (ys : List B) (i : ℕ) (x : A) → i < length xs → x ≡ get_or xs i x → Pairwise R xs ys → (y : B) × R x y × (slice_get ys i ≡ Some y)
pairwise_at R [] ys i x lt e all = absurd (omega (arith, lt))
pairwise_at R (v ∷ xs) [] i x lt e all = absurd all
pairwise_at R (v ∷ xs) (w ∷ ys) zero x lt e all = (w, subst (λ z. R z w) (sym e) all.0, refl)
pairwise_at R (v ∷ xs) (w ∷ ys) (suc i) x lt e all = pairwise_at R xs ys i x (omega (arith, lt)) e all.1

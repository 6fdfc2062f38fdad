-- Lists in which no value stands twice, by places; and lists of numbers that all are within their limits.
use Rattle.std.specs.Prelude.{ℕ, zero, suc, ◌+◌, ◌<◌, ◌≡◌, ◌≢◌, List, [], ◌∷◌, ◌++◌, length, slice_get, Some}
use Rattle.std.specs.List.{AllByRecursion, AllPairs, flat_map}
use Rattle.std.proofs.Common.{refl, sym, ap, ◌∙◌, arith, inl, inr}
use Rattle.std.proofs.lemmas.Option.{same_Some, none-some, slice_get_within}
use Rattle.std.proofs.lemmas.Bool.{cases_lt}
use Rattle.ae_base.proofs.ListFacts.{get_append, get_after, get_read}
use Rattle.ae_base.proofs.AllOf.{all_front, all_back}

-- no value stands at two places
abbrev pub StandsOnce : {X : Type 0} → List X → Type 0
StandsOnce {X} xs = (i j : ℕ) (x : X) → slice_get xs i ≡ Some x → slice_get xs j ≡ Some x → i ≡ j

module _ {X : Type 0} (xs : List X) (d : AllPairs (λ x y. x ≢ y) xs) where
  not_below : (i j : ℕ) (x : X) → slice_get xs i ≡ Some x → slice_get xs j ≡ Some x → i < j → ⊥
  not_below i j x a b l = d i j x l (slice_get_within xs j x b) ((get_read xs i x x a).0 ∙ sym (get_read xs j x x b).0)

  pub stands_once : StandsOnce xs
  stands_once i j x a b = elim (cases_lt i j) [
    | inl l ↦ absurd (not_below i j x a b l)
    | inr g ↦ elim (cases_lt j i) [ inl l ↦ absurd (not_below j i x b a l) | inr h ↦ omega (arith, g, h) ]
  ]

pub once_front : {X : Type 0} (xs ys : List X) → StandsOnce (xs ++ ys) → StandsOnce xs
once_front xs ys d i j x a b = d i j x (get_append xs ys i x a) (get_append xs ys j x b)

pub once_back : {X : Type 0} (xs ys : List X) → StandsOnce (xs ++ ys) → StandsOnce ys
once_back xs ys d i j x a b = let e = d (length xs + i) (length xs + j) x (get_after xs ys i ∙ a) (get_after xs ys j ∙ b) in omega (arith, e)

pub once_across : {X : Type 0} (xs ys : List X) → StandsOnce (xs ++ ys) → (i j : ℕ) (x : X) → slice_get xs i ≡ Some x → slice_get ys j ≡ Some x → ⊥
once_across xs ys d i j x a b = let e = d i (length xs + j) x (get_append xs ys i x a) (get_after xs ys j ∙ b) in let l = slice_get_within xs i x a in omega (arith, e, l)

-- a value of a part stands in the whole
pub part_stands : {X Y : Type 0} (f : X → List Y) (xs : List X) (n p : ℕ) (x : X) (y : Y) → slice_get xs n ≡ Some x → slice_get (f x) p ≡ Some y → (i : ℕ) × (slice_get (flat_map f xs) i ≡ Some y)
part_stands f [] n p x y a b = absurd (none-some x a)
part_stands f (z ∷ xs) zero p x y a b = let e = same_Some z x a in (p, get_append (f z) (flat_map f xs) p y (ap (λ w. slice_get (f w) p) e ∙ b))
part_stands f (z ∷ xs) (suc n) p x y a b = let r = part_stands f xs n p x y a b in (length (f z) + r.0, get_after (f z) (flat_map f xs) r.0 ∙ r.1)

-- a value that stands in one part alone tells the part and the place in it
pub parts_once : {X Y : Type 0} (f : X → List Y) (xs : List X) → StandsOnce (flat_map f xs) → (n m p q : ℕ) (x z : X) (y : Y) → slice_get xs n ≡ Some x → slice_get xs m ≡ Some z → slice_get (f x) p ≡ Some y → slice_get (f z) q ≡ Some y
    → (n ≡ m) × (p ≡ q)
parts_once f [] d n m p q x z y a b u v = absurd (none-some x a)
parts_once f (w ∷ xs) d zero zero p q x z y a b u v =
    let e = same_Some w x a in let g = same_Some w z b in
    (refl, once_front (f w) (flat_map f xs) d p q y (ap (λ t. slice_get (f t) p) e ∙ u) (ap (λ t. slice_get (f t) q) g ∙ v))
parts_once f (w ∷ xs) d zero (suc m) p q x z y a b u v =
    let r = part_stands f xs m q z y b v in
    absurd (once_across (f w) (flat_map f xs) d p r.0 y (ap (λ t. slice_get (f t) p) (same_Some w x a) ∙ u) r.1)
parts_once f (w ∷ xs) d (suc n) zero p q x z y a b u v =
    let r = part_stands f xs n p x y a u in
    absurd (once_across (f w) (flat_map f xs) d q r.0 y (ap (λ t. slice_get (f t) q) (same_Some w z b) ∙ v) r.1)
parts_once f (w ∷ xs) d (suc n) (suc m) p q x z y a b u v =
    let r = parts_once f xs (once_back (f w) (flat_map f xs) d) n m p q x z y a b u v in (ap suc r.0, r.1)

-- ---- what holds of each value of the parts holds part by part
pub all_parts : {X Y : Type 0} (P : Y → Type 0) (f : X → List Y) (xs : List X) → AllByRecursion P (flat_map f xs) → AllByRecursion (λ x. AllByRecursion P (f x)) xs
all_parts P f [] h = tt
all_parts P f (x ∷ xs) h = (all_front P (f x) (flat_map f xs) h, all_parts P f xs (all_back P (f x) (flat_map f xs) h))

-- Lists and their places. The library has lemmas.List (map-append, map_push, map-id, append_assoc, append-nil, reverse-append,
-- length-append, length-reverse, take_more, take_all, take-append-le, drop_all, get_or_default, set-get_or, get_or_append_left, ..),
-- lemmas.List.Folds (list_all-append, list_all-map, list_any-append, ..), lemmas.Option (slice_get-map, ..) and Math.Seq.
use Rattle.std.specs.Prelude.{ℕ, zero, suc, ◌+◌, ◌<◌, ◌≡◌, Bool, true, ◌||◌, nat_eq, ◌⊎◌, List, [], ◌∷◌, ◌++◌, map, length, reverse, slice_get, Some}
use Rattle.std.specs.List.{list_all, list_any}
use Rattle.std.proofs.Common.{refl, sym, ap, ◌∙◌, inl, inr, arith, get_or, take, drop}
use Rattle.std.proofs.lemmas.Bool.{and_parts, and_from, eqb-true}
use Rattle.std.proofs.lemmas.Option.{none-some, same_Some, slice_get-map, slice_get-get_or, get_or_from_slice_get, slice_get_within}
use Rattle.std.specs.Option.{option_map}
use Rattle.std.proofs.lemmas.List.{map-append, reverse-append}
use Rattle.ae_base.proofs.Tests.{by_bool, by_either, false_true}

-- ---- the first and the rest
pub cons_head : {X : Type 0} (x y : X) (xs ys : List X) → x ∷ xs ≡ y ∷ ys → x ≡ y
cons_head x y xs ys e = same_Some x y (ap (λ zs. slice_get zs 0) e)

pub cons_tail : {X : Type 0} (x y : X) (xs ys : List X) → x ∷ xs ≡ y ∷ ys → xs ≡ ys
cons_tail x y xs ys e = ap (drop 1) e

pub cons_same : {X : Type 0} (x y : X) (xs ys : List X) → x ≡ y → xs ≡ ys → x ∷ xs ≡ y ∷ ys
cons_same x y xs ys p q = λ i. p i ∷ q i

pub empty_parts : {X : Type 0} (xs ys : List X) → xs ++ ys ≡ [] → (xs ≡ []) × (ys ≡ [])
empty_parts [] ys e = (refl, e)
empty_parts (x ∷ xs) ys e = absurd (let z : ⊥ = cc e in z)

-- ---- maps
pub map_map : {X Y Z : Type 0} (f : X → Y) (g : Y → Z) (xs : List X) → map g (map f xs) ≡ map (λ x. g (f x)) xs
map_map f g [] = refl
map_map f g (x ∷ xs) = ap (λ zs. g (f x) ∷ zs) (map_map f g xs)

pub map_reverse : {X Y : Type 0} (f : X → Y) (xs : List X) → map f (reverse xs) ≡ reverse (map f xs)
map_reverse f [] = refl
map_reverse f (x ∷ xs) =
    ap (map f) (reverse-append (x ∷ []) xs) ∙ map-append f (reverse xs) (x ∷ []) ∙ ap (λ ys. ys ++ f x ∷ []) (map_reverse f xs) ∙ sym (reverse-append (f x ∷ []) (map f xs))

-- ---- places
pub value_at : {X : Type 0} (xs : List X) (i : ℕ) → i < length xs → (x : X) × (slice_get xs i ≡ Some x)
value_at [] i l = absurd (omega (arith, l))
value_at (x ∷ xs) i l = (get_or (x ∷ xs) i x, slice_get-get_or (x ∷ xs) i x l)

pub get_map : {X Y : Type 0} (f : X → Y) (xs : List X) (k : ℕ) (x : X) → slice_get xs k ≡ Some x → slice_get (map f xs) k ≡ Some (f x)
get_map f xs k x e = slice_get-map f xs k ∙ ap (option_map f) e

-- the place of a number that is among those of a list
pub number_at : (ns : List ℕ) (n : ℕ) → list_any (nat_eq n) ns ≡ true → (k : ℕ) × (slice_get ns k ≡ Some n)
number_at [] n e = false_true e
number_at (m ∷ ns) n e =
    by_bool (nat_eq n m) (λ t. (0, ap Some (sym (eqb-true n m t))))
    (λ f. let x = number_at ns n (sym (ap (λ b. b || list_any (nat_eq n) ns) f) ∙ e) in (suc x.0, x.1))

-- a place of the first of two lists
pub get_before : {X : Type 0} (xs ys : List X) (i : ℕ) → i < length xs → slice_get (xs ++ ys) i ≡ slice_get xs i
get_before [] ys i l = absurd (omega (arith, l))
get_before (x ∷ xs) ys zero l = refl
get_before (x ∷ xs) ys (suc i) l = get_before xs ys i (omega (arith, l))

pub get_append : {X : Type 0} (xs ys : List X) (i : ℕ) (x : X) → slice_get xs i ≡ Some x → slice_get (xs ++ ys) i ≡ Some x
get_append xs ys i x e = get_before xs ys i (slice_get_within xs i x e) ∙ e

-- a place of the second
pub get_after : {X : Type 0} (xs ys : List X) (k : ℕ) → slice_get (xs ++ ys) (length xs + k) ≡ slice_get ys k
get_after [] ys k = ap (slice_get ys) (omega arith)
get_after (x ∷ xs) ys k = ap (slice_get (x ∷ xs ++ ys)) (let e : suc (length xs) + k ≡ suc (length xs + k) = omega arith in e) ∙ get_after xs ys k

-- the place where they meet
pub get_seam : {X : Type 0} (xs ys : List X) (x : X) → slice_get (xs ++ x ∷ ys) (length xs) ≡ Some x
get_seam xs ys x = ap (slice_get (xs ++ x ∷ ys)) (let e : length xs ≡ length xs + 0 = omega arith in e) ∙ get_after xs (x ∷ ys) 0

-- a place of a list with one value more: one before, or the last
pub last_or_before : {X : Type 0} (xs : List X) (x : X) (k : ℕ) (y : X) → slice_get (xs ++ x ∷ []) k ≡ Some y → (slice_get xs k ≡ Some y) ⊎ (x ≡ y)
last_or_before [] x zero y e = inr (same_Some x y e)
last_or_before [] x (suc k) y e = inl e
last_or_before (z ∷ xs) x zero y e = inl e
last_or_before (z ∷ xs) x (suc k) y e = last_or_before xs x k y e

-- a place of the front
pub get_front : {X : Type 0} (xs : List X) (i k : ℕ) (x : X) → slice_get (take i xs) k ≡ Some x → (slice_get xs k ≡ Some x) × (k < i)
get_front [] zero k x e = absurd (none-some x e)
get_front [] (suc i) k x e = absurd (none-some x e)
get_front (y ∷ xs) zero k x e = absurd (none-some x e)
get_front (y ∷ xs) (suc i) zero x e = (e, omega arith)
get_front (y ∷ xs) (suc i) (suc k) x e = let r = get_front xs i k x e in (r.0, omega (arith, r.1))

-- the value at a place, at any default, and that the place is one of the list
pub get_read : {X : Type 0} (xs : List X) (k : ℕ) (x d : X) → slice_get xs k ≡ Some x → (get_or xs k d ≡ x) × (k < length xs)
get_read xs k x d e = (get_or_from_slice_get xs k x d e, slice_get_within xs k x e)

-- ---- tests of all and of some
-- what passes both tests, where one holds of all and one of some
pub any_of_all : {X : Type 0} {P : Type 0} (p q : X → Bool) → ((x : X) → p x ≡ true → q x ≡ true → P) → (xs : List X) → list_any p xs ≡ true → list_all q xs ≡ true → P
any_of_all p q f [] a b = false_true a
any_of_all p q f (x ∷ xs) a b =
    let both = and_parts (q x) (list_all q xs) b in
    by_either (p x) (list_any p xs) a (λ h. f x h both.0) (λ h. any_of_all p q f xs h both.1)

pub list_all_at : {X : Type 0} (p : X → Bool) (xs : List X) (k : ℕ) (x : X) → list_all p xs ≡ true → slice_get xs k ≡ Some x → p x ≡ true
list_all_at p [] k x a e = absurd (none-some x e)
list_all_at p (y ∷ ys) zero x a e = ap p (sym (same_Some y x e)) ∙ (and_parts (p y) (list_all p ys) a).0
list_all_at p (y ∷ ys) (suc k) x a e = list_all_at p ys k x (and_parts (p y) (list_all p ys) a).1 e

pub list_all_weaker : {X : Type 0} (p q : X → Bool) → ((x : X) → p x ≡ true → q x ≡ true) → (xs : List X) → list_all p xs ≡ true → list_all q xs ≡ true
list_all_weaker p q f [] a = refl
list_all_weaker p q f (x ∷ xs) a = let both = and_parts (p x) (list_all p xs) a in and_from (q x) (list_all q xs) (f x both.0) (list_all_weaker p q f xs both.1)

-- the same after a change of each value
pub list_all_moved : {X Y : Type 0} (p : X → Bool) (q : Y → Bool) (g : X → Y) → ((x : X) → p x ≡ true → q (g x) ≡ true) → (xs : List X) → list_all p xs ≡ true → list_all q (map g xs) ≡ true
list_all_moved p q g f [] a = refl
list_all_moved p q g f (x ∷ xs) a = let both = and_parts (p x) (list_all p xs) a in and_from (q (g x)) (list_all q (map g xs)) (f x both.0) (list_all_moved p q g f xs both.1)

pub list_all_both : {X : Type 0} (p q r : X → Bool) → ((x : X) → p x ≡ true → q x ≡ true → r x ≡ true) → (xs : List X) → list_all p xs ≡ true → list_all q xs ≡ true → list_all r xs ≡ true
list_all_both p q r f [] a b = refl
list_all_both p q r f (x ∷ xs) a b =
    let one = and_parts (p x) (list_all p xs) a in
    let two = and_parts (q x) (list_all q xs) b in
    and_from (r x) (list_all r xs) (f x one.0 two.0) (list_all_both p q r f xs one.1 two.1)

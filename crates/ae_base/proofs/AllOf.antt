-- What holds of each value of a list, by recursion over it (`AllByRecursion`). For `All`, which speaks of places, the library has
-- lemmas.List.Elements, with `All-from_recursion` and `recursion_from_All` between the two.
use Rattle.std.specs.Prelude.{ℕ, zero, suc, ◌-◌, ◌<◌, ◌≡◌, Bool, true, List, [], ◌∷◌, ◌++◌, map, length, reverse, slice_get, Some}
use Rattle.std.specs.List.{AllByRecursion, list_all}
use Rattle.std.proofs.Common.{refl, sym, ap, ◌∙◌, subst, arith}
use Rattle.std.proofs.lemmas.Bool.{and_parts, and_from}
use Rattle.std.proofs.lemmas.List.{get_or-reverse, reverse-append}
use Rattle.std.proofs.lemmas.Option.{none-some, same_Some, slice_get-get_or, get_or_from_slice_get}

pub all_always : {X : Type 0} (P : X → Type 0) → ((x : X) → P x) → (xs : List X) → AllByRecursion P xs
all_always P f [] = tt
all_always P f (x ∷ xs) = (f x, all_always P f xs)

pub all_weaker : {X : Type 0} (P Q : X → Type 0) → ((x : X) → P x → Q x) → (xs : List X) → AllByRecursion P xs → AllByRecursion Q xs
all_weaker P Q f [] a = tt
all_weaker P Q f (x ∷ xs) a = (f x a.0, all_weaker P Q f xs a.1)

pub all_both : {X : Type 0} (P Q R : X → Type 0) → ((x : X) → P x → Q x → R x) → (xs : List X) → AllByRecursion P xs → AllByRecursion Q xs → AllByRecursion R xs
all_both P Q R f [] a b = tt
all_both P Q R f (x ∷ xs) a b = (f x a.0 b.0, all_both P Q R f xs a.1 b.1)

-- ---- lists together
pub all_append : {X : Type 0} (P : X → Type 0) (xs ys : List X) → AllByRecursion P xs → AllByRecursion P ys → AllByRecursion P (xs ++ ys)
all_append P [] ys a b = b
all_append P (x ∷ xs) ys a b = (a.0, all_append P xs ys a.1 b)

pub all_front : {X : Type 0} (P : X → Type 0) (xs ys : List X) → AllByRecursion P (xs ++ ys) → AllByRecursion P xs
all_front P [] ys a = tt
all_front P (x ∷ xs) ys a = (a.0, all_front P xs ys a.1)

pub all_back : {X : Type 0} (P : X → Type 0) (xs ys : List X) → AllByRecursion P (xs ++ ys) → AllByRecursion P ys
all_back P [] ys a = a
all_back P (x ∷ xs) ys a = all_back P xs ys a.1

pub all_reversed : {X : Type 0} (P : X → Type 0) (xs : List X) → AllByRecursion P xs → AllByRecursion P (reverse xs)
all_reversed P [] a = tt
all_reversed P (x ∷ xs) a = subst (AllByRecursion P) (sym (reverse-append (x ∷ []) xs)) (all_append P (reverse xs) (x ∷ []) (all_reversed P xs a.1) (a.0, tt))

pub all_push : {X : Type 0} (P : X → Type 0) (xs : List X) (x : X) → AllByRecursion P xs → P x → AllByRecursion P (xs ++ x ∷ [])
all_push P xs x a p = all_append P xs (x ∷ []) a (p, tt)

pub all_of_map : {X Y : Type 0} (P : Y → Type 0) (f : X → Y) (xs : List X) → AllByRecursion (λ x. P (f x)) xs → AllByRecursion P (map f xs)
all_of_map P f [] a = tt
all_of_map P f (x ∷ xs) a = (a.0, all_of_map P f xs a.1)

pub all_before_map : {X Y : Type 0} (P : Y → Type 0) (f : X → Y) (xs : List X) → AllByRecursion P (map f xs) → AllByRecursion (λ x. P (f x)) xs
all_before_map P f [] a = tt
all_before_map P f (x ∷ xs) a = (a.0, all_before_map P f xs a.1)

pub map_same : {X Y : Type 0} (f g : X → Y) (xs : List X) → AllByRecursion (λ x. f x ≡ g x) xs → map f xs ≡ map g xs
map_same f g [] a = refl
map_same f g (x ∷ xs) a = λ i. a.0 i ∷ map_same f g xs a.1 i

-- ---- places
pub all_at : {X : Type 0} (P : X → Type 0) (xs : List X) (k : ℕ) (x : X) → AllByRecursion P xs → slice_get xs k ≡ Some x → P x
all_at P [] k x a e = absurd (none-some x e)
all_at P (y ∷ ys) zero x a e = subst P (same_Some y x e) a.0
all_at P (y ∷ ys) (suc k) x a e = all_at P ys k x a.1 e

-- a place counted from the last
pub all_at_reverse : {X : Type 0} (P : X → Type 0) (xs : List X) (k : ℕ) (x : X) → AllByRecursion P xs → k < length xs → slice_get (reverse xs) k ≡ Some x → P x
all_at_reverse P xs k x a l e =
    all_at P xs (length xs - 1 - k) x a
    (slice_get-get_or xs (length xs - 1 - k) x (omega (arith, l)) ∙ ap Some (sym (get_or-reverse xs k x l) ∙ get_or_from_slice_get (reverse xs) k x x e))

pub all_from_places : {X : Type 0} (P : X → Type 0) (xs : List X) → ((k : ℕ) (x : X) → slice_get xs k ≡ Some x → P x) → AllByRecursion P xs
all_from_places P [] f = tt
all_from_places P (x ∷ xs) f = (f 0 x refl, all_from_places P xs (λ k y e. f (suc k) y e))

-- ---- tests of all
pub all_of_test : {X : Type 0} (p : X → Bool) (P : X → Type 0) → ((x : X) → p x ≡ true → P x) → (xs : List X) → list_all p xs ≡ true → AllByRecursion P xs
all_of_test p P f [] e = tt
all_of_test p P f (x ∷ xs) e = let both = and_parts (p x) (list_all p xs) e in (f x both.0, all_of_test p P f xs both.1)

pub test_of_all : {X : Type 0} (P : X → Type 0) (p : X → Bool) → ((x : X) → P x → p x ≡ true) → (xs : List X) → AllByRecursion P xs → list_all p xs ≡ true
test_of_all P p f [] a = refl
test_of_all P p f (x ∷ xs) a = and_from (p x) (list_all p xs) (f x a.0) (test_of_all P p f xs a.1)

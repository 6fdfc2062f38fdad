-- Laws of equations that follow, and of being the same up to them.
use Rattle.std.proofs.Common.{◌≡◌, ℕ, List, [], ◌∷◌, ◌++◌, map, length, refl, ap, sym, ◌∙◌, subst, arith, Option, Some, None, append_assoc, length-append}
use Rattle.std.proofs.lemmas.List.{length-map}
use Rattle.ae_core.specs.declared.terms.Sort.{Sort, Named}
use Rattle.ae_types.specs.declared.pairs.SortPair.{SortPair}
use Rattle.ae_types.specs.Substitutions.{put}
use Rattle.ae_types.specs.Clashes.{Follows, is_given, reflexive, symmetric, transitive, congruent, injective, IsPair}
use Rattle.ae_types.specs.Inner.Graphs.{Same}
use Rattle.ae_types.proofs.SortLaws.{put_named, named_parts}

pub same_refl : (e : Option (List SortPair)) (s : Sort) → Same e s s
same_refl None s = refl
same_refl (Some q) s = reflexive

pub same_eq : (e : Option (List SortPair)) (s t : Sort) → s ≡ t → Same e s t
same_eq e s t h = subst (Same e s) h (same_refl e s)

pub same_sym : (e : Option (List SortPair)) (s t : Sort) → Same e s t → Same e t s
same_sym None s t h = sym h
same_sym (Some q) s t h = symmetric h

pub same_trans : (e : Option (List SortPair)) (s m t : Sort) → Same e s m → Same e m t → Same e s t
same_trans None s m t h k = h ∙ k
same_trans (Some q) s m t h k = transitive h k

-- sorts of one type, with as many arguments, are the same exactly where their arguments are
abbrev pub SameAll : Option (List SortPair) → List Sort → List Sort → Type 0
SameAll e [] ys = Unit {0}
SameAll e (x ∷ xs) [] = Unit {0}
SameAll e (x ∷ xs) (y ∷ ys) = Same e x y × SameAll e xs ys

follow_inside : (q : List SortPair) (h : ℕ) (before xs ys : List Sort) → length xs ≡ length ys → SameAll (Some q) xs ys
    → Follows (IsPair q) (Named h (before ++ xs)) (Named h (before ++ ys))
follow_inside q h before [] [] l a = reflexive
follow_inside q h before [] (y ∷ ys) l a = absurd (omega arith)
follow_inside q h before (x ∷ xs) [] l a = absurd (omega arith)
follow_inside q h before (x ∷ xs) (y ∷ ys) l a =
    transitive (congruent h before xs a.0)
    (subst (λ zs. Follows (IsPair q) (Named h zs) (Named h (before ++ y ∷ ys))) (append_assoc before (y ∷ []) xs)
    (subst (λ zs. Follows (IsPair q) (Named h ((before ++ y ∷ []) ++ xs)) (Named h zs)) (append_assoc before (y ∷ []) ys)
    (follow_inside q h (before ++ y ∷ []) xs ys (omega arith) a.1)))

all_eq : (xs ys : List Sort) → length xs ≡ length ys → SameAll None xs ys → xs ≡ ys
all_eq [] [] l a = refl
all_eq [] (y ∷ ys) l a = absurd (omega arith)
all_eq (x ∷ xs) [] l a = absurd (omega arith)
all_eq (x ∷ xs) (y ∷ ys) l a = ap (λ z. z ∷ xs) a.0 ∙ ap (λ zs. y ∷ zs) (all_eq xs ys (omega arith) a.1)

pub same_named : (e : Option (List SortPair)) (h : ℕ) (xs ys : List Sort) → length xs ≡ length ys → SameAll e xs ys → Same e (Named h xs) (Named h ys)
same_named None h xs ys l a = ap (Named h) (all_eq xs ys l a)
same_named (Some q) h xs ys l a = follow_inside q h [] xs ys l a

eq_all : (xs ys : List Sort) → xs ≡ ys → SameAll None xs ys
eq_all [] ys e = tt
eq_all (x ∷ xs) [] e = tt
eq_all (x ∷ xs) (y ∷ ys) e = let a : x ≡ y = cc in let b : xs ≡ ys = cc in (a, eq_all xs ys b)

follow_all : (q : List SortPair) (h : ℕ) (before before' xs ys : List Sort) → length before ≡ length before' → length xs ≡ length ys
    → Follows (IsPair q) (Named h (before ++ xs)) (Named h (before' ++ ys)) → SameAll (Some q) xs ys
follow_all q h before before' [] ys b l a = tt
follow_all q h before before' (x ∷ xs) [] b l a = tt
follow_all q h before before' (x ∷ xs) (y ∷ ys) b l a =
    let m = length-append before (x ∷ []) in
    let n = length-append before' (y ∷ []) in (
      injective h before xs before' ys b (omega arith) a,
      follow_all q h (before ++ x ∷ []) (before' ++ y ∷ []) xs ys (omega arith) (omega arith)
          (subst (λ zs. Follows (IsPair q) (Named h zs) (Named h ((before' ++ y ∷ []) ++ ys))) (sym (append_assoc before (x ∷ []) xs))
          (subst (λ zs. Follows (IsPair q) (Named h (before ++ x ∷ xs)) (Named h zs)) (sym (append_assoc before' (y ∷ []) ys)) a)),
    )

pub same_parts : (e : Option (List SortPair)) (h : ℕ) (xs ys : List Sort) → length xs ≡ length ys → Same e (Named h xs) (Named h ys) → SameAll e xs ys
same_parts None h xs ys l a = eq_all xs ys (named_parts h h xs ys a).1
same_parts (Some q) h xs ys l a = follow_all q h [] [] xs ys refl l a

-- ---- what follows holds for each substitution for which the given equations do
pub map_before : (f : ℕ → Sort) (xs ys : List Sort) → map (put f) (xs ++ ys) ≡ map (put f) xs ++ map (put f) ys
map_before f [] ys = refl
map_before f (x ∷ xs) ys = ap (λ zs. put f x ∷ zs) (map_before f xs ys)

split_at : (xs ys us vs : List Sort) (s t : Sort) → length xs ≡ length ys → xs ++ s ∷ us ≡ ys ++ t ∷ vs → s ≡ t
split_at [] [] us vs s t l e = cc
split_at [] (y ∷ ys) us vs s t l e = absurd (omega arith)
split_at (x ∷ xs) [] us vs s t l e = absurd (omega arith)
split_at (x ∷ xs) (y ∷ ys) us vs s t l e = let q : xs ++ s ∷ us ≡ ys ++ t ∷ vs = cc in split_at xs ys us vs s t (omega arith) q

module _ (given : Sort → Sort → Type 0) (f : ℕ → Sort) (holds : (s t : Sort) → given s t → put f s ≡ put f t) where
  pub follows_holds : (s t : Sort) → Follows given s t → put f s ≡ put f t
  follows_holds s t (is_given h) = holds s t h
  follows_holds s t reflexive = refl
  follows_holds s t (symmetric h) = sym (follows_holds t s h)
  follows_holds s t (transitive {m = m} h k) = follows_holds s m h ∙ follows_holds m t k
  follows_holds s t (congruent {s = x} {t = y} h before after k) =
      put_named f h (before ++ x ∷ after) ∙ ap (Named h) (map_before f before (x ∷ after))
      ∙ ap (λ z. Named h (map (put f) before ++ z ∷ map (put f) after)) (follows_holds x y k)
      ∙ ap (Named h) (sym (map_before f before (y ∷ after))) ∙ sym (put_named f h (before ++ y ∷ after))
  follows_holds s t (injective h before after before' after' a b k) =
      let e = follows_holds (Named h (before ++ s ∷ after)) (Named h (before' ++ t ∷ after')) k in
      let p = (named_parts h h (map (put f) (before ++ s ∷ after)) (map (put f) (before' ++ t ∷ after'))
      (sym (put_named f h (before ++ s ∷ after)) ∙ e ∙ put_named f h (before' ++ t ∷ after'))).1 in
      split_at (map (put f) before) (map (put f) before') (map (put f) after) (map (put f) after') (put f s) (put f t)
      (length-map before (put f) ∙ a ∙ sym (length-map before' (put f)))
      (sym (map_before f before (s ∷ after)) ∙ p ∙ map_before f before' (t ∷ after'))

-- what follows from given equations follows from more
pub follows_more : (given more : Sort → Sort → Type 0) → ((s t : Sort) → given s t → Follows more s t) → (s t : Sort) → Follows given s t → Follows more s t
follows_more given more g s t (is_given h) = g s t h
follows_more given more g s t reflexive = reflexive
follows_more given more g s t (symmetric h) = symmetric (follows_more given more g t s h)
follows_more given more g s t (transitive {m = m} h k) = transitive (follows_more given more g s m h) (follows_more given more g m t k)
follows_more given more g s t (congruent {s = x} {t = y} h before after k) = congruent h before after (follows_more given more g x y k)
follows_more given more g s t (injective h before after before' after' a b k) =
    injective h before after before' after' a b (follows_more given more g (Named h (before ++ s ∷ after)) (Named h (before' ++ t ∷ after')) k)

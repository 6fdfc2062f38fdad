-- Enumerations whose variants have no fields: what a test says of each value of a list of them all holds of each value.
use Rattle.std.proofs.Common.{ℕ, zero, suc, ◌+◌, ◌<◌, Bool, true, ◌&&◌, cond, nat_eq, List, [], ◌∷◌, ◌≡◌, length, sym, ap, ◌∙◌, subst, arith, slice_index_or}
use Rattle.std.specs.List.{list_all}
use Rattle.std.specs.Str.{bytes_eq}
use Rattle.std.proofs.lemmas.Bool.{eqb-true, and_parts}
use denote.Enum.Declared.{Declared, tag_of}
use denote.Enum.Bare.{Bare, tag_one}

-- the values stand in the order of the variants, from the n-th on
abbrev pub in_order : (D : Declared) → ℕ → List D.D → Bool
in_order D n [] = true
in_order D n (x ∷ xs) = nat_eq (tag_of D x) n && in_order D (suc n) xs

-- these are all values, in the order of the variants
pub record AreAll (D : Declared) (xs : List D.D) : Type 0 where
  pub bare : Bare D.parts
  pub order : in_order D 0 xs ≡ true
  pub whole : (x : D.D) → tag_of D x < length xs

tag_at : (D : Declared) (n k : ℕ) (d : D.D) (xs : List D.D) → in_order D n xs ≡ true → k < length xs → tag_of D (slice_index_or xs k d) ≡ n + k
tag_at D n k d [] e l = absurd (omega arith)
tag_at D n zero d (x ∷ xs) e l = let t = eqb-true _ _ (and_parts (nat_eq (tag_of D x) n) (in_order D (suc n) xs) e).0 in omega (arith, t)
tag_at D n (suc k) d (x ∷ xs) e l = let t = tag_at D (suc n) k d xs (and_parts (nat_eq (tag_of D x) n) (in_order D (suc n) xs) e).1 (omega arith) in omega (arith, t)

pub at_tag : (D : Declared) (xs : List D.D) → AreAll D xs → (x d : D.D) → slice_index_or xs (tag_of D x) d ≡ x
at_tag D xs a x d = tag_one D a.bare _ _ (let t = tag_at D 0 (tag_of D x) d xs a.order (a.whole x) in omega (arith, t))

passes_at : {X : Type 0} (p : X → Bool) (k : ℕ) (d : X) (xs : List X) → list_all p xs ≡ true → k < length xs → p (slice_index_or xs k d) ≡ true
passes_at p k d [] e l = absurd (omega arith)
passes_at p zero d (x ∷ xs) e l = (and_parts (p x) (list_all p xs) e).0
passes_at p (suc k) d (x ∷ xs) e l = passes_at p k d xs (and_parts (p x) (list_all p xs) e).1 (omega arith)

pub each_passes : (D : Declared) (xs : List D.D) → AreAll D xs → (p : D.D → Bool) → list_all p xs ≡ true → (x : D.D) → p x ≡ true
each_passes D xs a p e x = subst (λ y. p y ≡ true) (at_tag D xs a x x) (passes_at p (tag_of D x) x xs e (a.whole x))

-- the place of the first value that is written so
abbrev pub place : {X : Type 0} → (X → List ℕ) → List ℕ → List X → ℕ
place bytes w [] = 0
place bytes w (x ∷ xs) = cond (bytes_eq w (bytes x)) 0 (suc (place bytes w xs))

-- two values that are written alike are one
pub one_spelling : (D : Declared) (xs : List D.D) → AreAll D xs → (bytes : D.D → List ℕ) → list_all (λ x. nat_eq (place bytes (bytes x) xs) (tag_of D x)) xs ≡ true → (x y : D.D) → bytes x ≡ bytes y → x ≡ y
one_spelling D xs a bytes e x y h =
    let at : (z : D.D) → place bytes (bytes z) xs ≡ tag_of D z = λ z. eqb-true _ _ (each_passes D xs a (λ z. nat_eq (place bytes (bytes z) xs) (tag_of D z)) e z) in
    tag_one D a.bare x y (sym (at x) ∙ ap (λ w. place bytes w xs) h ∙ at y)

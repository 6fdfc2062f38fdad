-- How far two lists of bytes are the same.
use Rattle.std.proofs.Common.{ℕ, zero, suc, ◌+◌, ◌≤◌, ◌<◌, ◌⊎◌, Bool, true, false, ◌&&◌, cond, nat_eq, nat_lt, max, List, [], ◌∷◌, ◌++◌, ◌≡◌, length, take, drop, refl, sym, ap, ◌∙◌, arith}
use mathlib.Core.Logic.{inl, inr}
use Rattle.std.proofs.Math.Nat.{le-max_left, le-max_right, max-eq_left, max-eq_right}
use Rattle.std.proofs.lemmas.List.{length-drop}
use Rattle.std.proofs.lemmas.Bool.{eqb-true, eq-eqb, ltb-true, ltb-false, false_from_ne_true}
use Rattle.ae_codes.specs.Names.{Listed}
use Rattle.ae_codes.specs.Numbers.{and_one, and_two, and_both}
use Rattle.ae_codes.specs.Tables.{begins}
use Rattle.ae_readers.specs.Readers.{common, most}

within_step : (b : Bool) (n m : ℕ) → n ≤ m → cond b (suc n) 0 ≤ suc m
within_step true n m h = omega arith
within_step false n m h = omega arith

pub common_within : (w bytes : List ℕ) → common w bytes ≤ length bytes
common_within [] bytes = omega arith
common_within (y ∷ w) [] = omega arith
common_within (y ∷ w) (x ∷ xs) = within_step (nat_eq x y) (common w xs) (length xs) (common_within w xs)

pub common_le : (w bytes : List ℕ) → common w bytes ≤ length w
common_le [] bytes = omega arith
common_le (y ∷ w) [] = omega arith
common_le (y ∷ w) (x ∷ xs) = within_step (nat_eq x y) (common w xs) (length w) (common_le w xs)

pub common_end : (w : List ℕ) → common w [] ≡ 0
common_end [] = refl
common_end (y ∷ w) = refl

take_step : (b : Bool) (x y n : ℕ) (w xs : List ℕ) → nat_eq x y ≡ b → take n w ≡ take n xs → take (cond b (suc n) 0) (y ∷ w) ≡ take (cond b (suc n) 0) (x ∷ xs)
take_step true x y n w xs t h = let s = eqb-true x y t in λ i. sym s i ∷ h i
take_step false x y n w xs t h = refl

pub common_take : (w bytes : List ℕ) → take (common w bytes) w ≡ take (common w bytes) bytes
common_take [] bytes = refl
common_take (y ∷ w) [] = refl
common_take (y ∷ w) (x ∷ xs) = take_step (nat_eq x y) x y (common w xs) w xs refl (common_take w xs)

pub same_byte : (x : ℕ) (n m : ℕ) → n ≡ cond (nat_eq x x) m 0 → n ≡ m
same_byte x n m e = e ∙ ap (λ b. cond b m 0) (eq-eqb x x refl)

-- behind the same bytes one more is the same
pub common_of : (p : List ℕ) (y : ℕ) (s t : List ℕ) → suc (length p) ≤ common ((p ++ y ∷ []) ++ s) (p ++ y ∷ t)
common_of [] y s t = let e = same_byte y (common (y ∷ s) (y ∷ t)) (suc (common s t)) refl in omega arith
common_of (x ∷ p) y s t =
    let ih = common_of p y s t in
    let e = same_byte x (common (((x ∷ p) ++ y ∷ []) ++ s) ((x ∷ p) ++ y ∷ t)) (suc (common ((p ++ y ∷ []) ++ s) (p ++ y ∷ t))) refl in
    omega arith

pub cut_at : (n : ℕ) (w : List ℕ) → n < length w → (x : ℕ) × (more : List ℕ) × (w ≡ take n w ++ x ∷ more)
cut_at n [] h = absurd (omega arith)
cut_at zero (x ∷ w) h = (x, w, refl)
cut_at (suc n) (x ∷ w) h = let k = cut_at n w (omega arith) in (k.0, k.1, ap (λ z. x ∷ z) k.2)

-- ---- a word begins the bytes where all of it is common
begins_step : (b : Bool) (x y : ℕ) (w xs : List ℕ) → nat_eq x y ≡ b → (common w xs ≡ length w → begins w xs ≡ true) → cond b (suc (common w xs)) 0 ≡ suc (length w) → nat_eq y x && begins w xs ≡ true
begins_step true x y w xs t ih h = and_both (nat_eq y x) (begins w xs) (eq-eqb y x (sym (eqb-true x y t))) (ih (omega arith))
begins_step false x y w xs t ih h = absurd (omega arith)

pub begins_by : (w bytes : List ℕ) → common w bytes ≡ length w → begins w bytes ≡ true
begins_by [] bytes e = refl
begins_by (y ∷ w) [] e = absurd (omega arith)
begins_by (y ∷ w) (x ∷ xs) e = begins_step (nat_eq x y) x y w xs refl (begins_by w xs) e

pub begins_common : (w bytes : List ℕ) → begins w bytes ≡ true → common w bytes ≡ length w
begins_common [] bytes e = refl
begins_common (y ∷ w) [] e = absurd cc
begins_common (y ∷ w) (x ∷ xs) e =
    let s = eqb-true y x (and_one (nat_eq y x) (begins w xs) e) in
    let z = eq-eqb x y (sym s) in
    ap (λ b. cond b (suc (common w xs)) 0) z ∙ ap suc (begins_common w xs (and_two (nat_eq y x) (begins w xs) e))

pub begins_not : (w bytes : List ℕ) → (common w bytes ≡ length w → ⊥) → begins w bytes ≡ false
begins_not w bytes n = false_from_ne_true (begins w bytes) (λ e. n (begins_common w bytes e))

pub begins_short : (w bytes : List ℕ) → begins w bytes ≡ false → common w bytes < length w
begins_short w bytes e =
    let l = common_le w bytes in
    let n : ¬ (common w bytes ≡ length w) = λ q. let t = begins_by w bytes q in absurd cc in
    less (common w bytes) (length w) l n
  where
    less : (a b : ℕ) → a ≤ b → ¬ (a ≡ b) → a < b
    less a b l n = omega (arith, n)

-- and is cut off
pub begins_cut : (w bytes : List ℕ) → begins w bytes ≡ true → bytes ≡ w ++ drop (length w) bytes
begins_cut [] bytes e = refl
begins_cut (y ∷ w) [] e = absurd cc
begins_cut (y ∷ w) (x ∷ xs) e =
    let s = eqb-true y x (and_one (nat_eq y x) (begins w xs) e) in
    let ih = begins_cut w xs (and_two (nat_eq y x) (begins w xs) e) in
    λ i. sym s i ∷ ih i

pub behind_fits : (text w : List ℕ) (at : ℕ) → 0 < length w → common w (drop at text) ≡ length w → at + length w ≤ length text
behind_fits text w at h e = let l = common_within w (drop at text) in let d = length-drop at text in omega arith

-- ---- the most that one of some words has in common with the bytes
pub max_is : (x y : ℕ) → (max x y ≡ x) ⊎ (max x y ≡ y)
max_is x y = go (nat_lt x y) refl
  where
    go : (b : Bool) → nat_lt x y ≡ b → (max x y ≡ x) ⊎ (max x y ≡ y)
    go true e = let l = ltb-true x y e in inr (max-eq_right (omega (arith, l)))
    go false e = inl (max-eq_left (ltb-false x y e))

pub most_least : (far : ℕ) (ws : List (List ℕ)) (bytes : List ℕ) → far ≤ most far ws bytes
most_least far [] bytes = omega arith
most_least far (w ∷ ws) bytes =
    let a = le-max_left far (common w bytes) in
    let b = most_least (max far (common w bytes)) ws bytes in omega arith

pub most_above : (far : ℕ) (ws : List (List ℕ)) (bytes u : List ℕ) → Listed ws u → common u bytes ≤ most far ws bytes
most_above far [] bytes u i = absurd i
most_above far (w ∷ ws) bytes u (inl e) =
    let a = le-max_right far (common w bytes) in
    let b = most_least (max far (common w bytes)) ws bytes in
    let s : common u bytes ≡ common w bytes = ap (λ z. common z bytes) e in omega arith
most_above far (w ∷ ws) bytes u (inr i) = most_above (max far (common w bytes)) ws bytes u i

abbrev pub SomeMost : ℕ → List (List ℕ) → List ℕ → ℕ → Type 0
SomeMost far ws bytes n = (n ≡ far) ⊎ ((u : List ℕ) × Listed ws u × (common u bytes ≡ n))

most_step : (far : ℕ) (w : List ℕ) (ws : List (List ℕ)) (bytes : List ℕ) (n : ℕ) → (max far (common w bytes) ≡ far) ⊎ (max far (common w bytes) ≡ common w bytes)
    → SomeMost (max far (common w bytes)) ws bytes n → SomeMost far (w ∷ ws) bytes n
most_step far w ws bytes n d (inr k) = inr (k.0, inr k.1, k.2)
most_step far w ws bytes n (inl a) (inl e) = inl (e ∙ a)
most_step far w ws bytes n (inr a) (inl e) = inr (w, inl refl, sym (e ∙ a))

pub most_found : (far : ℕ) (ws : List (List ℕ)) (bytes : List ℕ) → SomeMost far ws bytes (most far ws bytes)
most_found far [] bytes = inl refl
most_found far (w ∷ ws) bytes = most_step far w ws bytes (most far (w ∷ ws) bytes) (max_is far (common w bytes)) (most_found (max far (common w bytes)) ws bytes)

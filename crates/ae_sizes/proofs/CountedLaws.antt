-- Counting up to a ceiling: what is counted of counted numbers is what is counted of the numbers themselves.
use Rattle.std.proofs.Common.{arith, ◌≡◌, ◌∙◌, ℕ, zero, suc, ◌+◌, ◌*◌, ◌-◌, ◌<◌, ◌≤◌, ◌⊎◌, inl, inr, ⊎_elim, max, length, take, get_or, map, List, [], ◌∷◌, ◌++◌, refl, sym, ap}
use Rattle.std.proofs.lemmas.Bool.{cases_lt}
use Rattle.std.proofs.lemmas.Nat.{mul-le}
use Rattle.std.proofs.Math.Nat.{mul_comm}
use Rattle.std.proofs.lemmas.List.{take_more, map-append}
use Rattle.ae_elab.specs.Sizes.{Size, total, deepest}
use Rattle.ae_elab.specs.Weights.{Weight, pairs, above_pair, beside}
use Rattle.ae_sizes.specs.declared.weights.Size as code_size
use Rattle.ae_sizes.specs.declared.weights.Weight as code_weight
use Rattle.ae_sizes.specs.Inner.Counted.{capped, counted, counted_weight}
use Rattle.ae_sizes.specs.Inner.Weights.{inequalities, distinct_round}

-- ---- products
large : (x y : ℕ) → 1000001 ≤ x → capped (x * suc y) ≡ 1000001
large x y h = omega (arith, mul-le 1000001 1 x (suc y) h (omega arith))

both_large : (x z y : ℕ) → 1000001 ≤ x → 1000001 ≤ z → capped (x * y) ≡ capped (z * y)
both_large x z zero h k = omega arith
both_large x z (suc y) h k = large x y h ∙ sym (large z y k)

same_or_large : (a b : ℕ) → capped a ≡ capped b → (a ≡ b) ⊎ ((1000001 ≤ a) × (1000001 ≤ b))
same_or_large a b e = ⊎_elim (λ (h : a < 1000001). inl (omega arith)) (λ (h : 1000001 ≤ a). inr (h, omega arith)) (cases_lt a 1000001)

first : (a b c : ℕ) → capped a ≡ capped b → capped (a * c) ≡ capped (b * c)
first a b c e = ⊎_elim (λ (p : a ≡ b). ap (λ x. capped (x * c)) p) (λ (p : (1000001 ≤ a) × (1000001 ≤ b)). both_large a b c p.0 p.1) (same_or_large a b e)

-- the product of counted numbers
pub products : (a b : ℕ) → capped (capped a * capped b) ≡ capped (a * b)
products a b =
    first (capped a) a (capped b) (omega arith)
    ∙ ap capped (mul_comm a (capped b))
    ∙ first (capped b) b a (omega arith)
    ∙ ap capped (mul_comm b a)

-- ---- lists
pub total_both : (xs ys : List Size) → total (xs ++ ys) ≡ total xs + total ys
total_both [] ys = omega arith
total_both (x ∷ xs) ys = let e = total_both xs ys in omega arith

pub deepest_both : (xs ys : List Size) → deepest (xs ++ ys) ≡ max (deepest xs) (deepest ys)
deepest_both [] ys = omega arith
deepest_both (x ∷ xs) ys = let e = deepest_both xs ys in omega arith

-- the size of one more thing
pub map_next : {A : Type 0} (g : A → Size) (xs : List A) (i : ℕ) (x : A) → i < length xs → x ≡ get_or xs i x → map g (take i xs) ++ g x ∷ [] ≡ map g (take (i + 1) xs)
map_next g xs i x l e = sym (map-append g (take i xs) (x ∷ [])) ∙ ap (map g) (ap (λ y. take i xs ++ y ∷ []) e ∙ sym (take_more xs i x l))

-- ---- sizes and weights as they are counted
size_of_parts : ℕ → ℕ → code_size.Size
size_of_parts n l = record { nodes = n; levels = l }

pub as_size : (n l : ℕ) (s : Size) → n ≡ capped s.nodes → l ≡ capped s.levels → record { nodes = n; levels = l } ≡ counted s
unfolding size_of_parts
as_size n l s e f = ap (λ x. size_of_parts x l) e ∙ ap (λ x. size_of_parts (capped s.nodes) x) f

weight_of_parts : ℕ → ℕ → ℕ → ℕ → ℕ → ℕ → code_weight.Weight
weight_of_parts c n a b r k = record { cases = c; nodes = n; added = a; above = b; reach = r; conditions = k }

pub as_weight : (c n a b r k : ℕ) (w : Weight) → c ≡ capped w.cases → n ≡ capped w.nodes → a ≡ capped w.added → b ≡ capped w.above → r ≡ capped w.reach
    → k ≡ capped w.conditions → record { cases = c; nodes = n; added = a; above = b; reach = r; conditions = k } ≡ counted_weight w
unfolding weight_of_parts
as_weight c n a b r k w d e f g h i =
    ap (λ x. weight_of_parts x n a b r k) d
    ∙ ap (λ x. weight_of_parts (capped w.cases) x a b r k) e
    ∙ ap (λ x. weight_of_parts (capped w.cases) (capped w.nodes) x b r k) f
    ∙ ap (λ x. weight_of_parts (capped w.cases) (capped w.nodes) (capped w.added) x r k) g
    ∙ ap (λ x. weight_of_parts (capped w.cases) (capped w.nodes) (capped w.added) (capped w.above) x k) h
    ∙ ap (λ x. weight_of_parts (capped w.cases) (capped w.nodes) (capped w.added) (capped w.above) (capped w.reach) x) i

-- ---- `distinct`
pub pairs_next : (n : ℕ) → pairs (n + 1) ≡ n + pairs n
pairs_next n = ap pairs (let e : n + 1 ≡ suc n = omega arith in e)

pub above_is : (p i : ℕ) → 2 + above_pair p i ≡ 2 + (p - max 1 (i - 1))
above_is p zero = omega arith
above_is p (suc zero) = omega arith
above_is p (suc (suc i)) = omega arith

pub distinct_more : (n : ℕ) (w : Weight) → 2 ≤ n → distinct_round n w ≡ beside (inequalities (pairs n) ∷ []) w
distinct_more zero w h = absurd (omega arith)
distinct_more (suc zero) w h = absurd (omega arith)
distinct_more (suc (suc n)) w h = refl

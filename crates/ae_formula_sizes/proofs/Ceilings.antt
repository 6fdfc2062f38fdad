-- Counting up to a ceiling: what is counted of counted numbers is what is counted of the numbers themselves.
use Rattle.std.specs.Prelude.{ℕ, suc, ◌+◌, ◌<◌, ◌≡◌, max, List, [], ◌∷◌, ◌++◌, length, take, get_or, map}
use Rattle.std.proofs.Common.{sym, ap, ◌∙◌, arith}
use Rattle.std.proofs.lemmas.List.{take_more, map-append}
use Rattle.ae_journal.specs.Sizes.{joined}
use Rattle.ae_formula_sizes.specs.declared.counting.Size.{Size}
use Rattle.ae_formula_sizes.specs.Inner.Counted.{both, capped, counted, leaf, round, size, sum}

pub sizes_same : (n l m k : ℕ) → n ≡ m → l ≡ k → size n l ≡ size m k
sizes_same n l m k e f = λ i. size (e i) (f i)

-- numbers that are the same are counted alike
pub counted_same : (n l m k : ℕ) → n ≡ m → l ≡ k → counted n l ≡ counted m k
counted_same n l m k e f = λ i. counted (e i) (f i)

pub both_counted : (m k n l : ℕ) → both (counted m k) (counted n l) ≡ counted (m + n) (max k l)
both_counted m k n l = sizes_same (capped (capped m + capped n)) (max (capped k) (capped l)) (capped (m + n)) (capped (max k l)) (omega arith) (omega arith)

round_counted : (n l : ℕ) → round (counted n l) ≡ counted (suc n) (suc l)
round_counted n l = sizes_same (capped (capped n + 1)) (capped (capped l + 1)) (capped (suc n)) (capped (suc l)) (omega arith) (omega arith)

-- ---- nodes
pub is_leaf : (n l : ℕ) → n ≡ 1 → l ≡ 1 → counted n l ≡ leaf
is_leaf n l e f = counted_same n l 1 1 e f

pub is_round : (n l m k : ℕ) → n ≡ suc m → l ≡ suc k → counted n l ≡ round (counted m k)
is_round n l m k e f = counted_same n l (suc m) (suc k) e f ∙ sym (round_counted m k)

pub is_both : (n l a b c d : ℕ) → n ≡ a + c → l ≡ max b d → counted n l ≡ both (counted a b) (counted c d)
is_both n l a b c d e f = counted_same n l (a + c) (max b d) e f ∙ sym (both_counted a b c d)

pub is_round_both : (n l a b c d : ℕ) → n ≡ suc (a + c) → l ≡ suc (max b d) → counted n l ≡ round (both (counted a b) (counted c d))
is_round_both n l a b c d e f = is_round n l (a + c) (max b d) e f ∙ ap round (sym (both_counted a b c d))

-- ---- lists
sum_more : (ns : List ℕ) (n : ℕ) → joined sum (ns ++ n ∷ []) ≡ joined sum ns + n
sum_more [] n = omega arith
sum_more (m ∷ ns) n = let e = sum_more ns n in omega arith

max_more : (ns : List ℕ) (n : ℕ) → joined max (ns ++ n ∷ []) ≡ max (joined max ns) n
max_more [] n = omega arith
max_more (m ∷ ns) n = let e = max_more ns n in omega arith

module _ {A : Type 0} (f g : A → ℕ) where
  abbrev pub size_of_all : List A → Size
  size_of_all xs = counted (joined sum (map f xs)) (joined max (map g xs))

  all_push : (xs : List A) (x : A) → both (size_of_all xs) (counted (f x) (g x)) ≡ size_of_all (xs ++ x ∷ [])
  all_push xs x =
      both_counted (joined sum (map f xs)) (joined max (map g xs)) (f x) (g x)
      ∙ counted_same (joined sum (map f xs) + f x) (max (joined max (map g xs)) (g x)) (joined sum (map f (xs ++ x ∷ []))) (joined max (map g (xs ++ x ∷ [])))
      (sym (ap (joined sum) (map-append f xs (x ∷ [])) ∙ sum_more (map f xs) (f x))) (sym (ap (joined max) (map-append g xs (x ∷ [])) ∙ max_more (map g xs) (g x)))

  -- one more of them
  pub all_more : (xs : List A) (i : ℕ) (x : A) → i < length xs → x ≡ get_or xs i x → both (size_of_all (take i xs)) (counted (f x) (g x)) ≡ size_of_all (take (i + 1) xs)
  all_more xs i x l e = all_push (take i xs) x ∙ ap size_of_all (ap (λ (y : A). take i xs ++ y ∷ []) e ∙ sym (take_more xs i x l))

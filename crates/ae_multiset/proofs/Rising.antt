-- Rising lists by recursion, and the canonical spelling.
use Rattle.std.proofs.Common.{◌≡◌, ℕ, zero, suc, ◌<◌, ◌≤◌, List, [], ◌∷◌, length, get_or, ◌+◌, ◌==◌, inl, inr, refl, sym, ◌∙◌, ap, subst, arith, if◌then◌else◌, nat_lt}
use Rattle.std.specs.List.{sum_by}
use Rattle.std.specs.List.Sorted.{IsNonDecreasing, IsPermutation}
use Rattle.std.proofs.lemmas.List.Sorted.{sum_by-IsPermutation}
use Rattle.std.proofs.lemmas.List.Sums.{sum_by-cons}
use Rattle.std.proofs.lemmas.Bool.Decides.{nat_tests}
use Rattle.std.proofs.lemmas.Bool.{cases_eq, cases_lt}
use Rattle.ae_multiset.specs.Multisets.{count, IsSame, put_in, rising}
use Rattle.ae_multiset.proofs.Counts.{count_same, count_other}

abbrev pub AtLeast : ℕ → List ℕ → Type 0
AtLeast x [] = Unit {0}
AtLeast x (y ∷ ys) = (x ≤ y) × AtLeast x ys

abbrev pub Rises : List ℕ → Type 0
Rises [] = Unit {0}
Rises (x ∷ xs) = AtLeast x xs × Rises xs

at_least : (x : ℕ) (xs : List ℕ) → ((k : ℕ) → k < length xs → x ≤ get_or xs k 0) → AtLeast x xs
at_least x [] h = tt
at_least x (y ∷ ys) h = (h zero (omega arith), at_least x ys (λ k l. h (suc k) (omega arith)))

pub rises : (xs : List ℕ) → IsNonDecreasing xs → Rises xs
rises [] h = tt
rises (x ∷ xs) h = (at_least x xs (λ k l. h zero (suc k) 0 (omega arith) (omega arith)), rises xs (λ i j d l m. h (suc i) (suc j) d (omega arith) (omega arith)))

pub least_at : (x : ℕ) (xs : List ℕ) (k d : ℕ) → AtLeast x xs → k < length xs → x ≤ get_or xs k d
least_at x [] k d h l = absurd (omega arith)
least_at x (y ∷ ys) zero d h l = h.0
least_at x (y ∷ ys) (suc k) d h l = least_at x ys k d h.1 (omega arith)

pub non_decreasing : (xs : List ℕ) → Rises xs → IsNonDecreasing xs
non_decreasing [] h i j d l m = absurd (omega arith)
non_decreasing (x ∷ xs) h zero zero d l m = omega arith
non_decreasing (x ∷ xs) h zero (suc j) d l m = least_at x xs j d h.0 (omega arith)
non_decreasing (x ∷ xs) h (suc i) zero d l m = absurd (omega arith)
non_decreasing (x ∷ xs) h (suc i) (suc j) d l m = non_decreasing xs h.1 i j d (omega arith) (omega arith)

least : (x z : ℕ) (ys : List ℕ) → AtLeast x ys → 0 < count z ys → x ≤ z
least x z [] h p = absurd (omega arith)
least x z (y ∷ ys) h p = elim (cases_eq z y) as (λ _. x ≤ z) [
  | inl e ↦ omega (arith, h.0, e)
  | inr d ↦ least x z ys h.1 (omega (arith, count_other z y ys d))
]

first_least : (x z : ℕ) (xs : List ℕ) → AtLeast x xs → 0 < count z (x ∷ xs) → x ≤ z
first_least x z xs h p = elim (cases_eq z x) as (λ _. x ≤ z) [ inl e ↦ omega arith | inr d ↦ least x z xs h (omega (arith, count_other z x xs d)) ]

-- no name below the least one stands in it
pub count_below : (x z : ℕ) (ys : List ℕ) → AtLeast x ys → z < x → count z ys ≡ 0
count_below x z ys h l = elim (cases_lt 0 (count z ys)) as (λ _. count z ys ≡ 0) [ inl p ↦ absurd (omega (arith, least x z ys h p)) | inr p ↦ omega arith ]

one_by_recursion : (a b : List ℕ) → Rises a → Rises b → IsSame a b → a ≡ b
one_by_recursion [] [] p q s = refl
one_by_recursion [] (y ∷ ys) p q s = absurd (omega (arith, s.each y, count_same y ys))
one_by_recursion (x ∷ xs) [] p q s = absurd (omega (arith, s.each x, count_same x xs))
one_by_recursion (x ∷ xs) (y ∷ ys) p q s =
    let l : x ≤ y = first_least x y xs p.0 (omega (arith, s.each y, count_same y ys)) in
    let g : y ≤ x = first_least y x ys q.0 (omega (arith, s.each x, count_same x xs)) in
    let e : x ≡ y = omega arith in
    let t : IsSame xs ys = record { each = λ z. omega (arith, subst (λ (w : ℕ). count z (x ∷ xs) ≡ count z (w ∷ ys)) (sym e) (s.each z)) } in
    cc (one_by_recursion xs ys p.1 q.1 t)

-- one multiset has one rising spelling
pub one_spelling : (a b : List ℕ) → IsNonDecreasing a → IsNonDecreasing b → IsSame a b → a ≡ b
one_spelling a b p q s = one_by_recursion a b (rises a p) (rises b q) s

count-put_in : (z x : ℕ) (xs : List ℕ) → count z (put_in x xs) ≡ count z (x ∷ xs)
count-put_in z x [] = refl
count-put_in z x (y ∷ ys) = grind (arith, nat_tests, count-put_in z x ys)

pub count-rising : (z : ℕ) (xs : List ℕ) → count z (rising xs) ≡ count z xs
unfolding rising
count-rising z [] = refl
count-rising z (x ∷ xs) = omega (arith, count-put_in z x (rising xs), count-rising z xs)

put_least : (m x : ℕ) (xs : List ℕ) → m ≤ x → AtLeast m xs → AtLeast m (put_in x xs)
put_least m x [] l h = (l, tt)
put_least m x (y ∷ ys) l h = grind (arith, nat_tests, put_least m x ys l h.1, h.0, h.1)

pub least_more : (m n : ℕ) (xs : List ℕ) → m ≤ n → AtLeast n xs → AtLeast m xs
least_more m n [] l h = tt
least_more m n (y ∷ ys) l h = (omega (arith, h.0), least_more m n ys l h.1)

put_rises : (x : ℕ) (xs : List ℕ) → Rises xs → Rises (put_in x xs)
put_rises x [] h = (tt, tt)
put_rises x (y ∷ ys) h = elim (cases_lt y x) as (λ _. Rises (if nat_lt y x then y ∷ put_in x ys else x ∷ y ∷ ys)) [
  | inl l ↦ grind (arith, nat_tests, put_least y x ys (omega arith) h.0, put_rises x ys h.1)
  | inr g ↦ grind (arith, nat_tests, least_more x y ys g h.0, h.0, h.1)
]

rising_by_recursion : (xs : List ℕ) → Rises (rising xs)
unfolding rising
rising_by_recursion [] = tt
rising_by_recursion (x ∷ xs) = put_rises x (rising xs) (rising_by_recursion xs)

pub rising_rises : (xs : List ℕ) → IsNonDecreasing (rising xs)
rising_rises xs = non_decreasing (rising xs) (rising_by_recursion xs)

-- an exchange of places changes no count
pub same_after : (xs ys : List ℕ) → IsPermutation xs ys → IsSame xs ys
same_after xs ys p = record { each = λ x. by_sum x xs ∙ (sym (sum_by-IsPermutation (λ y. if x == y then 1 else 0) xs ys p) ∙ sym (by_sum x ys)) }
  where
    by_sum : (x : ℕ) (zs : List ℕ) → count x zs ≡ sum_by (λ y. if x == y then 1 else 0) zs
    by_sum x [] = refl
    by_sum x (z ∷ zs) = ap (λ (w : ℕ). (if x == z then 1 else 0) + w) (by_sum x zs) ∙ sym (sum_by-cons (λ y. if x == y then 1 else 0) z zs)

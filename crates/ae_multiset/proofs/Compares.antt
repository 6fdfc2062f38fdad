-- Rising lists that differ, first from the end.
use Rattle.std.proofs.Common.{◌≡◌, ◌≢◌, ℕ, zero, suc, ◌+◌, ◌<◌, ◌≤◌, List, [], ◌∷◌, length, get_or, take, drop, ◌∙◌, ap, arith}
use Rattle.ae_multiset.specs.Multisets.{count, IsLower}
use Rattle.ae_multiset.proofs.Counts.{count_same, count_other}
use Rattle.ae_multiset.proofs.Rising.{AtLeast, Rises}

-- every name of the part before a place is at most the one there
before : (x z : ℕ) (xs : List ℕ) (n : ℕ) → Rises xs → n < length xs → get_or xs n 0 < z → count z (take (suc n) xs) ≡ 0
before x z [] n r h l = absurd (omega arith)
before x z (y ∷ ys) zero r h l = count_other z y [] (λ e. absurd (omega arith))
before x z (y ∷ ys) (suc n) r h l =
    let d : z ≢ y = λ e. absurd (omega (arith, e, l, at_least y ys n r.0 (omega arith))) in
    count_other z y (take (suc n) ys) d ∙ before x z ys n r.1 (omega arith) l
  where
    at_least : (y : ℕ) (ys : List ℕ) (n : ℕ) → AtLeast y ys → n < length ys → y ≤ get_or ys n 0
    at_least y [] n h l = absurd (omega arith)
    at_least y (w ∷ ws) zero h l = h.0
    at_least y (w ∷ ws) (suc n) h l = at_least y ws n h.1 (omega arith)

count_split : (z : ℕ) (xs : List ℕ) (n : ℕ) → count z xs ≡ count z (take n xs) + count z (drop n xs)
count_split z xs zero = omega arith
count_split z [] (suc n) = omega arith
count_split z (y ∷ ys) (suc n) = omega (arith, count_split z ys n)

stands : (xs : List ℕ) (n : ℕ) → n < length xs → 0 < count (get_or xs n 0) (take (suc n) xs)
stands [] n h = absurd (omega arith)
stands (y ∷ ys) zero h = omega (arith, count_same y [])
stands (y ∷ ys) (suc n) h = omega (arith, stands ys n (omega arith))

-- the first difference from the end decides
pub lower_at : (a b : List ℕ) (n : ℕ) → Rises a → Rises b → n < length a → n < length b → drop (suc n) a ≡ drop (suc n) b → get_or a n 0 < get_or b n 0 → IsLower a b
lower_at a b n ra rb la lb e l = record {
  name = get_or b n 0;
  fewer = omega (arith, count_split (get_or b n 0) a (suc n), count_split (get_or b n 0) b (suc n), before 0 (get_or b n 0) a n ra la l, stands b n lb, ap (count (get_or b n 0)) e);
  above = λ z h. omega (arith, count_split z a (suc n), count_split z b (suc n), before 0 z a n ra la (omega arith), before 0 z b n rb lb h, ap (count z) e);
}

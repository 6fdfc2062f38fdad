-- The values of a point have a text.
use Rattle.std.specs.Prelude.{ℕ, ℤ, pos, negsuc, ◌+◌, ◌<◌, ◌<ℤ◌, ◌^◌, ◌≡◌, List, [], ◌∷◌, length, take, slice_index_or, unsigned_abs}
use Rattle.std.specs.List.{AllByRecursion}
use Rattle.std.proofs.Common.{arith, refl, sym, subst}
use borrow.Author.Differences.{ints}
use Rattle.std.proofs.lemmas.List.{take_more}
use Rattle.ae_base.proofs.AllOf.{all_append, all_both}
use Rattle.ae_base.proofs.Integers.{size_positive}
use Rattle.ae_inequalities.specs.Points.{IsPointNumber}
use Rattle.ae_journal.specs.declared.systems.PointAt.{PointAt}
use Rattle.ae_readers.proofs.LowestTerms.{lowest_by_gcd}
use Rattle.ae_stategrammar.specs.Points.{PointStands}

-- one element more
pub all_taken : {X : Type 0} (P : X → Type 0) (xs : List X) (i : ℕ) (d : X) → i < length xs → AllByRecursion P (take i xs) → P (slice_index_or xs i d) → AllByRecursion P (take (i + 1) xs)
all_taken P xs i d l a h = subst (AllByRecursion P) (sym (take_more xs i d l)) (all_append P (take i xs) (slice_index_or xs i d ∷ []) a (h, tt))

size_back : (z : ℤ) → pos 0 <ℤ z → pos (unsigned_abs z) ≡ z
size_back (pos n) h = refl
size_back (negsuc n) h = absurd (omega (arith, ints))

point_stands : (q : PointAt) → q.name < 2 ^ 64 → IsPointNumber q → PointStands q
point_stands q name number =
    let d = unsigned_abs q.bottom in
    let some = size_positive q.bottom number.positive in
    let below = number.within.0 in
    let above = number.within.1.0 in
    record {
      name = name;
      top_within = omega (arith, above);
      positive = size_back q.bottom number.positive;
      lowest = sym (lowest_by_gcd (unsigned_abs q.top) d 1 (number.lowest.0.1.0, number.lowest.0.0, λ k a b. number.lowest.1 k (b, (a, tt))) (omega (arith, some)) (omega (arith, below)));
    }

pub points_stand : (made : List PointAt) → AllByRecursion (λ (q : PointAt). q.name < 2 ^ 64) made → AllByRecursion IsPointNumber made → AllByRecursion PointStands made
points_stand made names numbers = all_both (λ (q : PointAt). q.name < 2 ^ 64) IsPointNumber PointStands point_stands made names numbers

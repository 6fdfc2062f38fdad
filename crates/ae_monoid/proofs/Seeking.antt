-- Seeking a rule that fits over the chains of the names of a multiset.
use Rattle.std.specs.Prelude.{◌≡◌, ◌≢◌, ℕ, zero, suc, ◌+◌, ◌-◌, ◌<◌, ◌≤◌, ◌⊎◌, List, [], ◌∷◌, ◌++◌, length, slice_index_or, Option, Some, ◌==◌, if◌then◌else◌, true, false}
use Rattle.std.specs.List.{AllByRecursion}
use Rattle.std.specs.List.Sorted.{IsNonDecreasing}
use Rattle.std.proofs.Common.{sym, ap, ◌∙◌, subst, arith, inl, inr}
use Rattle.std.proofs.lemmas.List.{length-append, get_or_default}
use Rattle.std.proofs.lemmas.Bool.{cases_order}
use Rattle.std.proofs.lemmas.Bool.Decides.{nat_tests}
use native.Mathlib.Decide.{ℕ_discrete}
use Rattle.ae_core.specs.declared.problems.AcSymbol.{AcSymbol}
use Rattle.ae_base.proofs.AllOf.{all_weaker, all_append}
use Rattle.ae_multiset.specs.Multisets.{count, IsPart}
use Rattle.ae_multiset.specs.Rewriting.{IsReduced}
use Rattle.ae_monoid.specs.declared.rules.Kept.{Kept}
use Rattle.ae_monoid.specs.Rules.{IsUnfit, IsLargest, IsRuleOf}
use Rattle.ae_monoid.specs.Reductions.{AreDifferent, AreAtMost, IsCandidate}
use Rattle.ae_monoid.specs.Inner.Indexes.{IsOf}

-- ---- counts and places
pub counted_at : (names : List ℕ) (j d : ℕ) → j < length names → 0 < count (slice_index_or names j d) names
counted_at [] j d h = absurd (omega (arith, h))
counted_at (y ∷ ys) zero d h = let e : (y == y) ≡ true = grind (arith, nat_tests) in let f : count y (y ∷ ys) ≡ 1 + count y ys = ap (λ b. (if b then 1 else 0) + count y ys) e in omega (arith, f)
counted_at (y ∷ ys) (suc j) d h = let ih = counted_at ys j d (omega (arith, h)) in omega (arith, ih)

pub place_of : (names : List ℕ) (x : ℕ) → 0 < count x names → (j : ℕ) × (j < length names) × ((d : ℕ) → slice_index_or names j d ≡ x)
place_of [] x h = absurd (omega (arith, h))
place_of (y ∷ ys) x h = by_same (ℕ_discrete x y) (λ k. place_of ys x k)
  where
    by_same : Dec (x ≡ y) → (0 < count x ys → (j : ℕ) × (j < length ys) × ((d : ℕ) → slice_index_or ys j d ≡ x)) → (j : ℕ) × (j < length (y ∷ ys)) × ((d : ℕ) → slice_index_or (y ∷ ys) j d ≡ x)
    by_same (yes e) below = (0, omega arith, λ d. sym e)
    by_same (no n) below =
        let t : (x == y) ≡ false = grind (arith, nat_tests, n) in
        let f : count x (y ∷ ys) ≡ 0 + count x ys = ap (λ b. (if b then 1 else 0) + count x ys) t in
        let r = below (omega (arith, f, h)) in
        (suc r.0, (let l = r.1 in omega (arith, l)), λ d. r.2 d)

-- ---- the largest name
pub largest_is_one : (x y : ℕ) (l : List ℕ) → IsLargest x l → IsLargest y l → x ≡ y
largest_is_one x y l a b = by_order (cases_order x y)
  where
    by_order : (x ≡ y) ⊎ ((x < y) ⊎ (y < x)) → x ≡ y
    by_order (inl e) = e
    by_order (inr (inl h)) = let z = a.above y h in let p = b.has in absurd (omega (arith, z, p))
    by_order (inr (inr h)) = let z = b.above x h in let p = a.has in absurd (omega (arith, z, p))

-- the last of a list in rising order
pub last_largest : (l : List ℕ) → IsNonDecreasing l → 0 < length l → IsLargest (slice_index_or l (length l - 1) 0) l
last_largest l rises some = record { has = counted_at l (length l - 1) 0 (omega (arith, some)); above = λ y h. none_above y h (ℕ_discrete (count y l) 0) }
  where
    none_above : (y : ℕ) → slice_index_or l (length l - 1) 0 < y → Dec (count y l ≡ 0) → count y l ≡ 0
    none_above y h (yes e) = e
    none_above y h (no n) =
        let p = place_of l y (omega (arith, n)) in
        let k = p.0 in
        let inside = p.1 in
        let r = rises k (length l - 1) 0 (omega (arith, inside)) (omega (arith, some)) in
        let e = p.2 0 in
        absurd (omega (arith, r, e, h))

-- ---- different numbers of two lists
pub different_append : (xs ys : List ℕ) → AreDifferent xs → AreDifferent ys → AllByRecursion (λ x. AllByRecursion (λ y. x ≢ y) ys) xs → AreDifferent (xs ++ ys)
different_append [] ys a b o = b
different_append (x ∷ xs) ys a b o = (all_append (λ y. x ≢ y) xs ys a.0 o.0, different_append xs ys a.1 b o.1)

-- ---- the search
-- a rule of the symbol that was tested on the chain of a name before a place
pub record IsTestedBefore (kept : ℕ → Option Kept) (on : ℕ → ℕ → Type 0) (symbol : AcSymbol) (names : List ℕ) (i n : ℕ) : Type 0 where
  pub name : ℕ
  pub is_on : on name n
  pub is_of : IsOf (kept n) symbol
  pub place : ℕ
  pub before : place < i
  pub at : (d : ℕ) → slice_index_or names place d ≡ name

pub record IsCounting (kept : ℕ → Option Kept) (on : ℕ → ℕ → Type 0) (symbol : AcSymbol) (names : List ℕ) (i old now : ℕ) : Type 0 where
  pub tests : List ℕ
  pub steps : now ≡ old + length tests
  pub different : AreDifferent tests
  pub each : AllByRecursion (λ n. IsTestedBefore kept on symbol names i n) tests

pub record IsSeeking (kept : ℕ → Option Kept) (on : ℕ → ℕ → Type 0) (symbol : AcSymbol) (names : List ℕ) (i old now : ℕ) : Type 0 where
  pub counting : IsCounting kept on symbol names i old now
  pub done : (j d : ℕ) → j < i → (n : ℕ) → on (slice_index_or names j d) n → IsUnfit (kept n) symbol names

-- what was tested on one chain
pub record AreTestedOf (kept : ℕ → Option Kept) (on : ℕ → ℕ → Type 0) (name : ℕ) (symbol : AcSymbol) (old now : ℕ) : Type 0 where
  pub tests : List ℕ
  pub steps : now ≡ old + length tests
  pub different : AreDifferent tests
  pub each : AllByRecursion (λ n. on name n × IsOf (kept n) symbol) tests

module _ (kept : ℕ → Option Kept) (on : ℕ → ℕ → Type 0) (symbol : AcSymbol) (names : List ℕ) where
  pub seek_none : (old : ℕ) → IsSeeking kept on symbol names 0 old old
  seek_none old = record { counting = record { tests = []; steps = omega arith; different = tt; each = tt }; done = λ j d h. absurd (omega (arith, h)) }

  later_too : (i : ℕ) (tests : List ℕ) → AllByRecursion (λ n. IsTestedBefore kept on symbol names i n) tests → AllByRecursion (λ n. IsTestedBefore kept on symbol names (i + 1) n) tests
  later_too i tests a =
      all_weaker (λ n. IsTestedBefore kept on symbol names i n) (λ n. IsTestedBefore kept on symbol names (i + 1) n)
      (λ n t. record { name = t.name; is_on = t.is_on; is_of = t.is_of; place = t.place; before = (let b = t.before in omega (arith, b)); at = t.at }) tests a

  module _ (i old now : ℕ) (inside : i < length names) (rises : IsNonDecreasing names) (s : IsSeeking kept on symbol names i old now) where
    -- the same name again
    pub seek_skip : 0 < i → slice_index_or names (i - 1) 0 ≡ slice_index_or names i 0 → IsSeeking kept on symbol names (i + 1) old now
    seek_skip p e = record {
      counting = record { tests = s.counting.tests; steps = s.counting.steps; different = s.counting.different; each = later_too i s.counting.tests s.counting.each };
      done = λ j d h n o. by_place j d h n o (ℕ_discrete j i);
    }
      where
        by_place : (j d : ℕ) → j < i + 1 → (n : ℕ) → on (slice_index_or names j d) n → Dec (j ≡ i) → IsUnfit (kept n) symbol names
        by_place j d h n o (yes f) = s.done (i - 1) 0 (omega (arith, p)) n (subst (λ (x : ℕ). on x n) (ap (λ (k : ℕ). slice_index_or names k d) f ∙ get_or_default names i d 0 inside ∙ sym e) o)
        by_place j d h n o (no m) = s.done j d (omega (arith, h, m)) n o

    module _ (only : (n x : ℕ) (k : Kept) → kept n ≡ Some k → on x n → IsLargest x k.entry.left) (fresh : (i ≡ 0) ⊎ (slice_index_or names (i - 1) 0 ≢ slice_index_or names i 0)) (more : ℕ)
        (t : AreTestedOf kept on (slice_index_or names i 0) symbol now more) where
      -- it stands at no earlier place
      earlier : (j : ℕ) → j < i → slice_index_or names j 0 ≢ slice_index_or names i 0
      earlier j h e = by_fresh fresh
        where
          by_fresh : (i ≡ 0) ⊎ (slice_index_or names (i - 1) 0 ≢ slice_index_or names i 0) → ⊥
          by_fresh (inl z) = absurd (omega (arith, z, h))
          by_fresh (inr m) =
              let a = rises j (i - 1) 0 (omega (arith, h)) (omega (arith, h, inside)) in
              let b = rises (i - 1) i 0 (omega arith) inside in
              m (omega (arith, a, b, e))

      apart : (n m : ℕ) → on (slice_index_or names i 0) n × IsOf (kept n) symbol → IsTestedBefore kept on symbol names i m → n ≢ m
      apart n m a b e =
          let k = b.is_of.rule in
          let x = only m b.name k b.is_of.there b.is_on in
          let y = only m (slice_index_or names i 0) k b.is_of.there (subst (λ (z : ℕ). on (slice_index_or names i 0) z) e a.0) in
          earlier b.place b.before (b.at 0 ∙ largest_is_one b.name (slice_index_or names i 0) k.entry.left x y)

      pub count_more : IsCounting kept on symbol names (i + 1) old more
      count_more = record {
        tests = t.tests ++ s.counting.tests;
        steps = (let a = t.steps in let b = s.counting.steps in let c = length-append t.tests s.counting.tests in omega (arith, a, b, c));
        different =
            different_append t.tests s.counting.tests t.different s.counting.different
            (all_weaker (λ n. on (slice_index_or names i 0) n × IsOf (kept n) symbol) (λ n. AllByRecursion (λ m. n ≢ m) s.counting.tests)
            (λ n a. all_weaker (λ m. IsTestedBefore kept on symbol names i m) (λ m. n ≢ m) (λ m b. apart n m a b) s.counting.tests s.counting.each) t.tests t.each);
        each =
            all_append (λ n. IsTestedBefore kept on symbol names (i + 1) n) t.tests s.counting.tests
            (all_weaker (λ n. on (slice_index_or names i 0) n × IsOf (kept n) symbol) (λ n. IsTestedBefore kept on symbol names (i + 1) n)
            (λ n a. record { name = slice_index_or names i 0; is_on = a.0; is_of = a.1; place = i; before = omega arith; at = λ d. get_or_default names i d 0 inside }) t.tests t.each)
            (later_too i s.counting.tests s.counting.each);
      }

      pub seek_more : ((n : ℕ) → on (slice_index_or names i 0) n → IsUnfit (kept n) symbol names) → IsSeeking kept on symbol names (i + 1) old more
      seek_more unfit = record { counting = count_more; done = λ j d h n o. by_place j d h n o (ℕ_discrete j i) }
        where
          by_place : (j d : ℕ) → j < i + 1 → (n : ℕ) → on (slice_index_or names j d) n → Dec (j ≡ i) → IsUnfit (kept n) symbol names
          by_place j d h n o (yes f) = unfit n (subst (λ (x : ℕ). on x n) (ap (λ (k : ℕ). slice_index_or names k d) f ∙ get_or_default names i d 0 inside) o)
          by_place j d h n o (no m) = s.done j d (omega (arith, h, m)) n o

  -- each step was for a candidate
  pub at_most : (i old now : ℕ) → i ≤ length names → ((n x : ℕ) (k : Kept) → kept n ≡ Some k → on x n → IsLargest x k.entry.left) → IsCounting kept on symbol names i old now
      → (most : ℕ) → AreAtMost most (λ n. IsCandidate (kept n) symbol names) → now ≤ old + most
  at_most i old now inside only c most a =
      let b = a.bound c.tests c.different (all_weaker (λ n. IsTestedBefore kept on symbol names i n) (λ n. IsCandidate (kept n) symbol names) (λ n t. candidate n t) c.tests c.each) in
      let s = c.steps in
      omega (arith, b, s)
    where
      candidate : (n : ℕ) → IsTestedBefore kept on symbol names i n → IsCandidate (kept n) symbol names
      candidate n t = record {
        rule = t.is_of.rule;
        there = t.is_of.there;
        of = t.is_of.of;
        largest = t.name;
        is_largest = only n t.name t.is_of.rule t.is_of.there t.is_on;
        has = subst (λ (x : ℕ). 0 < count x names) (t.at 0) (counted_at names t.place 0 (let b = t.before in omega (arith, b, inside)));
      }

  -- at the end no left side is a part
  pub sought : (i old now : ℕ) → length names ≤ i → ((n x : ℕ) (k : Kept) → kept n ≡ Some k → IsLargest x k.entry.left → on x n) → ((n : ℕ) (k : Kept) → kept n ≡ Some k → IsNonDecreasing k.entry.left × (0 < length k.entry.left))
      → IsSeeking kept on symbol names i old now → IsReduced (IsRuleOf kept symbol) names
  sought i old now over by_largest well s l r rule part =
      let k = rule.rule in
      let w = well rule.number k rule.there in
      let x = slice_index_or k.entry.left (length k.entry.left - 1) 0 in
      let largest = last_largest k.entry.left w.0 w.1 in
      let p = subst (λ (ns : List ℕ). IsPart ns names) (sym rule.left) part in
      let c = p.each x in
      let h = largest.has in
      let place = place_of names x (omega (arith, c, h)) in
      let inside = place.1 in
      s.done place.0 0 (omega (arith, inside, over)) rule.number (subst (λ (y : ℕ). on y rule.number) (sym (place.2 0)) (by_largest rule.number x k rule.there largest)) k rule.there rule.of p

-- The three rules of the example decrease, and their overlaps join: so what they make of a multiset is one.
use Rattle.std.proofs.Common.{◌≡◌, ℕ, ◌<◌, List, [], ◌∷◌, inl, inr, refl, subst, arith}
use Rattle.std.proofs.lemmas.Bool.Decides.{nat_tests}
use Rattle.ae_multiset.specs.Multisets.{count, IsSame, IsLess, rising}
use Rattle.ae_multiset.specs.Rewriting.{ReducesTo, Joins, IsReduced, AreDifferent, OverlapsJoin, Decreases, overlap_first, overlap_second}
use Rattle.ae_multiset.specs.Rewriting.ReducesTo.{done, more}
use Rattle.ae_multiset.specs.Ranks.{rank, weight}
use Rattle.ae_multiset.specs.Normal.{IsRule, stepped, reduced_within, top, tops, normal_form}
use Rattle.ae_multiset.specs.Example.{first_two, all_three}
use Rattle.ae_multiset.proofs.Counts.{same}
use Rattle.ae_multiset.proofs.Confluence.{only_answer}
use Rattle.ae_multiset.proofs.NormalForms.{linked_from}
use Rattle.ae_multiset.proofs.Reducing.{rules_split, is_normal_form}

abbrev R : List ℕ → List ℕ → Type 0
R = IsRule all_three

first : R (0 ∷ 1 ∷ []) (2 ∷ [])
first = (0, omega arith, refl)

second : R (0 ∷ 3 ∷ []) (4 ∷ [])
second = (1, omega arith, refl)

third : R (1 ∷ 4 ∷ []) (2 ∷ 3 ∷ [])
third = (2, omega arith, refl)

-- what holds of each of the three
each : (P : List ℕ → List ℕ → Type 0) → P (0 ∷ 1 ∷ []) (2 ∷ []) → P (0 ∷ 3 ∷ []) (4 ∷ []) → P (1 ∷ 4 ∷ []) (2 ∷ 3 ∷ []) → (l r : List ℕ) → R l r → P l r
each P a b c l r h = elim (rules_split (0 ∷ 1 ∷ [], 2 ∷ []) ((0 ∷ 3 ∷ [], 4 ∷ []) ∷ (1 ∷ 4 ∷ [], 2 ∷ 3 ∷ []) ∷ []) l r h) as (λ _. P l r) [
  | inl e ↦ subst (λ (w : List ℕ × List ℕ). P w.0 w.1) e a
  | inr k ↦ elim (rules_split (0 ∷ 3 ∷ [], 4 ∷ []) ((1 ∷ 4 ∷ [], 2 ∷ 3 ∷ []) ∷ []) l r k) as (λ _. P l r) [
    | inl e ↦ subst (λ (w : List ℕ × List ℕ). P w.0 w.1) e b
    | inr m ↦ elim (rules_split (1 ∷ 4 ∷ [], 2 ∷ 3 ∷ []) [] l r m) as (λ _. P l r) [
      | inl e ↦ subst (λ (w : List ℕ × List ℕ). P w.0 w.1) e c
      | inr n ↦ absurd (omega (arith, n.1))
    ]
  ]
]

pub three_decrease : Decreases R
three_decrease = each (λ l r. IsLess r l) (inl (omega arith)) (inl (omega arith)) (inr (refl, record { name = 4; fewer = omega arith; above = λ x h. grind (arith, nat_tests) }))

abbrev Overlap : List ℕ → List ℕ → List ℕ → List ℕ → Type 0
Overlap l1 r1 l2 r2 = AreDifferent l1 r1 l2 r2 → (x : ℕ) → 0 < count x l1 → 0 < count x l2 → Joins R (overlap_first l1 r1 l2) (overlap_second l1 l2 r2)

itself : (l r : List ℕ) → Overlap l r l r
itself l r d x p q = absurd (d (same l) (same r))

pub three_overlaps_join : OverlapsJoin R
three_overlaps_join l1 r1 l2 r2 h k =
    each (λ l r. Overlap l r l2 r2)
    (each (λ l r. Overlap (0 ∷ 1 ∷ []) (2 ∷ []) l r) (itself _ _) (λ d x p q. record { at = 2 ∷ 3 ∷ []; first = done (same _); second = by_third }) (λ d x p q. record { at = 4 ∷ 2 ∷ []; first = done swap; second = by_second }) l2 r2 k)
    (each (λ l r. Overlap (0 ∷ 3 ∷ []) (4 ∷ []) l r) (λ d x p q. record { at = 2 ∷ 3 ∷ []; first = by_third; second = done (same _) }) (itself _ _) (λ d x p q. absurd (grind (arith, nat_tests))) l2 r2 k)
    (each (λ l r. Overlap (1 ∷ 4 ∷ []) (2 ∷ 3 ∷ []) l r) (λ d x p q. record { at = 4 ∷ 2 ∷ []; first = by_second; second = done swap }) (λ d x p q. absurd (grind (arith, nat_tests))) (itself _ _) l2 r2 k)
    l1 r1 h
  where
    by_third : ReducesTo R (4 ∷ 1 ∷ []) (2 ∷ 3 ∷ [])
    by_third = more (record { left = 1 ∷ 4 ∷ []; right = 2 ∷ 3 ∷ []; rule = third; rest = []; before = record { each = λ x. omega arith }; after = same (2 ∷ 3 ∷ []) }) (done (same (2 ∷ 3 ∷ [])))

    by_second : ReducesTo R (2 ∷ 3 ∷ 0 ∷ []) (4 ∷ 2 ∷ [])
    by_second = more (record { left = 0 ∷ 3 ∷ []; right = 4 ∷ []; rule = second; rest = 2 ∷ []; before = record { each = λ x. omega arith }; after = same (4 ∷ 2 ∷ []) }) (done (same (4 ∷ 2 ∷ [])))

    swap : IsSame (2 ∷ 4 ∷ []) (4 ∷ 2 ∷ [])
    swap = record { each = λ x. omega arith }

pub found_by_two : normal_form first_two (0 ∷ 1 ∷ 3 ∷ []) ≡ 2 ∷ 3 ∷ []
unfolding normal_form reduced_within stepped rank weight top tops rising
found_by_two = refl

pub found_by_three : normal_form all_three (0 ∷ 1 ∷ 3 ∷ []) ≡ 2 ∷ 3 ∷ []
unfolding normal_form reduced_within stepped rank weight top tops rising
found_by_three = refl

pub alone : (b : List ℕ) → ReducesTo R (0 ∷ 1 ∷ 3 ∷ []) b → IsReduced R b → IsSame b (2 ∷ 3 ∷ [])
alone b f r =
    let nf = is_normal_form all_three three_decrease in
    subst (λ (w : List ℕ). IsSame b w) found_by_three
    (only_answer R three_overlaps_join three_decrease (0 ∷ 1 ∷ 3 ∷ []) b (normal_form all_three (0 ∷ 1 ∷ 3 ∷ [])) (nf.follows (0 ∷ 1 ∷ 3 ∷ [])) (nf.reduced (0 ∷ 1 ∷ 3 ∷ [])) r (linked_from R f))

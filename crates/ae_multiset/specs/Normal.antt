-- The normal form by a list of rules, each a left and a right side.
use Rattle.std.specs.Prelude.{ℕ, zero, suc, ◌+◌, List, [], ◌∷◌, ◌++◌, length, Option, Some, None}
use Rattle.std.specs.List.{Contains}
use Rattle.ae_multiset.specs.Multisets.{minus, rising}
use Rattle.ae_multiset.specs.Ranks.{rank}

abbrev pub IsRule : List (List ℕ × List ℕ) → List ℕ → List ℕ → Type 0
IsRule rules l r = Contains rules (l, r)

-- one step by the first rule whose left side is a part
unfoldable pub stepped : List (List ℕ × List ℕ) → List ℕ → Option (List ℕ)
stepped [] a = None
stepped (rule ∷ rules) a = elim (minus rule.0 a) [ [] ↦ Some (rule.1 ++ minus a rule.0) | x ∷ xs ↦ stepped rules a ]

-- steps for as long as there is one, and at most so many
unfoldable pub reduced_within : ℕ → List (List ℕ × List ℕ) → List ℕ → List ℕ
reduced_within zero rules a = a
reduced_within (suc n) rules a = elim (stepped rules a) [ None ↦ a | Some b ↦ reduced_within n rules b ]

-- above each name of a multiset
unfoldable pub top : List ℕ → ℕ
top [] = 0
top (x ∷ xs) = suc x + top xs

-- above each name of the right sides
unfoldable pub tops : List (List ℕ × List ℕ) → ℕ
tops [] = 0
tops (rule ∷ rules) = top rule.1 + tops rules

-- Steps for as long as there is one, in rising order. No descent is longer than the rank at its start.
unfoldable pub normal_form : List (List ℕ × List ℕ) → List ℕ → List ℕ
normal_form rules a = rising (reduced_within (rank (length a) (top a + tops rules) a) rules a)

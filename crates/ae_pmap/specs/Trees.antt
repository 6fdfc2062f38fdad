-- Height-balanced trees of a key and the place of its value.
use Rattle.std.specs.Prelude.{ℕ, ◌+◌, ◌*◌, ◌^◌, ◌≤◌, max, List, [], ◌∷◌, ◌++◌, length}

pub data Tree : Type 0 where
  Leaf : Tree
  Fork : Tree → ℕ → ℕ → Tree → Tree

-- the pairs of a key and its value's place, from left to right
abbrev pub pairs : Tree → List (ℕ × ℕ)
pairs Leaf = []
pairs (Fork l k v r) = pairs l ++ (k, v) ∷ pairs r

-- the height: how many forks the longest way down passes
abbrev pub levels : Tree → ℕ
levels Leaf = 0
levels (Fork l k v r) = max (levels l) (levels r) + 1

-- at each fork the heights of the two sides differ by at most one
abbrev pub IsBalanced : Tree → Type 0
IsBalanced Leaf = Unit {0}
IsBalanced (Fork l k v r) = (levels l ≤ levels r + 1) × (levels r ≤ levels l + 1) × IsBalanced l × IsBalanced r

-- the height is at most 1.45 times the binary logarithm of the number of keys and two
abbrev pub IsShallow : Tree → Type 0
IsShallow t = 2 ^ (100 * levels t) ≤ (length (pairs t) + 2) ^ 145

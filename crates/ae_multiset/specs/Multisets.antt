-- Multisets of names, and their order.
-- A multiset is written as a list of names, and only the counts of the names matter: the sum of two multisets is `a ++ b`.
use Rattle.std.specs.Prelude.{◌≡◌, ℕ, ◌+◌, ◌<◌, ◌≤◌, List, [], ◌∷◌, ◌++◌, length, ◌⊎◌, ◌==◌, if◌then◌else◌, nat_lt}

-- how often a name stands in a multiset
abbrev pub count : ℕ → List ℕ → ℕ
count x [] = 0
count x (y ∷ ys) = (if x == y then 1 else 0) + count x ys

-- one multiset
pub record IsSame (a b : List ℕ) : Type 0 where
  pub each : (x : ℕ) → count x a ≡ count x b

-- each name of `a` stands in `b`, as often or more often
pub record IsPart (a b : List ℕ) : Type 0 where
  pub each : (x : ℕ) → count x a ≤ count x b

-- without one `x`
abbrev pub without : ℕ → List ℕ → List ℕ
without x [] = []
without x (y ∷ ys) = if x == y then ys else y ∷ without x ys

-- the difference: without the names of the second, each as often as it stands there
abbrev pub minus : List ℕ → List ℕ → List ℕ
minus a [] = a
minus a (x ∷ xs) = minus (without x a) xs

-- the greatest common part
abbrev pub common : List ℕ → List ℕ → List ℕ
common a b = minus a (minus a b)

-- the least multiset of which both are parts
abbrev pub union : List ℕ → List ℕ → List ℕ
union a b = a ++ minus b (common a b)

-- fewer of some name, and as many of each larger one
pub record IsLower (a b : List ℕ) : Type 0 where
  pub name : ℕ
  pub fewer : count name a < count name b
  pub above : (x : ℕ) → name < x → count x a ≡ count x b

-- the order: by size first, and then from the largest name down
abbrev pub IsLess : List ℕ → List ℕ → Type 0
IsLess a b = (length a < length b) ⊎ ((length a ≡ length b) × IsLower a b)

-- `x` before the first name that isn't smaller
abbrev pub put_in : ℕ → List ℕ → List ℕ
put_in x [] = x ∷ []
put_in x (y ∷ ys) = if nat_lt y x then y ∷ put_in x ys else x ∷ y ∷ ys

-- the canonical spelling: the names in rising order
unfoldable pub rising : List ℕ → List ℕ
rising [] = []
rising (x ∷ xs) = put_in x (rising xs)

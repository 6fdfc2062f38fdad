-- What is left of a walk by rising key.
use Rattle.std.specs.Prelude.{ℕ, ◌<◌, List, [], ◌∷◌, Option, Some, None, if◌then◌else◌, nat_lt}

-- the pairs from the first key above this one on
abbrev pub left_above : {A : Type 0} → ℕ → List (ℕ × A) → List (ℕ × A)
left_above last [] = []
left_above last (p ∷ ps) = if nat_lt last p.0 then p ∷ ps else left_above last ps

-- the pairs from the first key above the last one on, and all where none was the last
abbrev pub left_after : {A : Type 0} → Option ℕ → List (ℕ × A) → List (ℕ × A)
left_after None ps = ps
left_after (Some last) ps = left_above last ps

-- the first of a list
abbrev pub first_of : {A : Type 0} → List A → Option A
first_of [] = None
first_of (x ∷ xs) = Some x

-- a key is above the last one
abbrev pub IsPast : Option ℕ → ℕ → Type 0
IsPast None key = Unit {0}
IsPast (Some last) key = last < key

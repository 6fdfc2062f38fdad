-- A number for each multiset that falls where the multiset does: it bounds how long a descent may be.
use Rattle.std.specs.Prelude.{ℕ, suc, ◌+◌, ◌*◌, ◌^◌, List, [], ◌∷◌, length}

-- a name weighs the base to the power of the name
unfoldable pub weight : ℕ → List ℕ → ℕ
weight base [] = 0
weight base (x ∷ xs) = base ^ x + weight base xs

-- for multisets of at most `size` names, each below `names`
unfoldable pub rank : ℕ → ℕ → List ℕ → ℕ
rank size names a = length a * suc size ^ names + weight (suc size) a

-- A multiset of names that comes from another by names put for names and by rules.
use Rattle.std.specs.Prelude.{ℕ, List, ◌∷◌, ◌++◌}
use Rattle.ae_multiset.specs.Multisets.{IsSame}

-- b descends from a: one name gives way to another where `name` says so, or the left side of a rule to its right side, any number of times
pub data Descends (name : ℕ → ℕ → Type 0) (rule : List ℕ → List ℕ → Type 0) : List ℕ → List ℕ → Type 0 where
  itself : {a b : List ℕ} → IsSame a b → Descends name rule a b
  by_name : {a b : List ℕ} (n r : ℕ) (rest : List ℕ) → IsSame a (n ∷ rest) → name n r → Descends name rule (r ∷ rest) b → Descends name rule a b
  by_rule : {a b : List ℕ} (l r rest : List ℕ) → IsSame a (l ++ rest) → rule l r → Descends name rule (r ++ rest) b → Descends name rule a b

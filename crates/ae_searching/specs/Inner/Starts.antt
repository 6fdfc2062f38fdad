-- What holds from a number on.
use Rattle.std.specs.Prelude.{◌≡◌, ◌≢◌, ℕ, ◌<◌, ◌≤◌, min, List, length, slice_index_or, Option, Some, None}
use Rattle.std.specs.List.{Contains}
use Rattle.ae_core.specs.declared.formulas.Lit.{Lit}
use Rattle.ae_rules.specs.Clauses.{Clause}
use Rattle.ae_explain.specs.declared.trail.Assigned.{Assigned}
use Rattle.ae_sat.specs.Layers.{HoldsUpTo, IsFalseUpTo}

-- it holds of exactly the numbers from this one on, or of none
abbrev pub StartsAt : (ℕ → Type 0) → Option ℕ → Type 0
StartsAt P None = (k : ℕ) → ¬ P k
StartsAt P (Some n) = (k : ℕ) → (P k → n ≤ k) × (n ≤ k → P k)

abbrev pub lesser : Option ℕ → Option ℕ → Option ℕ
lesser None o = o
lesser (Some n) None = Some n
lesser (Some n) (Some m) = Some (min n m)

module _ (t : List Assigned) (c : Clause) where
  -- the first i literals of the clause but one are false up to a level
  abbrev pub AreOthersFalse : ℕ → Lit → ℕ → Type 0
  AreOthersFalse i one k = (j : ℕ) (m : Lit) → j < i → slice_index_or c j m ≡ m → m ≢ one → IsFalseUpTo t k m

  -- one of the first i literals is the only one that isn't
  abbrev pub HasCandidate : ℕ → ℕ → Type 0
  HasCandidate i k = (j : ℕ) × (one : Lit) × (j < i) × (slice_index_or c j one ≡ one) × AreOthersFalse (length c) one k

  -- all literals but one, whichever that is, are false up to a level
  abbrev pub IsUnitUpTo : ℕ → Type 0
  IsUnitUpTo k = (one : Lit) × ((m : Lit) → Contains c m → m ≢ one → IsFalseUpTo t k m)

  -- some literal is true up to a level
  abbrev pub IsTrueUpTo : ℕ → Type 0
  IsTrueUpTo k = (m : Lit) × Contains c m × HoldsUpTo t k m

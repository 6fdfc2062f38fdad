-- The first literals of a trail, up to a level.
use Rattle.std.specs.Prelude.{◌≡◌, ℕ, ◌<◌, ◌≤◌, List, length, take}
use Rattle.ae_explain.specs.declared.trail.Assigned.{Assigned}
use Rattle.ae_explain.specs.Trail.{at}

-- levels never fall
abbrev pub AreRising : List Assigned → Type 0
AreRising t = (i j : ℕ) → i ≤ j → j < length t → (at t i).level ≤ (at t j).level

-- the literals up to a level, and no more
pub record IsFront (t : List Assigned) (level : ℕ) (front : List Assigned) : Type 0 where
  pub count : ℕ
  pub is : front ≡ take count t
  pub within : count ≤ length t
  pub kept : (j : ℕ) → j < count → (at t j).level ≤ level
  pub next : count < length t → level < (at t count).level

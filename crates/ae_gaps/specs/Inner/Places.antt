-- Where a line was first noted among the lines that stand.
use Rattle.std.specs.Prelude.{ℕ, ◌≡◌, List, ◌∷◌, ◌++◌, length, None, Some}
use Rattle.std.specs.List.{Contains}
use Rattle.ae_journal.specs.Journals.{decisions}
use Rattle.ae_journal.specs.declared.lines.Line.{Line}
use Rattle.ae_gaps.specs.declared.orders.Place.{Place}

-- the first time it was noted, so many decisions stood
pub record IsFirstAt (kept : List Line) (x : Line) (decided : ℕ) : Type 0 where
  pub before : List Line
  pub after : List Line
  pub is : kept ≡ before ++ x ∷ after
  pub many : length (decisions before) ≡ decided
  pub first : Contains before x → ⊥

-- how many decisions stand, and how many stood where the line was first noted, if it stands
pub record IsPlaced (kept : List Line) (x : Line) (place : Place) : Type 0 where
  pub decided : length (decisions kept) ≡ place.decided
  pub none : place.noted ≡ None → Contains kept x → ⊥
  pub some : (k : ℕ) → place.noted ≡ Some k → IsFirstAt kept x k

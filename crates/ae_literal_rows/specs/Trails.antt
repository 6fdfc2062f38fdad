-- The rows of the inequality literals of a trail.
use Rattle.std.specs.Prelude.{ℕ, ◌<◌, ◌≤◌, Bool, true, List, ◌∷◌, ◌++◌, ◌≡◌, map, drop, slice_get, Some}
use Rattle.std.specs.List.{Contains}
use Rattle.ae_core.specs.declared.terms.Term.{Term}
use Rattle.ae_core.specs.declared.formulas.Lit.{Lit}
use Rattle.ae_explain.specs.declared.trail.Assigned.{Assigned}
use Rattle.ae_journal.specs.States.{inequality}
use Rattle.ae_journal.specs.Standing.{Setting, SurelyStands}
use Rattle.ae_journal.specs.declared.lines.Line.{Line}
use Rattle.ae_store.specs.Stores.{Stored}
use Rattle.ae_state.specs.declared.holding.Holding.{Holding}
use Rattle.ae_bounds.specs.declared.rows.Row.{Row}
use Rattle.ae_bounds.specs.declared.rows.Origin.TheVariants.{Assumed}
use Rattle.ae_inequalities.specs.Held.{Held}
use Rattle.ae_agreed_rows.specs.Kept.{IsKeptFor}
use Rattle.ae_literal_rows.specs.Beside.{IsBeside}

-- the literals from a place on
abbrev pub literals_from : List Assigned → ℕ → List Lit
literals_from t from = map (λ a. a.lit) (drop from t)

-- a literal of the trail is marked exactly where it surely stands
pub record AreMarked (x : Setting) (js : List Line) (t : List Assigned) (marks : List Bool) : Type 0 where
  pub sure : (k : ℕ) (a : Assigned) → slice_get t k ≡ Some a → slice_get marks k ≡ Some true → SurelyStands x js a.lit
  pub all : (k : ℕ) (a : Assigned) → slice_get t k ≡ Some a → SurelyStands x js a.lit → slice_get marks k ≡ Some true

-- the row was kept for the literal at one of the places, and this place is the first tag of what gives the row
pub record IsRowOfPlace (s : Stored) (o : Holding) (t : List Assigned) (marks : List Bool) (from until : ℕ) (tags : List (List ℕ)) (r : Row) : Type 0 where
  pub place : ℕ
  pub later : from ≤ place
  pub earlier : place < until
  pub assigned : Assigned
  pub at : slice_get t place ≡ Some assigned
  pub number : ℕ
  pub comes : r.from ≡ Assumed number
  pub others : List ℕ
  pub first : slice_get tags number ≡ Some (place ∷ others)
  pub kept : (x : Setting) (js : List Line) → IsBeside x js s o → AreMarked x js t marks → IsKeptFor x js assigned.lit r

-- one row was added for each inequality literal at the places from one up to another, and no other row
pub record AreAdded (s : Stored) (o : Holding) (t : List Assigned) (marks : List Bool) (from until : ℕ) (old new : Held) : Type 0 where
  pub more : List Row
  pub rows : new.rows ≡ old.rows ++ more
  pub each : (r : Row) → Contains more r → IsRowOfPlace s o t marks from until new.tags r
  pub all : (k : ℕ) (a : Assigned) (u w : Term) (strict : Bool) → from ≤ k → k < until → slice_get t k ≡ Some a → inequality a.lit ≡ Some (u, w, strict)
      → (r : Row) × Contains more r × ((x : Setting) (js : List Line) → IsBeside x js s o → AreMarked x js t marks → IsKeptFor x js a.lit r)

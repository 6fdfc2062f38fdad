-- One row more.
use Rattle.std.specs.Prelude.{ℕ, Bool, List, ◌∷◌, ◌≡◌, None}
use Rattle.ae_core.specs.declared.formulas.Lit.{Lit}
use Rattle.ae_journal.specs.States.{inequality}
use Rattle.ae_journal.specs.Standing.{Setting}
use Rattle.ae_journal.specs.declared.lines.Line.{Line}
use Rattle.ae_store.specs.Stores.{Stored}
use Rattle.ae_state.specs.declared.holding.Holding.{Holding}
use Rattle.ae_inequalities.specs.declared.rows.Row.{Row}
use Rattle.ae_inequalities.specs.Held.{Held, IsAdded}
use Rattle.ae_agreed_rows.specs.Kept.{IsFormOf}
use Rattle.ae_literal_rows.specs.Beside.{IsBeside}

-- the row of the literal was added under the next number, as one that counts or not, where it is an inequality
pub data IsRowAdded (s : Stored) (o : Holding) (l : Lit) (tag : ℕ) (counts : Bool) (old new : Held) : Type 0 where
  no_inequality : inequality l ≡ None → new ≡ old → IsRowAdded s o l tag counts old new
  its_row : (r : Row) → ((x : Setting) (js : List Line) → IsBeside x js s o → IsFormOf x js l r.lin r.strict r.integral) → (more : List ℕ) → r.from.tags ≡ tag ∷ more → IsAdded old r counts new
      → IsRowAdded s o l tag counts old new

-- What holds of the rows of a trail, and of the values that a state holds.
use Rattle.std.specs.Prelude.{ℕ, Bool, List, ◌≡◌, length}
use Rattle.ae_core.specs.declared.terms.Term.{Term}
use Rattle.ae_explain.specs.declared.trail.Assigned.{Assigned}
use Rattle.ae_journal.specs.Standing.{Setting, value_now}
use Rattle.ae_journal.specs.Systems.{ValueOf}
use Rattle.ae_journal.specs.Values.{Val}
use Rattle.ae_journal.specs.declared.lines.Line.{Line}
use Rattle.ae_store.specs.Stores.{Stored}
use Rattle.ae_state.specs.declared.holding.Holding.{Holding}
use Rattle.ae_state.specs.Names.{system_now}
use Rattle.ae_turns.specs.Representing.{IsTaken}
use Rattle.ae_inequalities.specs.Held.{Held}
use Rattle.ae_agreed_rows.specs.Kept.{AreKeptFor}
use Rattle.ae_literal_rows.specs.Beside.{IsBeside}
use Rattle.ae_literal_rows.specs.Trails.{literals_from, AreMarked, AreAdded}

-- the rows that were added are those of the literals
abbrev pub AddedRowsAreKept : Type 0
AddedRowsAreKept = (s : Stored) (o : Holding) (t : List Assigned) (marks : List Bool) (from : ℕ) (old new : Held) (a : AreAdded s o t marks from (length t) old new) (x : Setting) (js : List Line) → IsBeside x js s o → AreMarked x js t marks
    → AreKeptFor x js (literals_from t from) a.more

-- the value of a name in the system is that of its term by the journal
abbrev pub SystemValuesAreNow : Type 0
SystemValuesAreNow = (x : Setting) (js : List Line) (s : Stored) (o : Holding) (t : Term) (v : Val) → IsTaken o s → IsBeside x js s o → ValueOf (system_now o) t v → value_now x js t ≡ v

-- The laws, as statements.
use Rattle.std.specs.Prelude.{ℕ, List, ◌++◌}
use Rattle.ae_ages.specs.Laws.{AreJustifiedAges}
use Rattle.ae_ages.specs.declared.entries.Aged.{Aged}
use Rattle.ae_journal.specs.Standing.{Setting}
use Rattle.ae_journal.specs.declared.lines.Line.{Line}
use Rattle.ae_owed.specs.Generations.{IsJustified}
use Rattle.ae_owed.specs.Instances.{Instance}
use Rattle.ae_owed.specs.Recorded.{AreRecorded}
use Rattle.ae_searching.specs.Steps.{NotesNoInstance}
use Rattle.ae_store.specs.Stores.{Stored}

-- what is known is brought by a journal's lines after more of them, `Back` lines or others
abbrev pub JustifiedStay : Type 0
JustifiedStay = (x : Setting) (bound : ℕ) (s : Stored) (js ls : List Line) → IsJustified x bound s js → IsJustified x bound s (js ++ ls)

abbrev pub JustifiedAgesStay : Type 0
JustifiedAgesStay = (x : Setting) (bound : ℕ) (es : List Aged) (js ls : List Line) → AreJustifiedAges x bound es js → AreJustifiedAges x bound es (js ++ ls)

-- and the instances are those of the journal's lines, where none of the lines that come is that of an instance
abbrev pub RecordsStay : Type 0
RecordsStay = (x : Setting) (bound : ℕ) (old new : List Line) (instances : List Instance) → NotesNoInstance old new → AreRecorded x old bound instances → AreRecorded x new bound instances

-- What may come between two looks at the rows of inequalities.
use Rattle.std.specs.Prelude.{◌≡◌, ◌<◌, length}
use Rattle.std.specs.List.{Contains}
use Rattle.ae_between_rounds.specs.declared.search.Search.{Search}
use Rattle.ae_block_constants.specs.declared.opened.Opened.{Opened}
use Rattle.ae_sat.specs.Search.{Lengthens}
use Rattle.ae_searching.specs.Steps.{NotesNoCombination}
use Rattle.ae_theory.specs.Names.{Extends}

-- no line of the journal, where the trail, the names and the blocks only grow; or lines, none of them a combination of rows
pub data Passes (old new : Search) : Type 0 where
  rests : new.journal.lines ≡ old.journal.lines → Lengthens old.solver.propagation.trail new.solver.propagation.trail → Extends old.store new.store
      → ((o : Opened) → Contains old.blocks.opened o → Contains new.blocks.opened o) → Passes old new
  notes : NotesNoCombination old.journal.lines new.journal.lines → length old.journal.lines < length new.journal.lines → Passes old new

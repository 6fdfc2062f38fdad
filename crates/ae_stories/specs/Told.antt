-- The story of a search that was stopped: the names of its store, and the lines that it noted.
use Rattle.std.specs.Prelude.{ℕ, List}
use Rattle.ae_core.specs.declared.formulas.Formula.{Formula}
use Rattle.ae_core.specs.declared.problems.Problem.{Problem}
use Rattle.ae_journal.specs.Legal.{setting}
use Rattle.ae_journal.specs.Standing.{Setting}
use Rattle.ae_journal.specs.declared.lines.Line.{Line}
use Rattle.ae_journal.specs.declared.lines.Story.{Story}
use Rattle.ae_store.specs.Stores.{Stored}
use Rattle.ae_theory.specs.Names.{terms_in}

abbrev pub told : Stored → List Line → Story
told s js = record { names = terms_in s; lines = js }

-- the search for a goal, whose names are those of the store
abbrev pub told_setting : Problem → ℕ → Stored → List Line → (Formula → ℕ) → Setting
told_setting p g s js fresh = setting p g (told s js) fresh

-- A search with one clause more.
use Rattle.std.specs.Prelude.{ℕ, ◌<◌, List, [], length}
use Rattle.ae_ages.specs.declared.entries.Aged.{Aged}
use Rattle.ae_between_rounds.specs.Between.{Holds, IsSearchingBelow}
use Rattle.ae_between_rounds.specs.declared.search.Search.{Search}
use Rattle.ae_brought_clauses.specs.Brought.{AreBrought}
use Rattle.ae_core.specs.declared.problems.Problem.{Problem}
use Rattle.ae_rules.specs.Clauses.{Clause}
use Rattle.ae_store.specs.Stores.{Stored}
use Rattle.ae_theory.specs.Names.{Extends}

-- the greatest generation: nothing of it is matched
abbrev pub latest : ℕ
latest = 4294967295

-- the terms of a clause have names; those that are new are of the greatest generation
abbrev pub AreNamedLast : Stored → Stored → Clause → Type 0
AreNamedLast old new c = (es : List Aged) × AreBrought [] latest old [] new es c

-- the search goes on with more names, lines and clauses
pub record Adds (p : Problem) (g bound : ℕ) (old new : Search) : Type 0 where
  pub searching : (level : ℕ) → IsSearchingBelow p g bound level old → IsSearchingBelow p g bound level new
  pub holds : Holds p g bound new
  pub extends : Extends old.store new.store
  pub lines : length old.lines.items < length new.lines.items

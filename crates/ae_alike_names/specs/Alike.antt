-- Names that are the same: beside the terms of a system, and beside the equations of a journal.
use Rattle.std.specs.Prelude.{ℕ, List, ◌≡◌}
use Rattle.ae_block_constants.specs.declared.opened.Opened.{Opened}
use Rattle.ae_combine.specs.Marks.{IsMarkOf}
use Rattle.ae_combine.specs.declared.state.Mark.{Mark}
use Rattle.ae_core.specs.declared.problems.Problem.{Problem}
use Rattle.ae_core.specs.declared.proofs.ClauseLine.{ClauseLine}
use Rattle.ae_journal.specs.Standing.{Setting}
use Rattle.ae_journal.specs.declared.lines.Line.{Line}
use Rattle.ae_owed.specs.Laws.{HoldNow}
use Rattle.ae_owed.specs.Owed.{AreThoseAlike}
use Rattle.ae_sat.specs.declared.solver.Solver.{Solver}
use Rattle.ae_searching.specs.Searching.{IsSearching}
use Rattle.ae_searching.specs.Told.{IsToldIn}
use Rattle.ae_state.specs.Fitting.{FitsStore}
use Rattle.ae_state.specs.Names.{assumed_in, system_now}
use Rattle.ae_state.specs.Stepping.{IsInStep}
use Rattle.ae_state.specs.declared.holding.Holding.{Holding}
use Rattle.ae_store.specs.Stores.{Stored}
use Rattle.ae_theory.specs.Names.{Extends}
use Rattle.ae_theory.specs.Noting.{MayAll, literals}
use Rattle.ae_turns.specs.Representing.{IsTaken}
use Rattle.ae_value_table.specs.Alike.{alike}

-- where all names of the store have values, those that are alike are those whose terms are the same in the system
abbrev pub AlikeNamesAreSame : Type 0
AlikeNamesAreSame = (o : Holding) (s : Stored) → IsTaken o s → AreThoseAlike s (alike o.values) (system_now o)

-- where the literals that are assumed may stand, names that are alike are equal by equations that may stand, also among those of a store that has more names
abbrev pub AlikeNamesAreEqualNow : Type 0
AlikeNamesAreEqualNow = (x : Setting) (o : Holding) (s more : Stored) (js : List Line) → x.problem.signature ≡ s.signature → IsTaken o s → Extends s more
    → MayAll x (literals (assumed_in o)) js → HoldNow x more (alike o.values) js

-- ---- in a search
module _ (p : Problem) (g bound level : ℕ) (s : Stored) (opened : List Opened) (o : Solver Holding Mark) (lines : List ClauseLine) (js : List Line) where
  abbrev pub IsSearchingNow : Type 0
  IsSearchingNow = IsSearching FitsStore assumed_in IsMarkOf IsInStep p g bound s opened level o lines js

-- what is assumed may stand
abbrev pub AssumedLiteralsMayStand : Type 0
AssumedLiteralsMayStand = (p : Problem) (g bound level : ℕ) (s : Stored) (opened : List Opened) (o : Solver Holding Mark) (lines : List ClauseLine) (js : List Line)
    → IsSearchingNow p g bound level s opened o lines js → (x : Setting) → IsToldIn p g s opened x → MayAll x (literals (assumed_in o.theory)) js

-- so names that are alike are equal by equations that may stand, also after names came in that have no values yet
abbrev pub AlikeNamesAreEqualInSearches : Type 0
AlikeNamesAreEqualInSearches = (p : Problem) (g bound level : ℕ) (s more : Stored) (opened : List Opened) (o : Solver Holding Mark) (lines : List ClauseLine) (js : List Line)
    → IsTaken o.theory s → Extends s more → IsSearchingNow p g bound level more opened o lines js → (x : Setting) → IsToldIn p g more opened x → HoldNow x more (alike o.theory.values) js

-- Searches before and after a run of the solver.
use Rattle.std.specs.Prelude.{ℕ, List}
use Rattle.std.specs.List.{AllByRecursion}
use Rattle.ae_between_rounds.specs.Between.{IsBetweenRounds, IsSearchingBelow}
use Rattle.ae_between_rounds.specs.declared.search.Search.{Search}
use Rattle.ae_core.specs.declared.formulas.Formula.{Formula}
use Rattle.ae_core.specs.declared.problems.Problem.{Problem}
use Rattle.ae_core.specs.declared.proofs.Block.{Block}
use Rattle.ae_core.specs.declared.proofs.ClauseLine.{ClauseLine}
use Rattle.ae_kept_blocks.specs.Kept.{GoesOnOver}
use Rattle.ae_propagation.specs.Settled.{last_level}
use Rattle.ae_rules.specs.Clauses.{Clause}
use Rattle.ae_sat.specs.Lines.{AddsLinesOver, IsBuiltLine}
use Rattle.ae_sat.specs.Marked.{atoms}
use Rattle.ae_sat.specs.Search.{AddsLearnt, AllAmong, HasParts}
use Rattle.ae_sat.specs.Standing.{IsOneOf}
use Rattle.ae_searching.specs.Steps.{NotesNoInstance}
use Rattle.ae_store.specs.Stores.{Stored}
use Rattle.ae_theory.specs.Names.{terms_in}
use Rattle.ae_theory.specs.Noting.{IsBlockOf}

-- the lines that come in are over the formulas of the clauses
abbrev pub ComesOver : Stored → List Clause → List ClauseLine → List ClauseLine → Type 0
ComesOver s clauses old new = (fs : List Formula) → HasParts fs → AllAmong fs clauses → AddsLinesOver s fs old new

-- the search with what a run leaves
abbrev pub run_to : Search → Search → Search
run_to o n = record o { solver = n.solver; journal = n.journal; lines = n.lines }

abbrev pub RunsKeepRounds : Type 0
RunsKeepRounds = (p : Problem) (g bound : ℕ) (o n : Search) → IsBetweenRounds p g bound o → IsSearchingBelow p g bound (last_level n.solver.propagation.trail) (run_to o n)
    → ((c : Clause) → IsOneOf o.solver.propagation.clauses c → IsOneOf n.solver.propagation.clauses c) → GoesOnOver o.solver.propagation.clauses n.solver.propagation.clauses
    → ComesOver o.store o.solver.propagation.clauses o.lines.items n.lines.items → NotesNoInstance o.journal.lines n.journal.lines → IsBetweenRounds p g bound (run_to o n)

abbrev pub LearntLinesComeOver : Type 0
LearntLinesComeOver = (p : Problem) (g bound : ℕ) (o : Search) (b : Block) (tags : List ℕ) (new : List ClauseLine) → IsBetweenRounds p g bound o → IsBlockOf (atoms o.solver.propagation.trail) b.deriv.hyps tags
    → AllByRecursion (IsBuiltLine o.store.signature (terms_in o.store)) b.deriv.lines → AddsLearnt b o.solver.propagation.clauses o.lines.items new
    → ComesOver o.store o.solver.propagation.clauses o.lines.items new

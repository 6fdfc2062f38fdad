-- Rows that a search keeps from one round of its inequalities to the next.
use Rattle.std.specs.Prelude.{ℕ, ◌≤◌, ◌≡◌, length, Option, Some}
use Rattle.ae_between_rounds.specs.declared.search.Search.{Search}
use Rattle.ae_core.specs.declared.problems.Problem.{Problem}
use Rattle.ae_journal.specs.Standing.{Setting}
use Rattle.ae_kept_rows.specs.Kept.{AgreeAt, AreKeptAt}
use Rattle.ae_kept_rows.specs.declared.kept.KeptRows.{KeptRows}
use Rattle.ae_searching.specs.Told.{IsToldIn}

-- while the journal has just the lines that it had at their last answer, they are right for the trail and agree with the journal; otherwise the last line is no combination
pub record AreOrdersOf (p : Problem) (g : ℕ) (o : Search) (k : Option KeptRows) : Type 0 where
  pub kept : AreKeptAt o.store o.solver.propagation.trail (length o.journal.lines) k
  pub past : (r : KeptRows) → k ≡ Some r → r.lines ≤ length o.journal.lines
  pub agree : (x : Setting) → IsToldIn p g o.store o.blocks.opened x → AgreeAt x o.journal.lines o.solver.propagation.trail k

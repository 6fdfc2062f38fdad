-- The turns of a search: a step, and a run of the solver behind it. What each of them adds, and what it leaves less of.
use Rattle.std.specs.Prelude.{ℕ, ◌<◌, ◌≤◌, ◌≡◌, ◌⊎◌, length, Option, Some, None, Result, Ok, Err}
use Rattle.ae_between_rounds.specs.Between.{IsBetweenRounds}
use Rattle.ae_between_rounds.specs.Finished.{IsOpenSearch}
use Rattle.ae_between_rounds.specs.declared.search.Search.{Search}
use Rattle.ae_block_counts.specs.Counts.{quantifiers_left}
use Rattle.ae_core.specs.declared.problems.Problem.{Problem}
use Rattle.ae_journal.specs.Journals.{counted_in}
use Rattle.ae_order_counts.specs.Counts.{orders_left}
use Rattle.ae_ordered_rounds.specs.Comes.{IsAsked}
use Rattle.ae_ordered_rounds.specs.Orders.{AreOrdersOf}
use Rattle.ae_ordered_rounds.specs.declared.orders.Orders.{Orders}
use Rattle.ae_rounds.specs.Ended.{HasEnded, HasFailed}
use Rattle.ae_rounds.specs.declared.progress.Added.{Added}
use Rattle.ae_rounds.specs.declared.progress.Added.TheVariants as added
use Rattle.ae_rounds.specs.declared.progress.End.{End}
use Rattle.ae_rounds.specs.declared.progress.Progress.{Progress}
use Rattle.ae_rounds.specs.declared.progress.Progress.TheVariants as progress
use Rattle.ae_theory.specs.declared.theory.Fail.{Fail}

-- ---- the numbers of a search
-- the lines that are counted
abbrev pub counted : Search → ℕ
counted o = counted_in o.journal.lines

-- the quantifiers of blocks that are left to open
abbrev pub quantifiers_to_open : Search → ℕ
quantifiers_to_open o = quantifiers_left o.blocks.opened o.solver.propagation.clauses

-- the comparisons whose order is open
abbrev pub open_orders : Search → ℕ
open_orders o = orders_left o.solver.propagation.trail o.solver.propagation.clauses

-- ---- turns
-- more lines are counted; or as many, and fewer quantifiers are left; or no more quantifiers, and fewer orders are open
abbrev pub HasAdvanced : Added → Search → Search → Type 0
HasAdvanced added.Lines old new = counted old < counted new
HasAdvanced added.Blocks old new = (counted new ≡ counted old) × (quantifiers_to_open new < quantifiers_to_open old)
HasAdvanced added.Order old new = (counted new ≡ counted old) × (quantifiers_to_open new ≤ quantifiers_to_open old) × (open_orders new < open_orders old)

module _ (p : Problem) (g bound : ℕ) where
  -- nothing is left to do for the solver, and what is known of orders is right
  pub record IsBetweenTurns (o : Search) (k : Orders) : Type 0 where
    pub between : IsBetweenRounds p g bound o
    pub is_open : IsOpenSearch o
    pub orders : AreOrdersOf p g o k

  -- what a step adds: counted lines; blocks, without a counted line; or the clause of one open order alone
  abbrev pub HasAdded : Added → Search → Search → Type 0
  HasAdded added.Lines old new = counted old < counted new
  HasAdded added.Blocks old new = (counted new ≡ counted old) × (quantifiers_to_open new < quantifiers_to_open old)
  HasAdded added.Order old new = (counted new ≡ counted old) × IsAsked p old new

  -- a step: lines of the proof came, and what was added
  pub record IsStep (a : Added) (old new : Search) (k : Orders) : Type 0 where
    pub between : IsBetweenRounds p g bound new
    pub orders : AreOrdersOf p g new k
    pub lines : length old.lines.items < length new.lines.items
    pub added : HasAdded a old new

  -- a turn: lines of the proof came, nothing is left to do for the solver again, and the search has advanced
  pub record IsTurn (a : Added) (old new : Search) (k : Orders) : Type 0 where
    pub turns : IsBetweenTurns new k
    pub lines : length old.lines.items < length new.lines.items
    pub advanced : HasAdvanced a old new

  abbrev pub HasStepped : Search → Search → Orders → Result Progress Fail → Type 0
  HasStepped old new k (Ok (progress.Ended e)) = HasEnded p g bound new (Ok e)
  HasStepped old new k (Ok (progress.Added a)) = IsStep a old new k
  HasStepped old new k (Err e) = HasFailed p g bound new e

  -- the end of a step where a point satisfies the inequalities: instances were made, or none is owed and the search is at its end
  abbrev pub HasFinished : Search → Search → Orders → Result Progress Fail → Type 0
  HasFinished old new k (Ok (progress.Ended e)) = HasEnded p g bound new (Ok e)
  HasFinished old new k (Ok (progress.Added added.Lines)) = IsStep added.Lines old new k
  HasFinished old new k (Ok (progress.Added added.Blocks)) = ⊥
  HasFinished old new k (Ok (progress.Added added.Order)) = ⊥
  HasFinished old new k (Err e) = HasFailed p g bound new e

  abbrev pub HasTurned : Search → Search → Orders → Result Progress Fail → Type 0
  HasTurned old new k (Ok (progress.Ended e)) = HasEnded p g bound new (Ok e)
  HasTurned old new k (Ok (progress.Added a)) = IsTurn a old new k
  HasTurned old new k (Err e) = HasFailed p g bound new e

  -- after some turns: the search is at its end, or lines more are counted, or as many are and fewer quantifiers are left to open
  abbrev pub HasGoneOn : Search → Search → Orders → Result (Option End) Fail → Type 0
  HasGoneOn old new k (Ok (Some e)) = HasEnded p g bound new (Ok e)
  HasGoneOn old new k (Ok None) = IsBetweenTurns new k × ((counted old < counted new) ⊎ ((counted new ≡ counted old) × (quantifiers_to_open new < quantifiers_to_open old)))
  HasGoneOn old new k (Err e) = HasFailed p g bound new e

  -- after some turns: the search is at its end, or lines more are counted
  abbrev pub HasCounted : Search → Search → Orders → Result (Option End) Fail → Type 0
  HasCounted old new k (Ok (Some e)) = HasEnded p g bound new (Ok e)
  HasCounted old new k (Ok None) = IsBetweenTurns new k × (counted old < counted new)
  HasCounted old new k (Err e) = HasFailed p g bound new e

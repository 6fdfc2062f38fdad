-- What a run of the solver, the opening of blocks, the making of instances, and a search come to.
use Rattle.std.specs.Prelude.{ℕ, ◌<◌, ◌≤◌, ◌≡◌, Bool, true, false, List, length, Result, Ok, Err}
use Rattle.std.specs.List.{AllByRecursion}
use Rattle.ae_between_rounds.specs.Between.{IsBetweenRounds, IsStopped}
use Rattle.ae_between_rounds.specs.Finished.{IsFinishedAt, IsInstantiatedBy, IsOpenSearch}
use Rattle.ae_between_rounds.specs.Passing.{Passes}
use Rattle.ae_between_rounds.specs.declared.search.Search.{Search}
use Rattle.ae_block_counts.specs.Counts.{quantifiers_left}
use Rattle.ae_core.specs.declared.problems.Problem.{Problem}
use Rattle.ae_journal.specs.Journals.{counted_in}
use Rattle.ae_journal.specs.Licences.{IsLicensed}
use Rattle.ae_journal.specs.Standing.{Setting}
use Rattle.ae_journal.specs.declared.answers.WideAt.{WideAt}
use Rattle.ae_journal.specs.declared.systems.PointAt.{PointAt}
use Rattle.ae_kept_blocks.specs.Kept.{GoesOnOver}
use Rattle.ae_opening.specs.Asking.{AllServed}
use Rattle.ae_rounds.specs.declared.progress.End.{End}
use Rattle.ae_rounds.specs.declared.progress.End.TheVariants as end
use Rattle.ae_rules.specs.Clauses.{Clause}
use Rattle.ae_sat.specs.Search.{Brings, EndsEmpty}
use Rattle.ae_sat.specs.Standing.{IsOneOf}
use Rattle.ae_sat.specs.declared.run.SatEnd.{SatEnd}
use Rattle.ae_sat.specs.declared.run.SatEnd.TheVariants as sat_end
use Rattle.ae_searching.specs.Told.{IsToldIn}
use Rattle.ae_stategrammar.specs.Points.{PointStands}
use Rattle.ae_theory.specs.declared.theory.Fail.{Fail}
use Rattle.ae_theory.specs.declared.theory.Fail.TheVariants as fail

module _ (p : Problem) (g bound : ℕ) where
  -- all lines are lawful, and as many are counted as may be; or they license a width that leaves the limits
  abbrev pub IsFull : Search → Type 0
  IsFull o = IsStopped p g bound o × (counted_in o.journal.lines ≡ o.journal.limit)

  abbrev pub IsWide : Search → WideAt → Type 0
  IsWide o wide = IsStopped p g bound o × ((x : Setting) → IsToldIn p g o.store o.blocks.opened x → IsLicensed x o.journal.lines wide)

  -- it stopped for a reason
  abbrev pub HasFailed : Search → Fail → Type 0
  HasFailed o fail.Steps = IsFull o
  HasFailed o (fail.Number wide) = IsWide o wide
  HasFailed o (fail.Memory failed) = Unit {0}

  -- it goes on, and the lines end with the empty clause
  abbrev pub IsRefuted : Search → Type 0
  IsRefuted o = IsBetweenRounds p g bound o × EndsEmpty o.lines.items

  -- neither the solver nor a block, an inequality or an instance is left; the point has a text
  pub record IsSettledAt (o : Search) (point : List PointAt) : Type 0 where
    pub finished : IsFinishedAt p g bound o point
    pub written : AllByRecursion PointStands point

  -- after a run that leaves the solver nothing to do no line and no clause is gone, and no formula has come but parts of those that were there;
  -- where no line was counted, no literal was taken back, none decided, and each new clause is a row that a true literal calls for
  pub record HasSettled (old new : Search) : Type 0 where
    pub between : IsBetweenRounds p g bound new
    pub is_open : IsOpenSearch new
    pub lines : length old.lines.items ≤ length new.lines.items
    pub passes : Passes old new
    pub blocks : new.blocks ≡ old.blocks
    pub counted : counted_in old.journal.lines ≤ counted_in new.journal.lines
    pub kept : (c : Clause) → IsOneOf old.solver.propagation.clauses c → IsOneOf new.solver.propagation.clauses c
    pub over : GoesOnOver old.solver.propagation.clauses new.solver.propagation.clauses
    pub still : counted_in new.journal.lines ≡ counted_in old.journal.lines
        → Brings old.solver.propagation.trail old.solver.propagation.clauses new.solver.propagation.trail new.solver.propagation.clauses

  abbrev pub HasRun : Search → Search → Result SatEnd Fail → Type 0
  HasRun old new (Ok sat_end.Refuted) = IsRefuted new
  HasRun old new (Ok sat_end.Open) = HasSettled old new
  HasRun old new (Err e) = HasFailed new e

  -- blocks were opened and no line was noted, and fewer quantifiers are left; or none asks for terms, and nothing has changed
  pub record HaveOpened (old new : Search) : Type 0 where
    pub between : IsBetweenRounds p g bound new
    pub lines : length old.lines.items < length new.lines.items
    pub passes : Passes old new
    pub journal : new.journal ≡ old.journal
    pub falls : quantifiers_left new.blocks.opened new.solver.propagation.clauses < quantifiers_left old.blocks.opened old.solver.propagation.clauses

  abbrev pub HasOpened : Search → Search → Result Bool Fail → Type 0
  HasOpened old new (Ok true) = HaveOpened old new
  HasOpened old new (Ok false) = (new ≡ old) × AllServed old.solver.propagation.trail old.blocks.opened
  HasOpened old new (Err e) = HasFailed new e

  -- instance lines came, which are counted, or none is owed, where only generations may have fallen
  pub record IsInstantiatedFrom (old new : Search) : Type 0 where
    pub between : IsBetweenRounds p g bound new
    pub is_open : IsOpenSearch new
    pub instantiated : IsInstantiatedBy p g bound new
    pub solver : new.solver ≡ old.solver
    pub blocks : new.blocks ≡ old.blocks

  abbrev pub HasMade : Search → Search → Result Bool Fail → Type 0
  HasMade old new (Ok true) = IsBetweenRounds p g bound new × (length old.lines.items < length new.lines.items) × Passes old new × (counted_in old.journal.lines < counted_in new.journal.lines)
  HasMade old new (Ok false) = IsInstantiatedFrom old new
  HasMade old new (Err e) = HasFailed new e

  -- a search is at its end, or was stopped
  abbrev pub HasEnded : Search → Result End Fail → Type 0
  HasEnded o (Ok end.Refuted) = IsRefuted o
  HasEnded o (Ok (end.Open point)) = IsSettledAt o point
  HasEnded o (Err e) = HasFailed o e

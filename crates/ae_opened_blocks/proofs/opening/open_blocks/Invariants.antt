use Rattle.std.proofs.Common.{◌≡◌, ◌<◌, true, false, length}
use Rattle.ae_between_rounds.specs.Between.{IsBetweenRounds}
use Rattle.ae_between_rounds.specs.Passing.{Passes}
use Rattle.ae_block_counts.specs.Counts.{quantifiers_left}
use Rattle.ae_opened_blocks.proofs.opening.open_blocks.Given as goal

abbrev pub invariant-openings : goal.invariant-openings
invariant-openings v l = record {
  between : IsBetweenRounds l.task.problem.now l.task.goal l.task.generations l.search;
  none : l.some ≡ false → l.search ≡ l.fn.search;
  lines : l.some ≡ true → length l.fn.search.lines.items < length l.search.lines.items;
  journal : l.search.journal ≡ l.fn.search.journal;
  passes : Passes l.fn.search l.search;
  falls : l.some ≡ true → quantifiers_left l.search.blocks.opened l.search.solver.propagation.clauses < quantifiers_left l.fn.search.blocks.opened l.fn.search.solver.propagation.clauses;
}

-- the quantifiers that are left to open
abbrev pub decreases-openings : goal.decreases-openings
decreases-openings v l = quantifiers_left l.search.blocks.opened l.search.solver.propagation.clauses

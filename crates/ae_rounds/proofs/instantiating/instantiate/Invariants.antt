use Rattle.std.specs.Prelude.{◌≡◌, ◌-◌, ◌^◌, length}
use Rattle.ae_between_rounds.specs.Between.{IsBetweenRounds}
use Rattle.ae_between_rounds.specs.Finished.{IsOpenSearch}
use Rattle.ae_rounds.proofs.instantiating.instantiate.Given as goal

abbrev pub invariant-matches : goal.invariant-matches
invariant-matches g l = record {
  between : IsBetweenRounds l.task.problem.now l.task.goal l.task.generations l.search;
  is_open : IsOpenSearch l.search;
  solver : l.search.solver ≡ l.initial.search.solver;
  blocks : l.search.blocks ≡ l.initial.search.blocks;
  journal : l.search.journal ≡ l.initial.search.journal;
  lines : l.search.lines ≡ l.initial.search.lines;
}

abbrev pub decreases-matches : goal.decreases-matches
decreases-matches g l = 2 ^ 64 - length l.search.instances.made

use Rattle.std.specs.Prelude.{◌≡◌, ◌-◌}
use Rattle.ae_rounds.proofs.turns.run_turns.Given as goal
use Rattle.ae_rounds.specs.Turns.{counted, IsBetweenTurns}

abbrev pub invariant-counting : goal.invariant-counting
invariant-counting g l = record {
  turns : IsBetweenTurns l.task.problem.now l.task.goal l.task.generations l.search l.orders;
  limit : l.search.journal.limit ≡ l.initial.search.journal.limit;
}

abbrev pub decreases-counting : goal.decreases-counting
decreases-counting g l = l.search.journal.limit - counted l.search

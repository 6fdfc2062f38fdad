use Rattle.std.specs.Prelude.{◌≡◌}
use Rattle.ae_rounds.proofs.turns.turns_of_blocks.Given as goal
use Rattle.ae_rounds.specs.Turns.{counted, quantifiers_to_open, IsBetweenTurns}

abbrev pub invariant-openings : goal.invariant-openings
invariant-openings g l = record {
  turns : IsBetweenTurns l.task.problem.now l.task.goal l.task.generations l.search l.orders;
  limit : l.search.journal.limit ≡ l.initial.search.journal.limit;
  as_many : counted l.search ≡ counted l.initial.search;
}

abbrev pub decreases-openings : goal.decreases-openings
decreases-openings g l = quantifiers_to_open l.search

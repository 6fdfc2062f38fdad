use Rattle.std.specs.Prelude.{◌≡◌, ◌≤◌}
use Rattle.ae_rounds.proofs.turns.turns_of_orders.Given as goal
use Rattle.ae_rounds.specs.Turns.{counted, open_orders, quantifiers_to_open, IsBetweenTurns}

abbrev pub invariant-orders : goal.invariant-orders
invariant-orders g l = record {
  turns : IsBetweenTurns l.task.problem.now l.task.goal l.task.generations l.search l.orders;
  limit : l.search.journal.limit ≡ l.initial.search.journal.limit;
  as_many : counted l.search ≡ counted l.initial.search;
  no_more : quantifiers_to_open l.search ≤ quantifiers_to_open l.initial.search;
}

abbrev pub decreases-orders : goal.decreases-orders
decreases-orders g l = open_orders l.search

-- How rows that a search keeps stay right.
use Rattle.std.specs.Prelude.{ℕ, [], ◌≡◌, Option, None}
use Rattle.ae_between_rounds.specs.Passing.{Passes}
use Rattle.ae_between_rounds.specs.declared.search.Search.{Search}
use Rattle.ae_core.specs.declared.problems.Problem.{Problem}
use Rattle.ae_kept_orders.specs.Orders.{AreOrdersOf}
use Rattle.ae_kept_rows.specs.declared.kept.KeptRows.{KeptRows}

-- where nothing was noted, and the trail, the names and the blocks have only grown, they can be gone on with; where other lines were noted, they are made anew
abbrev pub OrdersStay : Type 0
OrdersStay = (p : Problem) (g : ℕ) (old new : Search) (k : Option KeptRows) → Passes old new → AreOrdersOf p g old k → AreOrdersOf p g new k

abbrev pub OrdersBegin : Type 0
OrdersBegin = (p : Problem) (g : ℕ) (o : Search) (k : Option KeptRows) → o.journal.lines ≡ [] → k ≡ None → AreOrdersOf p g o k

-- What is kept of the inequalities, and when it is right.
use Rattle.std.specs.Prelude.{ℕ, [], ◌≡◌, None}
use Rattle.ae_between_rounds.specs.Passing.{Passes}
use Rattle.ae_between_rounds.specs.declared.search.Search.{Search}
use Rattle.ae_core.specs.declared.problems.Problem.{Problem}
use Rattle.ae_ordered_rounds.specs.declared.orders.Orders.{Orders}
use Rattle.ae_solved_orders.specs.Passed as rows

abbrev pub AreOrdersOf : Problem → ℕ → Search → Orders → Type 0
AreOrdersOf p g o k = rows.AreOrdersOf p g o k.kept

abbrev pub OrdersStay : Type 0
OrdersStay = (p : Problem) (g : ℕ) (o n : Search) (k : Orders) → Passes o n → AreOrdersOf p g o k → AreOrdersOf p g n k

abbrev pub OrdersBegin : Type 0
OrdersBegin = (p : Problem) (g : ℕ) (o : Search) (k : Orders) → o.journal.lines ≡ [] → k.kept ≡ None → AreOrdersOf p g o k

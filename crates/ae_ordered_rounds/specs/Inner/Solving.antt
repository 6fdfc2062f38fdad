-- Rows that are solved, and what they come to.
use Rattle.std.specs.Prelude.{ℕ, ◌≡◌, List, length, Some}
use Rattle.std.specs.List.{AllByRecursion}
use Rattle.ae_between_rounds.specs.Finished.{IsPointOf}
use Rattle.ae_between_rounds.specs.declared.search.Search.{Search}
use Rattle.ae_core.specs.declared.problems.Problem.{Problem}
use Rattle.ae_inequalities.specs.Points.{IsPointNumber}
use Rattle.ae_inequalities.specs.Tight.{AreTightRows}
use Rattle.ae_inequalities.specs.declared.answer.Ineq.TheVariants.{Point, Contradiction, Tight}
use Rattle.ae_inequalities.specs.declared.rows.Row.{Row}
use Rattle.ae_journal.specs.declared.systems.PointAt.{PointAt}
use Rattle.ae_sat.specs.Marked.{atoms}
use Rattle.ae_solved_orders.specs.Passed.{AreOrdersOf, Solved}
use Rattle.ae_strict_rows.specs.Found.{IsFoundIn}
use Rattle.ae_theory.specs.Noting.{IsBlockOf}
use Rattle.ae_theory.specs.declared.theory.Explained.{Explained}

-- they can be gone on with, and their answer is right
pub record IsSolved (p : Problem) (g : ℕ) (o : Search) (r : Solved) : Type 0 where
  pub lines : r.kept.lines ≡ length o.journal.lines
  pub orders : AreOrdersOf p g o (Some r.kept)
  pub point : (made : List PointAt) → r.found ≡ Point made → IsPointOf o made
  pub stand : (made : List PointAt) → r.found ≡ Point made → AllByRecursion IsPointNumber made
  pub contradiction : (e : Explained) → r.found ≡ Contradiction e → IsFoundIn o.store o.solver.propagation.trail e
  pub tight : (rows : List Row) → r.found ≡ Tight rows → AreTightRows o.store r.kept.bounds rows × AllByRecursion (λ row. IsBlockOf (atoms o.solver.propagation.trail) row.from.deriv.hyps row.from.tags) rows

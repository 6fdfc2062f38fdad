-- Rows that were solved are so in the search that they leave.
use Rattle.std.specs.Prelude.{ℕ, ◌≡◌, List, length, Some}
use Rattle.std.specs.List.{AllByRecursion}
use Rattle.std.proofs.Common.{sym, ap, subst}
use Rattle.ae_between_rounds.specs.Finished.{IsPointOf}
use Rattle.ae_between_rounds.specs.declared.search.Search.{Search}
use Rattle.ae_bound_blocks.specs.Said.{AreBuilt}
use Rattle.ae_core.specs.declared.problems.Problem.{Problem}
use Rattle.ae_explain.specs.declared.trail.Assigned.{Assigned}
use Rattle.ae_inequalities.specs.Points.{IsPointNumber}
use Rattle.ae_inequalities.specs.Tight.{AreTightRows}
use Rattle.ae_inequalities.specs.declared.answer.Ineq.TheVariants.{Point, Contradiction, Tight}
use Rattle.ae_inequalities.specs.declared.rows.Row.{Row}
use Rattle.ae_journal.specs.declared.systems.PointAt.{PointAt}
use Rattle.ae_ordered_rounds.specs.Inner.Solving.{IsSolved}
use Rattle.ae_rules.specs.Derivations.{IsContradictory}
use Rattle.ae_sat.specs.Marked.{atoms}
use Rattle.ae_solved_orders.specs.Passed.{AreOrdersOf, Solved}
use Rattle.ae_solved_orders.specs.Same.{IsSameButJournal}
use Rattle.ae_store.specs.Stores.{Stored}
use Rattle.ae_strict_rows.specs.Found.{IsFoundIn}
use Rattle.ae_theory.specs.Names.{terms_in}
use Rattle.ae_theory.specs.Noting.{IsBlockOf}
use Rattle.ae_theory.specs.declared.theory.Explained.{Explained}

module _ (p : Problem) (g : ℕ) (o n : Search) (same : IsSameButJournal o n) (r : Solved) where
  -- store and trail are those of before
  moved : (P : Stored → List Assigned → Type 0) → P o.store o.solver.propagation.trail → P n.store n.solver.propagation.trail
  moved P h = subst (λ (z : Stored × List Assigned). P z.0 z.1) (λ i. (sym same.store i, sym (ap (λ w. w.propagation.trail) same.solver) i)) h

  pub is_solved : r.kept.lines ≡ length n.journal.lines → AreOrdersOf p g n (Some r.kept) → ((made : List PointAt) → r.found ≡ Point made → IsPointOf n made)
      → ((made : List PointAt) → r.found ≡ Point made → AllByRecursion IsPointNumber made)
      → ((e : Explained) → r.found ≡ Contradiction e → IsContradictory o.store.signature e.block × IsBlockOf (atoms o.solver.propagation.trail) e.block.deriv.hyps e.tags)
      → ((e : Explained) → r.found ≡ Contradiction e → AreBuilt o.store.signature (terms_in o.store) e.block.deriv.lines)
      → ((rows : List Row) → r.found ≡ Tight rows → AreTightRows o.store r.kept.bounds rows × AllByRecursion (λ row. IsBlockOf (atoms o.solver.propagation.trail) row.from.deriv.hyps row.from.tags) rows)
      → IsSolved p g n r
  is_solved lines orders point stand contradiction built tight = record {
    lines = lines;
    orders = orders;
    point = point;
    stand = stand;
    contradiction = λ e i.
        let c = contradiction e i in
        moved (λ s t. IsFoundIn s t e) (record { contradictory = c.0; literals = c.1; built = built e i });
    tight = λ rows i. moved (λ s t. AreTightRows s r.kept.bounds rows × AllByRecursion (λ (row : Row). IsBlockOf (atoms t) row.from.deriv.hyps row.from.tags) rows) (tight rows i);
  }

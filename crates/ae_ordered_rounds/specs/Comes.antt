-- What a round of the inequalities comes to.
use Rattle.std.specs.Prelude.{ℕ, ◌<◌, ◌≤◌, ◌≡◌, ◌⊎◌, List, [], ◌∷◌, ◌++◌, length, Result, Some, Ok, Err}
use Rattle.std.specs.List.{AllByRecursion}
use Rattle.ae_between_rounds.specs.Between.{IsBetweenRounds, IsStopped}
use Rattle.ae_between_rounds.specs.Finished.{IsOpenSearch, IsPointOf}
use Rattle.ae_between_rounds.specs.declared.search.Search.{Search}
use Rattle.ae_core.specs.declared.problems.Problem.{Problem}
use Rattle.ae_core.specs.declared.terms.Term.{Term}
use Rattle.ae_journal.specs.Journals.{counted_in}
use Rattle.ae_journal.specs.Licences.{IsLicensed}
use Rattle.ae_journal.specs.Standing.{Setting}
use Rattle.ae_journal.specs.declared.systems.PointAt.{PointAt}
use Rattle.ae_order_counts.specs.Counts.{IsOrderOpen}
use Rattle.ae_ordered_rounds.specs.Orders.{AreOrdersOf}
use Rattle.ae_ordered_rounds.specs.declared.ordering.Ordered.{Ordered}
use Rattle.ae_ordered_rounds.specs.declared.ordering.Ordered.TheVariants as ordered
use Rattle.ae_ordered_rounds.specs.declared.orders.Orders.{Orders}
use Rattle.ae_rules.specs.Clauses.{Clause}
use Rattle.ae_rules.specs.Instances.{trichotomy}
use Rattle.ae_sat.specs.Search.{EndsEmpty}
use Rattle.ae_searching.specs.Told.{IsToldIn}
use Rattle.ae_solved_orders.specs.Same.{IsSameButJournal}
use Rattle.ae_stategrammar.specs.Points.{PointStands}
use Rattle.ae_theory.specs.declared.theory.Fail.{Fail}
use Rattle.ae_theory.specs.declared.theory.Fail.TheVariants as fail

-- the order of two numbers came in: the trail doesn't have it, and their clause is the only one that is new
pub record IsAsked (p : Problem) (old new : Search) : Type 0 where
  pub left : Term
  pub right : Term
  pub clause : Clause
  pub is : trichotomy p.signature left right ≡ Some clause
  pub clauses : new.solver.propagation.clauses ≡ old.solver.propagation.clauses ++ clause ∷ []
  pub trail : new.solver.propagation.trail ≡ old.solver.propagation.trail
  pub blocks : new.blocks ≡ old.blocks
  pub is_open : IsOrderOpen old.solver.propagation.trail left right

-- more lines are counted; or as many, and the order of two numbers came in
abbrev pub Advances : Problem → Search → Search → Type 0
Advances p old new =
    (counted_in old.journal.lines < counted_in new.journal.lines) ⊎ ((counted_in new.journal.lines ≡ counted_in old.journal.lines) × IsAsked p old new)

module _ (p : Problem) (g bound : ℕ) where
  -- the inequalities have a point, which has a text, and nothing but the journal has changed, of which no counted line is gone
  pub record HasPoint (old new : Search) (k : Orders) (made : List PointAt) : Type 0 where
    pub between : IsBetweenRounds p g bound new
    pub is_open : IsOpenSearch new
    pub point : IsPointOf new made
    pub orders : AreOrdersOf p g new k
    pub written : AllByRecursion PointStands made
    pub same : IsSameButJournal old new
    pub counted : counted_in old.journal.lines ≤ counted_in new.journal.lines

  -- the search's lines end with the empty clause; or it goes on, with more lines, and what is kept is right; or there is a point. It stops where as many lines
  -- are counted as may be, or where a width leaves the limits that the lines license
  abbrev pub HasOrdered : Search → Search → Orders → Result Ordered Fail → Type 0
  HasOrdered old new k (Ok ordered.Refuted) = IsBetweenRounds p g bound new × EndsEmpty new.lines.items
  HasOrdered old new k (Ok ordered.Added) = IsBetweenRounds p g bound new × (length old.lines.items < length new.lines.items) × AreOrdersOf p g new k × Advances p old new
  HasOrdered old new k (Ok (ordered.Point made)) = HasPoint old new k made
  HasOrdered old new k (Err fail.Steps) = IsStopped p g bound new × (counted_in new.journal.lines ≡ new.journal.limit)
  HasOrdered old new k (Err (fail.Number wide)) = IsStopped p g bound new × ((x : Setting) → IsToldIn p g new.store new.blocks.opened x → IsLicensed x new.journal.lines wide)
  HasOrdered old new k (Err (fail.Memory failed)) = Unit {0}

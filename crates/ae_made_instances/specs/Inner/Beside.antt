-- What a search holds beside the solver and the instances.
use Rattle.std.specs.Prelude.{ℕ, ◌≡◌, take, length}
use Rattle.ae_between_rounds.specs.Between.{Holds, IsSearchingBelow}
use Rattle.ae_between_rounds.specs.Fine.{AreFine, AreOrderless}
use Rattle.ae_between_rounds.specs.Held.{HasFirstOnes, HaveChoices, HaveConstants}
use Rattle.ae_between_rounds.specs.declared.search.Search.{Search}
use Rattle.ae_core.specs.declared.problems.Problem.{Problem}
use Rattle.ae_known.specs.Index.{HasHeads}
use Rattle.ae_orderless.specs.Orderless.{IsOrderlessGoal}
use Rattle.ae_store.specs.Stores.{IsStore}
use Rattle.ae_writable.specs.Numbers.{HasLowestNumerals}

pub record IsBeside (p : Problem) (g : ℕ) (o : Search) : Type 0 where
  pub store : IsStore o.store.signature o.store.nodes
  pub firsts : HasFirstOnes p g o.solver.propagation.clauses
  pub constants : HaveConstants p g o.blocks.next o.blocks.opened o.store o.lines.items o.solver.propagation.clauses
  pub choices : HaveChoices p.signature o.store o.looked o.solver.propagation.clauses
  pub heads : HasHeads (take o.looked o.store.nodes) o.known
  pub fine : HasLowestNumerals p → AreFine o.store o.lines.items o.solver.propagation.clauses
  pub orderless : IsOrderlessGoal p g → AreOrderless o.solver.propagation.clauses

-- a search while a batch is being made: it may have to go back to a level
pub record IsInBatch (p : Problem) (g bound level : ℕ) (o : Search) : Type 0 where
  pub searching : IsSearchingBelow p g bound level o
  pub looked : o.looked ≡ length o.store.nodes
  pub holds : Holds p g bound o

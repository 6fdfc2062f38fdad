-- What a search keeps between two rounds.
use Rattle.std.specs.Prelude.{ℕ, ◌≡◌, length, take}
use Rattle.ae_between_rounds.specs.Fine.{AreFine, AreOrderless}
use Rattle.ae_between_rounds.specs.Held.{HasFirstOnes, HaveConstants, HaveInstances, HaveChoices}
use Rattle.ae_between_rounds.specs.declared.search.Search.{Search}
use Rattle.ae_block_constants.specs.Blocks.{AreApart}
use Rattle.ae_combine.specs.Marks.{IsMarkOf}
use Rattle.ae_core.specs.declared.problems.Problem.{Problem}
use Rattle.ae_known.specs.Index.{HasHeads}
use Rattle.ae_orderless.specs.Orderless.{IsOrderlessGoal}
use Rattle.ae_propagation.specs.Settled.{last_level}
use Rattle.ae_searching.specs.Searching.{IsLawfulSoFar, IsSearching}
use Rattle.ae_state.specs.Fitting.{FitsStore}
use Rattle.ae_state.specs.Names.{assumed_in}
use Rattle.ae_state.specs.Stepping.{IsInStep}
use Rattle.ae_store.specs.Stores.{IsStore}
use Rattle.ae_writable.specs.Numbers.{HasLowestNumerals}

module _ (p : Problem) (g bound : ℕ) where
  -- the solver and the journal, where no given clause fires below a level
  abbrev pub IsSearchingBelow : ℕ → Search → Type 0
  IsSearchingBelow level o = IsSearching FitsStore assumed_in IsMarkOf IsInStep p g bound o.store o.blocks.opened level o.solver o.lines.items o.journal.lines

  abbrev pub IsLawfulSearch : Search → Type 0
  IsLawfulSearch o = IsLawfulSoFar p g bound o.store o.blocks.opened o.lines.items o.journal.lines

  -- what stands beside the solver
  pub record Holds (o : Search) : Type 0 where
    pub store : IsStore o.store.signature o.store.nodes
    pub firsts : HasFirstOnes p g o.solver.propagation.clauses
    pub constants : HaveConstants p g o.blocks.next o.blocks.opened o.store o.lines.items o.solver.propagation.clauses
    pub instances : HaveInstances p g bound o.store o.blocks.opened o.owners o.instances.made o.instances.taken.taken o.ages o.journal.lines
    pub choices : HaveChoices p.signature o.store o.looked o.solver.propagation.clauses
    pub heads : HasHeads (take o.looked o.store.nodes) o.known
    pub fine : HasLowestNumerals p → AreFine o.store o.lines.items o.solver.propagation.clauses
    pub orderless : IsOrderlessGoal p g → AreOrderless o.solver.propagation.clauses

  -- between two rounds: the search can be run, and all that it holds is right
  pub record IsBetweenRounds (o : Search) : Type 0 where
    pub searching : IsSearchingBelow (last_level o.solver.propagation.trail) o
    pub looked : o.looked ≡ length o.store.nodes
    pub holds : Holds o

  -- whatever a search came to: its lines are lawful so far, and the blocks that were opened have constants apart
  pub record IsStopped (o : Search) : Type 0 where
    pub lawful : IsLawfulSearch o
    pub apart : AreApart o.blocks.next o.blocks.opened
    pub signature : o.store.signature ≡ p.signature
    pub store : IsStore o.store.signature o.store.nodes

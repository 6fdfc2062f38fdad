-- What a search starts with: its first lines and those of enumerations, with their clauses, and names for what stands in them.
use Rattle.std.specs.Prelude.{ℕ, List, [], ◌≡◌}
use Rattle.ae_core.specs.Signatures.{IsLawfulProblem}
use Rattle.ae_core.specs.declared.problems.Problem.{Problem}
use Rattle.ae_core.specs.declared.problems.Signature.{Signature}
use Rattle.ae_core.specs.declared.proofs.ClauseLine.{ClauseLine}
use Rattle.ae_rules.specs.Clauses.{Clause}
use Rattle.ae_store.specs.Stores.{Stored, IsStore}
use Rattle.ae_theory.specs.Names.{terms_in}
use Rattle.ae_reach.specs.Reach.{IsInReach}
use Rattle.ae_goal_names.specs.Named.{HasNamed, all_terms}
use Rattle.ae_first_clauses.specs.First.{AreFirst}
use Rattle.ae_choice_clauses.specs.Choices.{AddsChoices}

-- a store of the signature that has names for what stands in the terms of the clauses, and for nothing else
pub record IsStoreOf (sig : Signature) (clauses : List Clause) (s : Stored) : Type 0 where
  pub right : IsStore s.signature s.nodes
  pub before : Stored
  pub signature : before.signature ≡ sig
  pub empty : terms_in before ≡ []
  pub named : HasNamed before s (all_terms clauses)

-- the search for a goal in reach of a lawful problem, from its first lines and those of enumerations
pub record IsStarted (p : Problem) (g : ℕ) (lines : List ClauseLine) (clauses : List Clause) (s : Stored) : Type 0 where
  pub lawful : IsLawfulProblem p
  pub reach : IsInReach p g
  -- the first lines with their clauses, and the names of what stands in them
  pub firsts : List ClauseLine
  pub first : List Clause
  pub begun : AreFirst p g firsts first
  pub before : Stored
  pub names : IsStoreOf p.signature first before
  -- what enumerations add to them
  pub choices : AddsChoices p g before s firsts lines first clauses
  pub right : IsStore s.signature s.nodes

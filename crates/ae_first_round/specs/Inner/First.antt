-- The names, ages and blocks that the first clauses bring.
use Rattle.std.specs.Prelude.{ℕ, List, [], ◌∷◌, ◌≡◌, Some}
use Rattle.std.specs.List.{Contains}
use Rattle.ae_ages.specs.Interned.{IsHad}
use Rattle.ae_ages.specs.Laws.{AreJustifiedAges}
use Rattle.ae_ages.specs.declared.entries.Aged.{Aged}
use Rattle.ae_block_constants.specs.Blocks.{variables}
use Rattle.ae_block_constants.specs.declared.opened.Opened.{Opened}
use Rattle.ae_core.specs.declared.formulas.Formula.{Formula, All}
use Rattle.ae_core.specs.declared.formulas.Lit.{Lit}
use Rattle.ae_core.specs.declared.formulas.Quant.{Quant}
use Rattle.ae_core.specs.declared.problems.Problem.{Problem}
use Rattle.ae_core.specs.declared.problems.Signature.{Signature}
use Rattle.ae_goal_names.specs.Named.{HasNamed, all_terms}
use Rattle.ae_journal.specs.InstanceLines.{HasGeneration}
use Rattle.ae_journal.specs.Standing.{Setting}
use Rattle.ae_owed.specs.Generations.{IsJustified}
use Rattle.ae_rules.specs.Clauses.{Clause}
use Rattle.ae_rules.specs.Derivations.{goal_body}
use Rattle.ae_store.specs.Stores.{Stored, IsStore}

-- the literals of clauses were brought at generation 0, where nothing was noted yet
pub record AreAllBrought (old : Stored) (es : List Aged) (new : Stored) (fs : List Aged) (cs : List Clause) : Type 0 where
  pub named : HasNamed old new (all_terms cs)
  pub had : (c : Clause) (l : Lit) → Contains cs c → Contains c l → IsHad new fs 0 l.formula
  pub stay : (h : Formula) → IsHad old es 0 h → IsHad new fs 0 h
  pub justified : (x : Setting) (bound : ℕ) → old.signature ≡ x.problem.signature → ((c : Clause) (l : Lit) → Contains cs c → Contains c l → HasGeneration x [] 0 l.formula)
      → IsJustified x bound old [] → AreJustifiedAges x bound es [] → IsJustified x bound new [] × AreJustifiedAges x bound fs []

-- a store of what stands in these clauses alone, with the ages of their quantified parts
pub record IsNamedFor (sig : Signature) (cs : List Clause) (s : Stored) (es : List Aged) : Type 0 where
  pub right : IsStore s.signature s.nodes
  pub before : Stored
  pub signature : before.signature ≡ sig
  pub empty : before.nodes ≡ []
  pub brought : AreAllBrought before [] s es cs

-- the block of the goal is opened, with the constants from 0 on; where the goal is no block, none is
pub record AreFirstBlocks (p : Problem) (g : ℕ) (opened : List Opened) (next : ℕ) : Type 0 where
  pub block : (q : Quant) → goal_body p g ≡ Some (All q) → (opened ≡ record { formula = All q; first = 0 } ∷ []) × (next ≡ variables (All q))
  pub none : ((q : Quant) → ¬ (goal_body p g ≡ Some (All q))) → (opened ≡ []) × (next ≡ 0)

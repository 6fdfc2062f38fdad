-- Rules and waiting equations that steps state, and what a new step rests on.
use Rattle.std.specs.Prelude.{ℕ, ◌<◌, ◌⊎◌, List, ◌++◌, length, Option}
use Rattle.std.specs.List.{AllByRecursion}
use Rattle.ae_core.specs.declared.terms.Term.{Term}
use Rattle.ae_core.specs.declared.problems.AcSymbol.{AcSymbol}
use Rattle.ae_core.specs.declared.problems.Signature.{Signature}
use Rattle.ae_store.specs.Parts.{IsIn}
use Rattle.ae_just.specs.declared.steps.Step.{Step}
use Rattle.ae_state_steps.specs.ManySteps.{StatesMany}
use Rattle.ae_multiset_steps.specs.Equating.{RestsOnThese, AreNamesOf}
use Rattle.ae_monoid.specs.declared.rules.Kept.{Kept}
use Rattle.ae_monoid.specs.Rules.{rule_at}
use Rattle.ae_rule_steps.specs.Said.{AreSaid, IsJustOf}
use Rattle.ae_equations.specs.declared.queue.Waiting.{Waiting}
use Rattle.ae_equations.specs.Held.{Contents}
use Rattle.ae_equations.specs.Queued.{waiting}

-- the equation is one of names of its symbol, no side is empty, and its step states it
pub record IsWaitingSaid (sig : Signature) (ts : List Term) (steps : List Step) (w : Waiting) : Type 0 where
  pub names : AreNamesOf sig ts w.symbol (w.left ++ w.right)
  pub left_some : 0 < length w.left
  pub right_some : 0 < length w.right
  pub states : StatesMany steps w.step w.symbol w.left w.right

-- all rules and all equations that wait
pub record IsHeld (sig : Signature) (ts : List Term) (steps : List Step) (c : Contents) : Type 0 where
  pub rules : AreSaid sig ts steps (λ n. rule_at c.rules n)
  pub waiting : AllByRecursion (IsWaitingSaid sig ts steps) (waiting c.queue)

-- each assumption on which the step of number id of new rests is one on which a given step of old rests, or the justification of a rule of the symbol
pub record RestsOnHeld (kept : ℕ → Option Kept) (symbol : AcSymbol) (given : List ℕ) (old new : List Step) (id : ℕ) : Type 0 where
  pub on : List ℕ
  pub are : (just : ℕ) → IsIn just on → IsIn just given ⊎ IsJustOf kept symbol just
  pub rests : RestsOnThese old new id on

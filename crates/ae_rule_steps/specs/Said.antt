-- Rules whose equations steps state, and what rests on such rules.
use Rattle.std.specs.Prelude.{ℕ, ◌≡◌, List, ◌++◌, Option, Some}
use Rattle.ae_core.specs.declared.terms.Term.{Term}
use Rattle.ae_core.specs.declared.problems.AcSymbol.{AcSymbol}
use Rattle.ae_core.specs.declared.problems.Signature.{Signature}
use Rattle.ae_store.specs.Parts.{IsIn}
use Rattle.ae_just.specs.declared.steps.Step.{Step}
use Rattle.ae_state_steps.specs.ManySteps.{StatesMany}
use Rattle.ae_multiset_steps.specs.Equating.{RestsOnThese, AreNamesOf}
use Rattle.ae_monoid.specs.declared.rules.Kept.{Kept}

-- the rule is one of names of its symbol, and the step of its justification states its equation
pub record IsSaid (sig : Signature) (ts : List Term) (steps : List Step) (rule : Kept) : Type 0 where
  pub names : AreNamesOf sig ts rule.entry.symbol (rule.entry.left ++ rule.entry.right)
  pub states : StatesMany steps rule.just rule.entry.symbol rule.entry.left rule.entry.right

-- each rule that stands
pub record AreSaid (sig : Signature) (ts : List Term) (steps : List Step) (kept : ℕ → Option Kept) : Type 0 where
  pub each : (n : ℕ) (rule : Kept) → kept n ≡ Some rule → IsSaid sig ts steps rule

-- a rule of the symbol stands with this justification
pub record IsJustOf (kept : ℕ → Option Kept) (symbol : AcSymbol) (just : ℕ) : Type 0 where
  pub number : ℕ
  pub rule : Kept
  pub there : kept number ≡ Some rule
  pub of : rule.entry.symbol ≡ symbol
  pub is : rule.just ≡ just

-- each assumption on which the step of number id of new rests is one on which the justification of a rule of the symbol rests
pub record RestsOnRules (kept : ℕ → Option Kept) (symbol : AcSymbol) (old new : List Step) (id : ℕ) : Type 0 where
  pub given : List ℕ
  pub are : (just : ℕ) → IsIn just given → IsJustOf kept symbol just
  pub rests : RestsOnThese old new id given

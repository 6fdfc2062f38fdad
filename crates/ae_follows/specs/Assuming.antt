-- The literals that a step rests on.
use Rattle.std.specs.Prelude.{ℕ, List, ◌≡◌, slice_get, Some}
use Rattle.ae_core.specs.declared.terms.Term.{Term}
use Rattle.ae_core.specs.declared.formulas.Lit.{Lit}
use Rattle.ae_just.specs.declared.steps.Step.{Step}
use Rattle.ae_just.specs.declared.steps.Rule.TheVariants.{Hyp}
use Rattle.ae_just.specs.Sides.{side_term}
use Rattle.ae_just.specs.Steps.{literal}
use Rattle.ae_just.specs.Needed.{RestsOn}

-- each literal that the step of number id rests on is one of these
pub record AssumesOnly (ts : List Term) (steps : List Step) (hyps : Lit → Type 0) (id : ℕ) : Type 0 where
  pub each : (k tag : ℕ) (s : Step) → RestsOn steps id k → slice_get steps k ≡ Some s → s.rule ≡ Hyp tag → hyps (literal ts s)

-- each of them says that two terms are equal which E relates
pub record AssumesEquations (ts : List Term) (steps : List Step) (E : Term → Term → Type 0) (id : ℕ) : Type 0 where
  pub each : (k tag : ℕ) (s : Step) → RestsOn steps id k → slice_get steps k ≡ Some s → s.rule ≡ Hyp tag → E (side_term ts s.left) (side_term ts s.right)

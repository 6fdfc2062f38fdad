-- One step that is added, and values that steps state. The equation of a value is `den * name = sum`.
use Rattle.std.specs.Prelude.{ℕ, Bool, List, [], ◌∷◌, ◌++◌, ◌≡◌, length}
use Rattle.ae_core.specs.declared.terms.Term.{Term}
use Rattle.ae_core.specs.declared.problems.Signature.{Signature}
use Rattle.ae_num.specs.declared.forms.Lin.{Lin}
use Rattle.ae_just.specs.declared.steps.Rule.{Rule}
use Rattle.ae_just.specs.declared.steps.Side.{Side}
use Rattle.ae_just.specs.declared.steps.Step.{Step}
use Rattle.ae_just.specs.Steps.{premises, tag_of}
use Rattle.ae_state_steps.specs.ValueSteps.{IsWritten, StatesValue}

-- one step more, of this number: it equates the two sides, assumes nothing, and rests on the steps of these numbers
pub record AddsStep (old new : List Step) (id : ℕ) (left right : Side) (rests : List ℕ) : Type 0 where
  pub by : Rule
  pub added : new ≡ old ++ record { left = left; right = right; rule = by } ∷ []
  pub number : id ≡ length old
  pub assumes : tag_of by ≡ []
  pub rests_on : premises by ≡ rests

-- the name, of a numeric sort, has the value, and the step of this number states it
pub record IsStated (sig : Signature) (ts : List Term) (steps : List Step) (real : Bool) (name : ℕ) (value : Lin) (step : ℕ) : Type 0 where
  pub written : IsWritten sig ts real name value
  pub stated : StatesValue steps step real name value

-- Steps that stand for others.
use Rattle.std.specs.Prelude.{ℕ, List, ◌≡◌, slice_get, Some}
use Rattle.ae_core.specs.declared.terms.Term.{Term}
use Rattle.ae_core.specs.declared.problems.Signature.{Signature}
use Rattle.ae_just.specs.declared.steps.Step.{Step}
use Rattle.ae_just.specs.declared.steps.Rule.TheVariants.{Hyp}
use Rattle.ae_just.specs.Needed.{RestsOn}
use Rattle.ae_just.specs.Steps.{fact_of, literal, Fits}

-- the step of number n says what this one says
pub record SaysAs (ts : List Term) (steps : List Step) (n : ℕ) (s : Step) : Type 0 where
  pub step : Step
  pub is : slice_get steps n ≡ Some step
  pub same : fact_of ts step ≡ fact_of ts s

-- the step of number id rests on an assumption of the literal of this step, under the tag
pub record IsAssumedBy (ts : List Term) (steps : List Step) (id : ℕ) (s : Step) (tag : ℕ) : Type 0 where
  pub number : ℕ
  pub step : Step
  pub rests : RestsOn steps id number
  pub is : slice_get steps number ≡ Some step
  pub assumed : step.rule ≡ Hyp tag
  pub same : literal ts s ≡ literal ts step

-- steps of which that of number n says what the step of number id says, and whose assumptions are those that this rests on
pub record IsShort (sig : Signature) (ts : List Term) (steps : List Step) (id : ℕ) (short : List Step) (n : ℕ) : Type 0 where
  pub fits : Fits sig ts short
  pub says : (s : Step) → slice_get steps id ≡ Some s → SaysAs ts short n s
  pub assumes : (k tag : ℕ) (s : Step) → slice_get short k ≡ Some s → s.rule ≡ Hyp tag → IsAssumedBy ts steps id s tag

-- Names of fields that steps equate.
use Rattle.std.specs.Prelude.{ℕ, List, ◌≡◌, slice_get, Some}
use Rattle.ae_core.specs.declared.terms.Sort.{Sort}
use Rattle.ae_core.specs.declared.terms.Term.{Term}
use Rattle.ae_core.specs.declared.terms.Head.TheVariants as head
use Rattle.ae_store.specs.declared.nodes.Node.{Node}
use Rattle.ae_just.specs.declared.steps.Step.{Step}
use Rattle.ae_state_steps.specs.ValueSteps.{StatesEqual}
use Rattle.ae_strips.specs.Applied.{IsAppliedTo}
use Rattle.ae_strips.specs.Stripping.{IsFieldOf, IsWrittenWith}

-- the names are the same field of two names that the step equates
pub record AreMoved (ts : List Term) (steps : List Step) (left right id : ℕ) : Type 0 where
  pub type : ℕ
  pub place : ℕ
  pub sorts : List Sort
  pub first : ℕ
  pub second : ℕ
  pub left_is : IsFieldOf ts left type place sorts first
  pub right_is : IsFieldOf ts right type place sorts second
  pub equal : StatesEqual steps id first second

-- the name is a field of a written record, in whose place the other stands
pub record IsFieldOfWritten (ts : List Term) (n u : ℕ) : Type 0 where
  pub type : ℕ
  pub place : ℕ
  pub sorts : List Sort
  pub owner : ℕ
  pub field : IsFieldOf ts n type place sorts owner
  pub written : IsWrittenWith ts owner type place sorts u

-- the name m is the field, of the name b, that n is of another
pub record IsSameField (nodes : List Node) (n k place b m : ℕ) : Type 0 where
  pub node : Node
  pub there : slice_get nodes n ≡ Some node
  pub same : IsAppliedTo nodes m (head.Field k place) node.sorts b

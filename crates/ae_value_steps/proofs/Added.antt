-- What a step that was added says, and that the steps before it stay.
use Rattle.std.specs.Prelude.{ℕ, Bool, List, [], ◌∷◌, ◌++◌, ◌≡◌, slice_get, Some}
use Rattle.std.proofs.Common.{ap, ◌∙◌}
use Rattle.ae_base.proofs.ListFacts.{get_append, get_seam}
use Rattle.ae_core.specs.declared.terms.Term.{Term}
use Rattle.ae_core.specs.declared.problems.Signature.{Signature}
use Rattle.ae_num.specs.declared.forms.Lin.{Lin}
use Rattle.ae_store.specs.Growing.{IsFront}
use Rattle.ae_just.specs.declared.steps.Side.{Side}
use Rattle.ae_just.specs.declared.steps.Side.TheVariants as side
use Rattle.ae_just.specs.declared.steps.Step.{Step}
use Rattle.ae_state_steps.specs.ValueSteps.{StatesValue, StatesEqual, name_side, value_side}
use Rattle.ae_value_steps.specs.Stating.{AddsStep, IsStated}

module _ (old new : List Step) (id : ℕ) (left right : Side) (rests : List ℕ) (a : AddsStep old new id left right rests) where
  pub front : IsFront old new
  front = (record { left = left; right = right; rule = a.by } ∷ [], a.added)

  pub there : slice_get new id ≡ Some (record { left = left; right = right; rule = a.by })
  there = ap (λ (l : List Step). slice_get l id) a.added ∙ ap (slice_get (old ++ record { left = left; right = right; rule = a.by } ∷ [])) a.number ∙ get_seam old [] (record { left = left; right = right; rule = a.by })

pub states_value : (old new : List Step) (id : ℕ) (real : Bool) (n : ℕ) (l : Lin) (rests : List ℕ) → AddsStep old new id (name_side real n l) (value_side real l) rests → StatesValue new id real n l
states_value old new id real n l rests a = record { by = a.by; there = there old new id (name_side real n l) (value_side real l) rests a }

pub states_equal : (old new : List Step) (id m n : ℕ) (rests : List ℕ) → AddsStep old new id (side.Name m) (side.Name n) rests → StatesEqual new id m n
states_equal old new id m n rests a = record { by = a.by; there = there old new id (side.Name m) (side.Name n) rests a }

-- ---- steps that stay
pub kept_there : (old new : List Step) → IsFront old new → (id : ℕ) (s : Step) → slice_get old id ≡ Some s → slice_get new id ≡ Some s
kept_there old new f id s e = ap (λ (l : List Step). slice_get l id) f.1 ∙ get_append old f.0 id s e

pub value_kept : (old new : List Step) → IsFront old new → (id : ℕ) (real : Bool) (n : ℕ) (l : Lin) → StatesValue old id real n l → StatesValue new id real n l
value_kept old new f id real n l s = record { by = s.by; there = kept_there old new f id _ s.there }

pub equal_kept : (old new : List Step) → IsFront old new → (id m n : ℕ) → StatesEqual old id m n → StatesEqual new id m n
equal_kept old new f id m n s = record { by = s.by; there = kept_there old new f id _ s.there }

pub stated_kept : (sig : Signature) (ts : List Term) (old new : List Step) → IsFront old new → (real : Bool) (n : ℕ) (l : Lin) (id : ℕ) → IsStated sig ts old real n l id → IsStated sig ts new real n l id
stated_kept sig ts old new f real n l id s = record { written = s.written; stated = value_kept old new f id real n l s.stated }

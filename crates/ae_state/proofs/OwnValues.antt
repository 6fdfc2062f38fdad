-- The step that says that a name is its own value rests on nothing.
use Rattle.std.specs.Prelude.{ℕ, ◌<◌, Bool, List, [], ◌≡◌, length, slice_get, Some}
use Rattle.std.proofs.Common.{ap, ◌∙◌, subst}
use Rattle.std.proofs.lemmas.Option.{slice_get_within}
use Rattle.ae_base.proofs.ListFacts.{get_seam}
use Rattle.ae_core.specs.declared.terms.Term.{Term}
use Rattle.ae_core.specs.declared.proofs.EqLine.{EqLine}
use Rattle.ae_core.specs.declared.problems.Signature.{Signature}
use Rattle.ae_num.specs.declared.forms.Lin.{Lin}
use Rattle.ae_store.proofs.PartLaws.{in_none}
use Rattle.ae_just.specs.declared.steps.Step.{Step}
use Rattle.ae_just.specs.Steps.{fact_of, Fits}
use Rattle.ae_state_steps.specs.ValueSteps.{name_side, value_side, IsNumberName, IsWritten}
use Rattle.ae_value_steps.specs.Stating.{AddsStep}
use Rattle.ae_value_table.specs.Table.{own}
use Rattle.ae_value_fitting.proofs.Resting.{rests_on_named}
use Rattle.ae_value_fitting.proofs.Written.{own_normal}
use Rattle.ae_conflicts.specs.declared.assumed.Assumed.{Assumed}
use Rattle.ae_conflicts.specs.Saying.{EndsWith, RestsOnAssumed}
use Rattle.ae_state.specs.Explaining.{EndsWithValue}

pub own_written : (sig : Signature) (ts : List Term) (real : Bool) (n : ℕ) → IsNumberName sig ts real n → IsWritten sig ts real n (own n)
own_written sig ts real n h = record { name = h; parts = (h, tt); normal = own_normal n }

module _ (sig : Signature) (ts : List Term) (old new : List Step) (real : Bool) (n : ℕ) (value : Lin) (is : value ≡ own n) (id : ℕ)
    (added : AddsStep old new id (name_side real n value) (value_side real value) []) where
  abbrev own_step : Step
  own_step = record { left = name_side real n value; right = value_side real value; rule = added.by }

  own_there : slice_get new id ≡ Some own_step
  own_there = ap (slice_get new) added.number ∙ ap (λ steps. slice_get steps (length old)) added.added ∙ get_seam old [] own_step

  pub own_within : id < length new
  own_within = slice_get_within new id own_step own_there

  pub own_rests : Fits sig ts new → (held : List (ℕ × Assumed)) → RestsOnAssumed ts new held id
  own_rests fits held =
      let r = rests_on_named sig ts old new id (name_side real n value) (value_side real value) [] added fits in
      record {
        each = λ k tag s on at rule.
            let w = r.each k tag s on at rule in
            absurd (in_none w.by w.one);
      }

  pub own_said : (lines : List EqLine) → ((s : Step) → slice_get new id ≡ Some s → EndsWith lines (fact_of ts s)) → EndsWithValue ts real n (own n) lines
  own_said lines ends = subst (λ (v : Lin). EndsWithValue ts real n v lines) is (ends own_step own_there)

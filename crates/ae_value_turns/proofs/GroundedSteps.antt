-- Steps that rest on assumed literals alone.
use Rattle.std.specs.Prelude.{ℕ, ◌<◌, ◌⊎◌, List, [], ◌∷◌, ◌≡◌, length, slice_get, Some}
use Rattle.std.proofs.Common.{sym, subst, inl, inr}
use Rattle.ae_conflicts.specs.Saying.{IsAssumedAt, RestsOnAssumed}
use Rattle.ae_conflicts.specs.declared.assumed.Assumed.{Assumed}
use Rattle.ae_core.specs.declared.terms.Term.{Term}
use Rattle.ae_core.specs.declared.problems.Signature.{Signature}
use Rattle.ae_just.specs.Needed.{RestsOn}
use Rattle.ae_just.specs.Steps.{Fits, literal}
use Rattle.ae_just.specs.declared.steps.Rule.TheVariants as rule
use Rattle.ae_just.specs.declared.steps.Side.{Side}
use Rattle.ae_just.specs.declared.steps.Step.{Step}
use Rattle.ae_just.proofs.EmitLaws.{rest_on_earlier}
use Rattle.ae_multiset_steps.specs.Equating.{RestsOnThese}
use Rattle.ae_multiset_steps.proofs.Resting.{rests_as_before}
use Rattle.ae_store.specs.Growing.{IsFront}
use Rattle.ae_store.specs.Parts.{IsIn}
use Rattle.ae_store.proofs.PartLaws.{is_one}
use Rattle.ae_value_fitting.specs.Sources.{SaysValue, RestsOnValues, AreFromValues}
use Rattle.ae_value_fitting.specs.Fitting.{AreSaid}
use Rattle.ae_value_fitting.proofs.Resting.{rests_on_named, says_within}
use Rattle.ae_value_steps.specs.Stating.{AddsStep}
use Rattle.ae_value_table.specs.Table.{Contents}
use Rattle.ae_value_turns.specs.Renewed.{AreGrounded}

module _ (ts : List Term) (held : List (ℕ × Assumed)) where
  abbrev pub IsGrounded : List Step → ℕ → Type 0
  IsGrounded steps id = RestsOnAssumed ts steps held id

  -- ---- a step that rests on steps that do
  pub these_ground : (old new : List Step) (given : List ℕ) (id : ℕ) → ((p : ℕ) → IsIn p given → IsGrounded old p) → RestsOnThese old new id given → IsGrounded new id
  these_ground old new given id h r = record { each = λ k tag s q at is. let w = r.each k tag s q at is in (h w.by w.one).each k tag s w.rests w.there is }

  under_by : (old : List Step) (c : Contents) (more : List ℕ) → ((p : ℕ) → IsIn p more → IsGrounded old p) → AreGrounded ts held old c → (by k tag : ℕ) (s : Step) → IsIn by more ⊎ SaysValue c by → RestsOn old by k
      → slice_get old k ≡ Some s → s.rule ≡ rule.Hyp tag → (place : ℕ) × IsAssumedAt held place (literal ts s) tag
  under_by old c more given all by k tag s (inl m) r at is = (given by m).each k tag s r at is
  under_by old c more given all by k tag s (inr v) r at is = (all by v).each k tag s r at is

  -- or on steps that say values
  pub values_ground : (old new : List Step) (c : Contents) (more : List ℕ) (id : ℕ) → ((p : ℕ) → IsIn p more → IsGrounded old p) → AreGrounded ts held old c → RestsOnValues old new c more id → IsGrounded new id
  values_ground old new c more id given all r =
      record { each = λ k tag s q at is. let w = r.each k tag s q at is in under_by old c more given all w.by k tag s w.one w.rests w.there is }

  -- the steps that say values after a put
  pub put_ground : (old new : List Step) (c d : Contents) (more : List ℕ) → ((p : ℕ) → IsIn p more → IsGrounded old p) → AreGrounded ts held old c → AreFromValues old new c d more → AreGrounded ts held new d
  put_ground old new c d more given all from id v = values_ground old new c more id given all (from.each id v)

  module _ (sig : Signature) (old new : List Step) where
    -- a step that stood rests on what it rested on
    pub still_grounded : IsFront old new → Fits sig ts new → (id : ℕ) → id < length old → IsGrounded old id → IsGrounded new id
    still_grounded f fits id l r =
        these_ground old new (id ∷ []) id (λ p m. subst (IsGrounded old) (sym (is_one p id m)) r) (rests_as_before old new f (rest_on_earlier sig ts new fits.allowed) id l)

    pub added_ground : (id : ℕ) (l r : Side) (given : List ℕ) → AddsStep old new id l r given → Fits sig ts new → ((p : ℕ) → IsIn p given → IsGrounded old p) → IsGrounded new id
    added_ground id l r given a fits h = these_ground old new given id h (rests_on_named sig ts old new id l r given a fits)

    -- so do the steps that say values
    pub all_still : IsFront old new → Fits sig ts new → (c : Contents) → AreSaid sig ts old c → AreGrounded ts held old c → AreGrounded ts held new c
    all_still f fits c said all id v = still_grounded f fits id (says_within sig ts old c said id v) (all id v)

-- What the steps that say values rest on, where steps come behind.
use Rattle.std.specs.Prelude.{ℕ, ◌<◌, ◌≡◌, ◌⊎◌, List, [], ◌∷◌, length, slice_get, Ok, Some}
use Rattle.std.proofs.Common.{sym, ◌∙◌, subst}
use Rattle.std.proofs.lemmas.Option.{same_Some, slice_get_within}
use Rattle.ae_core.specs.declared.terms.Term.{Term}
use Rattle.ae_core.specs.declared.problems.Signature.{Signature}
use Rattle.ae_store.specs.Growing.{IsFront}
use Rattle.ae_store.specs.Parts.{IsIn}
use Rattle.ae_store.proofs.PartLaws.{is_one}
use Rattle.ae_just.specs.Needed.{RestsOn}
use Rattle.ae_just.specs.Steps.{Fits}
use Rattle.ae_just.specs.declared.steps.Rule.TheVariants as rule
use Rattle.ae_just.specs.declared.steps.Side.{Side}
use Rattle.ae_just.specs.declared.steps.Step.{Step}
use Rattle.ae_just.proofs.EmitLaws.{rest_on_earlier}
use Rattle.ae_multiset_steps.specs.Equating.{RestsOnThese}
use Rattle.ae_multiset_steps.proofs.Resting.{rests_as_before, rests_added}
use Rattle.ae_value_steps.specs.Stating.{AddsStep}
use Rattle.ae_value_table.specs.Table.{Contents}
use Rattle.ae_value_fitting.specs.Fitting.{AreSaid}
use Rattle.ae_value_fitting.specs.Sources.{IsPutFor, by_number, by_leaf, SaysValue, IsUnderValues, RestsOnValues}

-- a step that is added rests on those that it names
pub rests_on_named : (sig : Signature) (ts : List Term) (old new : List Step) (id : ℕ) (left right : Side) (rests : List ℕ) → AddsStep old new id left right rests → Fits sig ts new → RestsOnThese old new id rests
rests_on_named sig ts old new id left right rests a fits =
    subst (RestsOnThese old new id) a.rests_on (rests_added {E = ℕ} sig ts old new (record { left = left; right = right; rule = a.by }) (Ok id) a.added a.number fits a.assumes)

module _ (sig : Signature) (ts : List Term) where
  -- a step that stood rests on itself
  pub rests_still : (old new : List Step) → IsFront old new → Fits sig ts new → (c : Contents) (more : List ℕ) (id : ℕ) → id < length old → IsIn id more ⊎ SaysValue c id → RestsOnValues old new c more id
  rests_still old new f fits c more id l one = record { each = each }
    where
      each : (k tag : ℕ) (s : Step) → RestsOn new id k → slice_get new k ≡ Some s → s.rule ≡ rule.Hyp tag → IsUnderValues old c more k s
      each k tag s r at is =
          let w = (rests_as_before old new f (rest_on_earlier sig ts new fits.allowed) id l).each k tag s r at is in
          record { by = id; one = one; rests = subst (λ (x : ℕ). RestsOn old x k) (is_one w.by id w.one) w.rests; there = w.there }

  -- a step that rests on steps of which each does
  pub rests_by : (old mid new : List Step) (c : Contents) (more given : List ℕ) (id : ℕ) → RestsOnThese mid new id given → ((p : ℕ) → IsIn p given → RestsOnValues old mid c more p) → RestsOnValues old new c more id
  rests_by old mid new c more given id r h = record { each = each }
    where
      each : (k tag : ℕ) (s : Step) → RestsOn new id k → slice_get new k ≡ Some s → s.rule ≡ rule.Hyp tag → IsUnderValues old c more k s
      each k tag s q at is = let w = r.each k tag s q at is in (h w.by w.one).each k tag s w.rests w.there is

  -- steps that come behind change nothing
  pub rests_longer : (old mid new : List Step) → IsFront mid new → Fits sig ts new → (c : Contents) (more : List ℕ) (id : ℕ) → id < length mid → RestsOnValues old mid c more id → RestsOnValues old new c more id
  rests_longer old mid new f fits c more id l r =
      rests_by old mid new c more (id ∷ []) id (rests_as_before mid new f (rest_on_earlier sig ts new fits.allowed) id l) (λ p m. subst (RestsOnValues old mid c more) (sym (is_one p id m)) r)

  -- the steps that say values are steps
  pub says_within : (steps : List Step) (c : Contents) → AreSaid sig ts steps c → (id : ℕ) → SaysValue c id → id < length steps
  says_within steps c said id s = by_put s.put
    where
      by_put : IsPutFor c s.name → id < length steps
      by_put (by_number row at) =
          let w = said.numbers s.name row at in
          subst (λ (k : ℕ). k < length steps) (same_Some w.step id (sym w.just ∙ s.just)) (slice_get_within steps w.step _ w.stated.stated.there)
      by_put (by_leaf m at) =
          let w = said.leaves s.name m at in
          subst (λ (k : ℕ). k < length steps) (same_Some w.step id (sym w.just ∙ s.just)) (slice_get_within steps w.step _ w.equal.there)

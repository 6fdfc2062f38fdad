-- The step that a difference is 0 rests on the step that equates the two names, and on steps that say values.
use Rattle.std.specs.Prelude.{ℕ, ◌<◌, ◌⊎◌, List, [], ◌∷◌, length}
use Rattle.std.proofs.Common.{refl, inl, inr}
use Rattle.ae_base.proofs.AllOf.{all_at}
use Rattle.ae_core.specs.declared.terms.Term.{Term}
use Rattle.ae_core.specs.declared.problems.Signature.{Signature}
use Rattle.ae_store.specs.Growing.{IsFront}
use Rattle.ae_store.specs.Parts.{IsIn}
use Rattle.ae_store.proofs.EnterLaws.{front_then}
use Rattle.ae_store.proofs.PartLaws.{in_none}
use Rattle.ae_just.specs.declared.steps.Side.{Side}
use Rattle.ae_just.specs.declared.steps.Step.{Step}
use Rattle.ae_just.specs.Steps.{Fits}
use Rattle.ae_value_steps.specs.Stating.{AddsStep}
use Rattle.ae_value_table.specs.Table.{Contents}
use Rattle.ae_value_fitting.specs.Fitting.{AreSaid}
use Rattle.ae_value_fitting.specs.Sources.{SaysValue, RestsOnValues}
use Rattle.ae_value_fitting.proofs.Resting.{rests_on_named, rests_still, rests_by, rests_longer}
use Rattle.ae_equal_steps.proofs.Adding.{rests_sooner}

-- what rests on steps that say values rests on these and others
rests_wider : (old new : List Step) (c : Contents) (more : List ℕ) (id : ℕ) → RestsOnValues old new c [] id → RestsOnValues old new c more id
rests_wider old new c more id r = record { each = λ k tag s q at is. let w = r.each k tag s q at is in record { by = w.by; one = by_one w.by w.one; rests = w.rests; there = w.there } }
  where
    by_one : (by : ℕ) → IsIn by [] ⊎ SaysValue c by → IsIn by more ⊎ SaysValue c by
    by_one by (inl m) = absurd (in_none by m)
    by_one by (inr v) = inr v

module _ (sig : Signature) (ts : List Term) (c : Contents) (old mid last : List Step) (front : IsFront old mid) (mid_fits : Fits sig ts mid) (more : IsFront mid last) (last_fits : Fits sig ts last) (said : AreSaid sig ts old c) where
  pub three_rest : (new : List Step) (equal first second id : ℕ) (l r : Side) → equal < length old → first < length mid → RestsOnValues old mid c [] first → RestsOnValues mid last c [] second
      → AddsStep last new id l r (equal ∷ first ∷ second ∷ []) → Fits sig ts new → RestsOnValues old new c (equal ∷ []) id
  three_rest new equal first second id l r e f a b added fits =
      let given : List ℕ = equal ∷ first ∷ second ∷ [] in
      let still : RestsOnValues old last c (equal ∷ []) equal = rests_still sig ts old last (front_then old mid last front more) last_fits c (equal ∷ []) equal e (inl (record { place = 0; is = refl })) in
      let of_first : RestsOnValues old last c (equal ∷ []) first = rests_wider old last c (equal ∷ []) first (rests_longer sig ts old mid last more last_fits c [] first f a) in
      let of_second : RestsOnValues old last c (equal ∷ []) second = rests_wider old last c (equal ∷ []) second (rests_sooner sig ts old mid last front mid_fits c said second b) in
      rests_by sig ts old last new c (equal ∷ []) given id (rests_on_named sig ts last new id l r given added fits)
      (λ p m. all_at (RestsOnValues old last c (equal ∷ [])) given m.place p (still, (of_first, (of_second, tt))) m.is)

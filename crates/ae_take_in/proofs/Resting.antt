-- What the steps that state numbers rest on, one after the other.
use Rattle.std.specs.Prelude.{ℕ, ◌<◌, ◌≡◌, ◌⊎◌, List, [], ◌∷◌, length, slice_get, Some}
use Rattle.std.proofs.Common.{inl, inr}
use Rattle.ae_core.specs.declared.terms.Term.{Term}
use Rattle.ae_core.specs.declared.problems.Signature.{Signature}
use Rattle.ae_store.specs.Growing.{IsFront}
use Rattle.ae_store.specs.Parts.{IsIn}
use Rattle.ae_store.proofs.PartLaws.{in_none}
use Rattle.ae_just.specs.Needed.{RestsOn}
use Rattle.ae_just.specs.Steps.{Fits}
use Rattle.ae_just.specs.declared.steps.Rule.TheVariants as rule
use Rattle.ae_just.specs.declared.steps.Side.{Side}
use Rattle.ae_just.specs.declared.steps.Step.{Step}
use Rattle.ae_value_steps.specs.Stating.{AddsStep}
use Rattle.ae_value_steps.proofs.Added.{stated_kept, equal_kept}
use Rattle.ae_value_table.specs.Table.{Contents}
use Rattle.ae_value_fitting.specs.Fitting.{AreSaid}
use Rattle.ae_value_fitting.specs.Sources.{SaysValue, IsUnderValues, RestsOnValues}
use Rattle.ae_value_fitting.proofs.Resting.{rests_on_named, rests_still, rests_by, rests_longer, says_within}
use Rattle.ae_strips.specs.Stripping.{RestsOnNothing}
use Rattle.ae_strips.proofs.Freedom.{each_none, each_one, each_two}

-- a step that rests on no assumption
pub rests_free : (old new : List Step) (c : Contents) (id : ℕ) → RestsOnNothing new id → RestsOnValues old new c [] id
rests_free old new c id h = record { each = λ k tag s q at is. absurd (h k tag s q at is) }

module _ (sig : Signature) (ts : List Term) where
  -- steps that come behind change nothing
  pub said_longer : (old new : List Step) → IsFront old new → (c : Contents) → AreSaid sig ts old c → AreSaid sig ts new c
  said_longer old new f c said = record {
    numbers = λ n row at. (let w = said.numbers n row at in record { real = w.real; step = w.step; just = w.just; stated = stated_kept sig ts old new f w.real n row.value w.step w.stated });
    leaves = λ n m at. (let w = said.leaves n m at in record { sort = w.sort; sorted = w.sorted; other = w.other; step = w.step; just = w.just; equal = equal_kept old new f w.step n m w.equal });
  }

  -- what rests on steps that say values, some steps later
  pub rests_since : (old mid new : List Step) → IsFront old mid → Fits sig ts mid → (c : Contents) → AreSaid sig ts old c → (id : ℕ) → RestsOnValues mid new c [] id → RestsOnValues old new c [] id
  rests_since old mid new f fits c said id r = record { each = each }
    where
      by_one : (by : ℕ) → IsIn by [] ⊎ SaysValue c by → (k tag : ℕ) (s : Step) → RestsOn mid by k → slice_get mid k ≡ Some s → s.rule ≡ rule.Hyp tag → IsUnderValues old c [] k s
      by_one by (inl i) k tag s q at is = absurd (in_none by i)
      by_one by (inr v) k tag s q at is = (rests_still sig ts old mid f fits c [] by (says_within sig ts old c said by v) (inr v)).each k tag s q at is

      each : (k tag : ℕ) (s : Step) → RestsOn new id k → slice_get new k ≡ Some s → s.rule ≡ rule.Hyp tag → IsUnderValues old c [] k s
      each k tag s q at is = let w = r.each k tag s q at is in by_one w.by w.one k tag s w.rests w.there is

  -- a step that was added, by the steps that it names
  pub rests_of : (old mid new : List Step) (id : ℕ) (left right : Side) (rests : List ℕ) → AddsStep mid new id left right rests → Fits sig ts new → (c : Contents)
      → ((p : ℕ) → IsIn p rests → RestsOnValues old mid c [] p) → RestsOnValues old new c [] id
  rests_of old mid new id left right rests a fits c each = rests_by sig ts old mid new c [] rests id (rests_on_named sig ts mid new id left right rests a fits) each

  pub rests_none : (old new : List Step) (id : ℕ) (left right : Side) → AddsStep old new id left right [] → Fits sig ts new → (c : Contents) → RestsOnValues old new c [] id
  rests_none old new id left right a fits c = rests_of old old new id left right [] a fits c (each_none (RestsOnValues old old c []))

  pub rests_one : (old mid new : List Step) (x id : ℕ) (left right : Side) → AddsStep mid new id left right (x ∷ []) → Fits sig ts new → (c : Contents) → RestsOnValues old mid c [] x → RestsOnValues old new c [] id
  rests_one old mid new x id left right a fits c r = rests_of old mid new id left right (x ∷ []) a fits c (λ p m. each_one (RestsOnValues old mid c []) x p r m)

  pub rests_two : (old a b new : List Step) (c : Contents) → AreSaid sig ts old c → IsFront old a → Fits sig ts a → IsFront a b → Fits sig ts b → Fits sig ts new → (x y id : ℕ) (left right : Side) → AddsStep b new id left right (x ∷ y ∷ [])
      → x < length a → RestsOnValues old a c [] x → RestsOnValues a b c [] y → RestsOnValues old new c [] id
  rests_two old a b new c said f fa g fb fn x y id left right adds l rx ry =
      rests_of old b new id left right (x ∷ y ∷ []) adds fn c (λ p m. each_two (RestsOnValues old b c []) x y p (rests_longer sig ts old a b g fb c [] x l rx) (rests_since old a b f fa c said y ry) m)

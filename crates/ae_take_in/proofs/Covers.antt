-- The steps that say the number and the leaf of a name that comes down to another.
use Rattle.std.specs.Prelude.{ℕ, ◌≡◌, List, [], ◌∷◌, Option, Some, None}
use Rattle.std.proofs.Common.{refl, sym, ap, ◌∙◌, subst, inr}
use Rattle.std.proofs.lemmas.Option.{same_Some, slice_get_within}
use Rattle.ae_base.specs.Options.{or_else}
use Rattle.ae_core.specs.declared.terms.Term.{Term}
use Rattle.ae_core.specs.declared.problems.Signature.{Signature}
use Rattle.ae_pmap.specs.Forest.{present}
use Rattle.ae_pmap.specs.Pairs.{found}
use Rattle.ae_store.specs.Growing.{IsFront}
use Rattle.ae_just.specs.Steps.{Fits}
use Rattle.ae_just.specs.declared.steps.Side.{Side}
use Rattle.ae_just.specs.declared.steps.Step.{Step}
use Rattle.ae_state_steps.specs.ValueSteps.{StatesEqual}
use Rattle.ae_strips.specs.Stripping.{RestsOnNothing, IsEquating}
use Rattle.ae_strips.proofs.Freedom.{free_kept, each_two}
use Rattle.ae_value_steps.specs.Stating.{AddsStep}
use Rattle.ae_value_steps.proofs.Added.{equal_kept}
use Rattle.ae_value_table.specs.Table.{Contents, leaf_at, just_at}
use Rattle.ae_value_fitting.specs.Fitting.{AreSaid}
use Rattle.ae_value_fitting.specs.Sources.{SaysValue, by_leaf, RestsOnValues}
use Rattle.ae_value_fitting.proofs.Resting.{rests_still, says_within}
use Rattle.ae_take_in.proofs.Resting.{rests_free, rests_since, rests_of}

module _ (sig : Signature) (ts : List Term) (js : List Step) (c : Contents) (said : AreSaid sig ts js c) where
  -- a step that rests on one that equates names and on one that states a number
  pub covered_rests : (a b ks : List Step) → IsFront js a → Fits sig ts a → IsFront a b → Fits sig ts b → Fits sig ts ks → (n m id w step : ℕ) (left right : Side) → IsEquating a n m id → RestsOnValues a b c [] w
      → AddsStep b ks step left right (id ∷ w ∷ []) → RestsOnValues js ks c [] step
  covered_rests a b ks f fa g fb fk n m id w step left right eq rw adds =
      let free : RestsOnNothing b id = free_kept sig ts a b fb g id (slice_get_within a id _ (eq.equal).there) eq.free in
      rests_of sig ts js b ks step left right (id ∷ w ∷ []) adds fk c
      (λ p i. each_two (RestsOnValues js b c []) id w p (rests_free js b c id free) (rests_since sig ts js a b f fa c said w rw) i)

  -- the leaf of a name without one
  pub no_leaf : (k : ℕ) → ((m step : ℕ) → found (present c.leaves) k ≡ Some m → just_at c k ≡ Some step → ⊥) → k ≡ leaf_at c k
  no_leaf k none = by_found (found (present c.leaves) k) refl
    where
      by_found : (o : Option ℕ) → found (present c.leaves) k ≡ o → k ≡ leaf_at c k
      by_found None e = sym (ap (λ (o : Option ℕ). or_else o k) e)
      by_found (Some m) e = let w = said.leaves k m e in absurd (none m w.step e w.just)

  -- the step that says a leaf
  module _ (a : List Step) (front : IsFront js a) (fits : Fits sig ts a) (k m step : ℕ) (at : found (present c.leaves) k ≡ Some m) (just : just_at c k ≡ Some step) where
    pub leaf_equal : (leaf : ℕ) → leaf ≡ leaf_at c k → StatesEqual a step k leaf
    leaf_equal leaf e =
        let w = said.leaves k m at in
        let number : w.step ≡ step = same_Some w.step step (sym w.just ∙ just) in
        let same : m ≡ leaf = sym (e ∙ ap (λ (o : Option ℕ). or_else o k) at) in
        subst (StatesEqual a step k) same (equal_kept js a front step k m (subst (λ (i : ℕ). StatesEqual js i k m) number w.equal))

    leaf_rests : RestsOnValues js a c [] step
    leaf_rests =
        let v : SaysValue c step = record { name = k; put = by_leaf m at; just = just } in
        rests_still sig ts js a front fits c [] step (says_within sig ts js c said step v) (inr v)

    pub chained_rests : (ks : List Step) → Fits sig ts ks → (n id new : ℕ) (left right : Side) → IsEquating a n k id → AddsStep a ks new left right (id ∷ step ∷ []) → RestsOnValues js ks c [] new
    chained_rests ks fk n id new left right eq adds =
        rests_of sig ts js a ks new left right (id ∷ step ∷ []) adds fk c (λ p i. each_two (RestsOnValues js a c []) id step p (rests_free js a c id eq.free) leaf_rests i)

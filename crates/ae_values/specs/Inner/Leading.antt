-- A name that is put for another, and the names that had that one as their leaf.
use Rattle.std.specs.Prelude.{ℕ, List, ◌≡◌, ◌≢◌, ◌⊎◌, Some}
use Rattle.std.specs.List.{AllByRecursion}
use Rattle.ae_core.specs.declared.terms.Sort.{Sort}
use Rattle.ae_pmap.specs.Forest.{present}
use Rattle.ae_pmap.specs.Pairs.{found}
use Rattle.ae_just.specs.declared.steps.Step.{Step}
use Rattle.ae_just.specs.Steps.{Fits}
use Rattle.ae_settled.specs.Valued.{AreValues, IsOwnLeaf}
use Rattle.ae_state_steps.specs.ValueSteps.{StatesEqual}
use Rattle.ae_store.specs.Shapes.{shapes}
use Rattle.ae_store.specs.Stores.{Stored, IsStore}
use Rattle.ae_store.specs.Terms.{terms}
use Rattle.ae_value_table.specs.Table.{Contents, just_at, held}
use Rattle.ae_multiset_steps.specs.Equating.{RestsOnThese}
use Rattle.ae_value_fitting.specs.Sources.{RestsOnValues}
use Rattle.ae_values.specs.declared.occurrences.Follower.{Follower}
use Rattle.ae_value_fitting.specs.Fitting.{system_in, ArePatterns, AreSaid}
use Rattle.ae_values.specs.Inner.Before.{IsFollower}

-- the name has the leaf, and a step that was added says so and rests on these alone
pub record IsLed (before after : List Step) (leaf : ℕ) (given : List ℕ) (c : Contents) (n : ℕ) : Type 0 where
  pub there : found (present c.leaves) n ≡ Some leaf
  pub step : ℕ
  pub just : just_at c n ≡ Some step
  pub equal : StatesEqual after step n leaf
  pub rests : RestsOnThese before after step given

-- the name has the leaf, and a step says so and rests on the steps of the old values alone, and on these
pub record IsCarriedTo (before after : List Step) (leaf : ℕ) (more : List ℕ) (old c : Contents) (n : ℕ) : Type 0 where
  pub there : found (present c.leaves) n ≡ Some leaf
  pub step : ℕ
  pub just : just_at c n ≡ Some step
  pub equal : StatesEqual after step n leaf
  pub rests : RestsOnValues before after old more step

-- the followers were led to the leaf, and other names have their leaves and steps still
pub record AreLed (before after : List Step) (leaf : ℕ) (more : List ℕ) (old new : Contents) (followers : List Follower) : Type 0 where
  pub done : AllByRecursion (λ follower. IsCarriedTo before after leaf more old new follower.name) followers
  pub kept : (n : ℕ) → IsFollower followers n ⊎ ((found (present new.leaves) n ≡ found (present old.leaves) n) × (just_at new n ≡ just_at old n))

-- a name may be put for another where a step equates the two, which are their own leaves
pub record IsLeafPuttable (s : Stored) (steps : List Step) (c : Contents) (name leaf just : ℕ) : Type 0 where
  pub store : IsStore s.signature s.nodes
  pub fits : Fits s.signature (terms (shapes s.nodes)) steps
  pub patterns : ArePatterns s.signature (terms (shapes s.nodes)) (held c)
  pub values : AreValues s.signature (system_in (terms (shapes s.nodes)) c)
  pub said : AreSaid s.signature (terms (shapes s.nodes)) steps c
  pub sort : Sort
  pub own : IsOwnLeaf s.signature (system_in (terms (shapes s.nodes)) c) sort name
  pub over : IsOwnLeaf s.signature (system_in (terms (shapes s.nodes)) c) sort leaf
  pub differ : leaf ≢ name
  pub states : StatesEqual steps just name leaf
